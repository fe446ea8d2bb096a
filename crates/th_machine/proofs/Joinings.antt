-- The joined pairs, one field after the other.
use Rattle.std.proofs.Common.{◌≡◌, ℕ, ◌+◌, ◌<◌, ◌≤◌, inl, inr, eqb, List, [], ◌∷◌, None, Some, ◌++◌, length, take, get_or, map, sym, ap, subst, ◌∙◌, arith}
use Rattle.std.specs.Prelude.{Contains, filter, slice_get}
use Rattle.std.specs.Cmp.Lexicographic.{slice_cmp}
use Rattle.std.specs.List.{AllByRecursion, dedup}
use Rattle.std.specs.List.Sorted.{IsPermutation, IsSorted, IsStrictlySortedBy}
use Rattle.std.specs.Ordering.{nat_cmp, ordering_then}
use Rattle.std.specs.declared.cmp.Ordering.TheVariants.{Less, Equal}
use Rattle.std.proofs.lemmas.List.{append-nil, get_or-map, get_or-take, get_or_default, length-map, length-take-le, map-append, take_all, take_more}
use Rattle.std.proofs.lemmas.List.Elements.{Contains-append_cases, Contains-append_left, Contains-append_right, Contains-get_or, Contains-push, Contains-push_cases}
use Rattle.std.proofs.lemmas.Map.Keys.{below_from_sorted}
use Rattle.th_base.specs.Launchable.{is_activity}
use Rattle.th_base.specs.declared.class.ClassInfo.{ClassInfo}
use Rattle.th_base.specs.declared.number.ClassId.{ClassId}
use Rattle.th_base.specs.declared.number.FieldId.{FieldId}
use Rattle.th_syntax.specs.declared.class_file.ClassFile.{ClassFile}
use Rattle.th_syntax.specs.declared.machine.Object.{Object}
use Rattle.th_syntax.specs.declared.machine.State.{State}
use Rattle.th_syntax.specs.declared.machine.Value.{Value}
use Rattle.th_syntax.specs.Joined.{IsJoined, IsStaticReference}
use Rattle.th_syntax.specs.Program.{hierarchy_of}
use Rattle.th_syntax.proofs.Inverting.{some_is}
use Rattle.th_machine.specs.Leading.{AreClassesLed}
use Rattle.th_machine.specs.Reached.{AreJoined, pair_key}
use Rattle.th_machine.specs.Reaching.{AreActivitiesLed, AreJoinedOf, AreStaticReferences, HoldsActivity, IsFieldAdded, LeadsToActivity, pair_of}
use Rattle.th_machine.proofs.Contained.{among_is, ascend_joined, contains_none, is_among_by, kept, mapped, of_kept, of_mapped, of_sorted, sorted_ascend, sorted_has}

-- ---- the Activity classes to whose objects a value leads

pub activities_are : (hierarchy : List ClassInfo) (heap : List Object) (value : Value) (led found sorted classes : List ℕ) → AreClassesLed heap value led
    → found ≡ filter (is_activity hierarchy) led → IsPermutation found sorted → IsSorted nat_cmp sorted → classes ≡ dedup eqb sorted → AreActivitiesLed hierarchy heap value classes
activities_are hierarchy heap value led found sorted classes are_led filtered same up once = subst (AreActivitiesLed hierarchy heap value) (sym once) record {
  exactly = λ c. (leads_to c, is_there c);
  ordered = sorted_ascend sorted up;
}
  where
    leads_to : (c : ℕ) → Contains (dedup eqb sorted) c → LeadsToActivity hierarchy heap value c
    leads_to c there =
        let both = of_kept (is_activity hierarchy) led c (subst (λ xs. Contains xs c) filtered (of_sorted found sorted c same there)) in
        record { leads = (are_led c).0 (is_among_by led c both.0); is_one = both.1 }

    is_there : (c : ℕ) → LeadsToActivity hierarchy heap value c → Contains (dedup eqb sorted) c
    is_there c to =
        sorted_has found sorted c same (subst (λ xs. Contains xs c) (sym filtered) (kept (is_activity hierarchy) led c (among_is led c ((are_led c).1 to.leads)) to.is_one))

-- ---- the pairs of one field

pub held_added : (files : List ClassFile) (s : State) (field : ℕ) (value : Value) (old new : List (FieldId × ClassId)) (classes : List ℕ) (hierarchy : List ClassInfo) (heap : List Object)
    → slice_get s.statics field ≡ Some value → hierarchy ≡ hierarchy_of files → heap ≡ s.heap → AreActivitiesLed hierarchy heap value classes
    → new ≡ old ++ map (pair_of field) classes → IsFieldAdded files s field old new
held_added files s field value old new classes hierarchy heap held known all are grown =
    let led : AreActivitiesLed (hierarchy_of files) s.heap value classes = subst (λ h. AreActivitiesLed (hierarchy_of files) h value classes) all (subst (λ k. AreActivitiesLed k heap value classes) known are) in
    record {
      classes = classes;
      grown = grown;
      exactly = λ c. (
        λ there. record { value = value; held = held; leads = (led.exactly c).0 there },
        λ holds. (led.exactly c).1 (subst (λ v. LeadsToActivity (hierarchy_of files) s.heap v c) (some_is holds.value value (sym holds.held ∙ held)) holds.leads),
      );
      ordered = led.ordered;
    }

none_held : (files : List ClassFile) (s : State) (field c : ℕ) → slice_get s.statics field ≡ None → HoldsActivity files s field c → ⊥
none_held files s field c none holds = let held = holds.held in cc

pub none_added : (files : List ClassFile) (s : State) (field : ℕ) (old new : List (FieldId × ClassId)) → slice_get s.statics field ≡ None → new ≡ old → IsFieldAdded files s field old new
unfolding IsStrictlySortedBy
none_added files s field old new none same = record {
  classes = [];
  grown = same ∙ sym (append-nil old);
  exactly = λ c. (λ there. absurd (contains_none c there), λ holds. absurd (none_held files s field c none holds));
  ordered = tt;
}

-- a static field of reference type that holds an Activity is joined with its class
joined_by : (files : List ClassFile) (s : State) (field class : ℕ) → IsStaticReference files field → HoldsActivity files s field class → IsJoined files s field class
joined_by files s field class is holds =
    let to = holds.leads.leads in
    record {
      holds = record { is_field = is; value = holds.value; held = holds.held; address = to.address; leads = to.leads; object = to.object; stands = to.stands; exactly = to.exactly };
      is_activity_class = holds.leads.is_one;
    }

holds_by : (files : List ClassFile) (s : State) (field class : ℕ) → IsJoined files s field class → HoldsActivity files s field class
holds_by files s field class joined =
    let holds = joined.holds in
    record {
      value = holds.value;
      held = holds.held;
      leads = record {
        leads = record { address = holds.address; leads = holds.leads; object = holds.object; stands = holds.stands; exactly = holds.exactly };
        is_one = joined.is_activity_class;
      };
    }

-- ---- the order of pairs

nat_less : (a b : ℕ) → a < b → nat_cmp a b ≡ Less
nat_less a b h = grind arith

nat_same : (a : ℕ) → nat_cmp a a ≡ Equal
nat_same a = grind arith

lower_field : (a b c d : ℕ) → a < b → slice_cmp nat_cmp (a ∷ c ∷ []) (b ∷ d ∷ []) ≡ Less
lower_field a b c d h = ap (λ o. ordering_then o (ordering_then (nat_cmp c d) Equal)) (nat_less a b h)

lower_class : (f c d : ℕ) → nat_cmp c d ≡ Less → slice_cmp nat_cmp (f ∷ c ∷ []) (f ∷ d ∷ []) ≡ Less
lower_class f c d less = ap (λ o. ordering_then o (ordering_then (nat_cmp c d) Equal)) (nat_same f) ∙ ap (λ o. ordering_then o Equal) less

keys_after : (field c : ℕ) (ds : List ℕ) → AllByRecursion (λ d. nat_cmp c d ≡ Less) ds
    → AllByRecursion (λ k. slice_cmp nat_cmp (field ∷ c ∷ []) k ≡ Less) (map pair_key (map (pair_of field) ds))
keys_after field c [] all = tt
keys_after field c (d ∷ ds) all = (lower_class field c d all.0, keys_after field c ds all.1)

classes_ascend : (field : ℕ) (classes : List ℕ) → IsStrictlySortedBy nat_cmp classes → IsStrictlySortedBy (slice_cmp nat_cmp) (map pair_key (map (pair_of field) classes))
unfolding IsStrictlySortedBy
classes_ascend field [] sorted = tt
classes_ascend field (c ∷ cs) sorted = (keys_after field c cs sorted.0, classes_ascend field cs sorted.1)

-- each of the first fields is below the next one
earlier_lower : (fields : List ℕ) (i x d : ℕ) → IsStrictlySortedBy nat_cmp fields → i < length fields → Contains (take i fields) x → x < get_or fields i d
earlier_lower fields i x d sorted under there =
    let place = there.0 in
    let inside = there.1 in
    let long : length (take i fields) ≡ i = length-take-le i fields (omega (arith, under)) in
    let earlier : place < i = omega (arith, inside, long) in
    let is : get_or fields place x ≡ x = sym (get_or-take i fields place x earlier) ∙ there.2 in
    let below : get_or fields place x < get_or fields i x = below_from_sorted fields place i x sorted earlier under in
    let same : get_or fields i x ≡ get_or fields i d = get_or_default fields i x d under in
    omega (arith, is, below, same)

-- ---- one field more

pub joined_none : (files : List ClassFile) (s : State) (fields : List ℕ) (pairs : List (FieldId × ClassId)) → pairs ≡ [] → AreJoinedOf files s (take 0 fields) pairs
unfolding IsStrictlySortedBy
joined_none files s fields pairs none = subst (AreJoinedOf files s []) (sym none) record {
  of_these = λ p there. absurd (contains_none p there);
  found = λ p there. absurd (contains_none p there);
  all = λ p there joined. absurd (contains_none p.0.0 there);
  ordered = tt;
}

module _ (files : List ClassFile) (s : State) (ids : List FieldId) (i : ℕ) (d : FieldId) where
  abbrev fields : List ℕ
  fields = map (λ (f : FieldId). f.0) ids

  abbrev before : List ℕ
  before = take i fields

  abbrev field : ℕ
  field = (get_or ids i d).0

  next_is : i < length ids → take (i + 1) fields ≡ before ++ field ∷ []
  next_is under =
      take_more fields i field (omega (arith, under, length-map ids (λ (f : FieldId). f.0)))
      ∙ ap (λ n. before ++ n ∷ []) (get_or-map (λ (f : FieldId). f.0) ids i d field under)

  next_in : i < length ids → Contains fields field
  next_in under =
      subst (Contains fields) (get_or-map (λ (f : FieldId). f.0) ids i d field under) (Contains-get_or fields i field (omega (arith, under, length-map ids (λ (f : FieldId). f.0))))

  next_above : AreStaticReferences files fields → i < length ids → (x : ℕ) → Contains before x → x < field
  next_above are under x there =
      let below : x < get_or fields i field = earlier_lower fields i x field are.ordered (omega (arith, under, length-map ids (λ (f : FieldId). f.0))) there in
      let same : get_or fields i field ≡ field = get_or-map (λ (f : FieldId). f.0) ids i d field under in
      omega (arith, below, same)

  -- the pairs of one field more are added
  pub field_on : (old new : List (FieldId × ClassId)) → AreStaticReferences files fields → i < length ids → AreJoinedOf files s before old → IsFieldAdded files s field old new
      → AreJoinedOf files s (take (i + 1) fields) new
  field_on old new are under joined added = subst (λ ns. AreJoinedOf files s ns new) (sym (next_is under)) (subst (AreJoinedOf files s (before ++ field ∷ [])) (sym added.grown) record {
    of_these = of_these;
    found = found;
    all = all;
    ordered = ordered;
  })
    where
      here : (p : FieldId × ClassId) → Contains (map (pair_of field) added.classes) p → (p.0.0 ≡ field) × IsJoined files s p.0.0 p.1.0
      here p there =
          let class = of_mapped (pair_of field) added.classes p there in
          let joins = joined_by files s field class.0 ((are.exactly field).0 (next_in under)) ((added.exactly class.0).0 class.1) in
          (ap (λ (q : FieldId × ClassId). q.0.0) (sym class.2), subst (λ q. IsJoined files s q.0.0 q.1.0) class.2 joins)

      of_these : (p : FieldId × ClassId) → Contains (old ++ map (pair_of field) added.classes) p → Contains (before ++ field ∷ []) p.0.0
      of_these p there = elim (Contains-append_cases old (map (pair_of field) added.classes) p there) [
        | inl first ↦ Contains-append_left before (field ∷ []) p.0.0 (joined.of_these p first)
        | inr later ↦ subst (Contains (before ++ field ∷ [])) (sym (here p later).0) (Contains-push before field)
      ]

      found : (p : FieldId × ClassId) → Contains (old ++ map (pair_of field) added.classes) p → IsJoined files s p.0.0 p.1.0
      found p there = elim (Contains-append_cases old (map (pair_of field) added.classes) p there) [
        | inl first ↦ joined.found p first
        | inr later ↦ (here p later).1
      ]

      all : (p : FieldId × ClassId) → Contains (before ++ field ∷ []) p.0.0 → IsJoined files s p.0.0 p.1.0 → Contains (old ++ map (pair_of field) added.classes) p
      all p there joins = elim (Contains-push_cases before field p.0.0 there) [
        | inl first ↦ Contains-append_left old (map (pair_of field) added.classes) p (joined.all p first joins)
        | inr same ↦
            let holds = holds_by files s field p.1.0 (subst (λ n. IsJoined files s n p.1.0) (sym same) joins) in
            let class = mapped (pair_of field) added.classes p.1.0 ((added.exactly p.1.0).1 holds) in
            Contains-append_right old (map (pair_of field) added.classes) p (subst (λ n. Contains (map (pair_of field) added.classes) (pair_of n p.1.0)) same class)
      ]

      below : (x y : List ℕ) → Contains (map pair_key old) x → Contains (map pair_key (map (pair_of field) added.classes)) y → slice_cmp nat_cmp x y ≡ Less
      below x y left right =
          let p = of_mapped pair_key old x left in
          let q = of_mapped pair_key (map (pair_of field) added.classes) y right in
          let lower : p.0.0.0 < q.0.0.0 = subst (λ n. p.0.0.0 < n) (sym (here q.0 q.1).0) (next_above are under p.0.0.0 (joined.of_these p.0 p.1)) in
          ap (λ k. slice_cmp nat_cmp k y) (sym p.2) ∙ ap (λ k. slice_cmp nat_cmp (pair_key p.0) k) (sym q.2) ∙ lower_field p.0.0.0 q.0.0.0 p.0.1.0 q.0.1.0 lower

      ordered : IsStrictlySortedBy (slice_cmp nat_cmp) (map pair_key (old ++ map (pair_of field) added.classes))
      ordered =
          subst (IsStrictlySortedBy (slice_cmp nat_cmp)) (sym (map-append pair_key old (map (pair_of field) added.classes)))
          (ascend_joined (slice_cmp nat_cmp) (map pair_key old) (map pair_key (map (pair_of field) added.classes)) joined.ordered (classes_ascend field added.classes added.ordered) below)

-- all fields are looked at
pub joined_all : (files : List ClassFile) (s : State) (ids : List FieldId) (i : ℕ) (pairs : List (FieldId × ClassId)) → AreStaticReferences files (map (λ (f : FieldId). f.0) ids) → length ids ≤ i
    → AreJoinedOf files s (take i (map (λ (f : FieldId). f.0) ids)) pairs → AreJoined files s pairs
joined_all files s ids i pairs are past joined =
    let fields : List ℕ = map (λ (f : FieldId). f.0) ids in
    let whole : take i fields ≡ fields = take_all i fields (omega (arith, past, length-map ids (λ (f : FieldId). f.0))) in
    record {
      found = joined.found;
      all = λ p joins. joined.all p (subst (λ ns. Contains ns p.0.0) (sym whole) ((are.exactly p.0.0).1 joins.holds.is_field)) joins;
      ordered = joined.ordered;
    }

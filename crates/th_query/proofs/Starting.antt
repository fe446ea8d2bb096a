-- Where the initial state meets a canonical query, the query admits it.
use Rattle.std.proofs.Common.{◌≡◌, ◌⊎◌, inl, inr, ℕ, ◌+◌, ◌==◌, ◌≤◌, zero, suc, Bool, true, false, cond, ℤ, pos, negsuc, lit<, ◌+ℤ◌, ◌*ℤ◌, List, [], ◌∷◌, ◌++◌, map, Option, None, Some, slice_get, slice_set, refl, sym, ap, subst, ◌∙◌, arith}
use Rattle.std.specs.Prelude.{◌&&◌, neg_ℤ}
use Rattle.std.specs.List.{filter}
use Rattle.std.specs.Option.{option_map, option_map_or, option_or}
use Rattle.std.proofs.lemmas.Bool.{both_ways, cases_eq, eq-eqb, ne_eqb, and_from, and_right, not_from_false}
use Rattle.std.proofs.lemmas.Int.{ints}
use Rattle.std.proofs.lemmas.Option.{slice_get_within}
use Rattle.th_base.specs.declared.built_in.TheConstants.{STRING_NUMBER}
use Rattle.th_base.specs.declared.class.ClassInfo.{ClassInfo}
use Rattle.th_base.specs.declared.class.FieldInfo.{FieldInfo}
use Rattle.th_base.specs.declared.number.FieldId.{FieldId}
use Rattle.th_base.specs.declared.number.SiteId.{SiteId}
use Rattle.th_base.specs.BuiltIn.{built_in_classes}
use Rattle.th_base.specs.Hierarchy.{first_some, is_subclass}
use Rattle.th_base.specs.Launchable.{is_launchable}
use Rattle.th_base.proofs.Alike.{slice_get-set_same, slice_get-set_other}
use Rattle.th_base.proofs.Ascending.{has-filter}
use Rattle.th_linear.specs.Forms.{Form, Holds, Small}
use Rattle.th_linear.specs.Laws.{IsFact}
use Rattle.th_pure.specs.Laws.{RefutedHaveNoSolution}
use Rattle.th_ir.specs.declared.program.RegProgram.{RegProgram}
use Rattle.th_ir.specs.declared.program.Site.{Site}
use Rattle.th_ir.specs.Fields.{length_field, stage_field, owned_fields_from, field_at, is_kept_instance, class_has, is_ref_field}
use Rattle.th_ir.specs.Sites.{is_string_place}
use Rattle.th_ir.specs.Machine.{RegValue, IntValue, NullValue, Address, Instance, RegObject, length_of, first_value, new_field, new_object, strings_from, value_or, constant_in, initial_static, initial_state}
use Rattle.th_ir.proofs.Plain.{some_is}
use Rattle.th_query.specs.declared.query.Cell.{Cell}
use Rattle.th_query.specs.declared.query.Element.{Element}
use Rattle.th_query.specs.declared.query.Frame.{Frame}
use Rattle.th_query.specs.declared.query.Link.{Link}
use Rattle.th_query.specs.declared.query.Slot.{Slot}
use Rattle.th_query.specs.declared.query.Slot.TheVariants.{Field, Elements}
use Rattle.th_query.specs.declared.query.Sym.{Sym}
use Rattle.th_query.specs.declared.query.Sym.TheVariants.{Ref, Int, Carry}
use Rattle.th_query.specs.declared.query.Query.{Query}
use Rattle.th_query.specs.Symbols.{cell_link, element_link, links, symbol_at}
use Rattle.th_query.specs.Meets.{IsIntNumber, Allows, number_of, HoldsIn, HoldsAt, MeetFrames, Meets}
use Rattle.th_query.specs.Initial.{int_constant, string_constant, number_fact, number_or, constant_symbol, with_value, with_values, is_none_listed, admits_initial_of}
use Rattle.th_query.proofs.InLists.{In, in_from, in_to, in_at, in_left, in_right, in_either, in_map, in_unmap, among_either}
use Rattle.th_query.proofs.Possible.{Satisfies, satisfied_possible}

-- ---- String constants hold nothing

owned_above : (c : ℕ) (ks : List ClassInfo) (d : ℕ × FieldInfo) → In d (owned_fields_from c ks) → c ≤ d.0
owned_above c [] d m = absurd m
owned_above c (k ∷ ks) d m = elim (in_either d (map (λ f. (c, f)) k.fields) (owned_fields_from (c + 1) ks) m) [
  | inl here ↦ let f = in_unmap (λ (f : FieldInfo). (c, f)) d k.fields here in let e = ap (λ (x : ℕ × FieldInfo). x.0) f.2 in omega (arith, e)
  | inr later ↦ let h = owned_above (c + 1) ks d later in omega (arith, h)
]

not_above : (files : List ClassInfo) (d : ℕ × FieldInfo) → 11 ≤ d.0 → is_subclass (built_in_classes ++ files) STRING_NUMBER d.0 ≡ false
not_above files d h = rw (ne_eqb 1 d.0 (λ e. absurd (omega (arith, h, e))), ne_eqb 0 d.0 (λ e. absurd (omega (arith, h, e)))) refl

strings_have_no_field : (files : List ClassInfo) (f : ℕ) → class_has (built_in_classes ++ files) STRING_NUMBER f ≡ false
strings_have_no_field files f = stage (f == stage_field)
  where
    declared : (o : Option (ℕ × FieldInfo)) → field_at (built_in_classes ++ files) f ≡ o → option_map_or (λ (d : ℕ × FieldInfo). is_kept_instance d.1 && is_subclass (built_in_classes ++ files) STRING_NUMBER d.0) o false ≡ false
    declared None e = refl
    declared (Some d) e = and_right (is_kept_instance d.1) _ (not_above files d (owned_above 11 files d (in_at d (owned_fields_from 11 files) f e)))

    stage : (b : Bool) → cond b (is_launchable (built_in_classes ++ files) STRING_NUMBER)
        (option_map_or (λ (d : ℕ × FieldInfo). is_kept_instance d.1 && is_subclass (built_in_classes ++ files) STRING_NUMBER d.0) (field_at (built_in_classes ++ files) f) false) ≡ false
    stage true = refl
    stage false = declared (field_at (built_in_classes ++ files) f) refl

string_at : (h : List ClassInfo) (k : ℕ) (sites : List Site) (a : ℕ) (o : RegObject) → slice_get (strings_from h k sites) a ≡ Some o → o ≡ new_object h STRING_NUMBER (k + a)
string_at h k [] a o e = absurd cc
string_at h k (site ∷ sites) a o e = go (is_string_place site.place) a e (λ n i. string_at h (k + 1) sites n o i)
  where
    go : (b : Bool) (a : ℕ) → slice_get (cond b (new_object h STRING_NUMBER k ∷ strings_from h (k + 1) sites) []) a ≡ Some o
        → ((n : ℕ) → slice_get (strings_from h (k + 1) sites) n ≡ Some o → o ≡ new_object h STRING_NUMBER ((k + 1) + n)) → o ≡ new_object h STRING_NUMBER (k + a)
    go true zero i f = sym (some_is (new_object h STRING_NUMBER k) o i) ∙ ap (new_object h STRING_NUMBER) (omega arith)
    go true (suc n) i f = f n i ∙ ap (new_object h STRING_NUMBER) (omega arith)
    go false n i f = absurd cc

holds_nothing : (h : List ClassInfo) (s : ℕ) (slot : Slot) (w : RegValue) → ((f : ℕ) → class_has h STRING_NUMBER f ≡ false) → HoldsIn slot (new_object h STRING_NUMBER s).contents w → ⊥
holds_nothing h s (Field f) w none e = go (f.0 == length_field) e
  where
    unmade : (b : Bool) → class_has h STRING_NUMBER f.0 ≡ b → cond b (Some (first_value (is_ref_field h f.0))) None ≡ Some w → ⊥
    unmade true is i = both_ways _ (none f.0) is
    unmade false is i = cc

    go : (b : Bool) → cond b (option_map (λ n. IntValue (pos n)) (length_of (Instance (new_field h STRING_NUMBER)))) (new_field h STRING_NUMBER f.0) ≡ Some w → ⊥
    go true i = cc
    go false i = unmade (class_has h STRING_NUMBER f.0) refl i
holds_nothing h s Elements w none (k, e) = cc

no_link : (h : List ClassInfo) (sites : List Site) (slot : Slot) (base w : RegValue) → ((f : ℕ) → class_has h STRING_NUMBER f ≡ false) → HoldsAt (strings_from h 0 sites) slot base w → ⊥
no_link h sites slot base w none (o, held) =
    let is = string_at h 0 sites o.address o.object o.stands in
    holds_nothing h (0 + o.address) slot w none (subst (λ (x : RegObject). HoldsIn slot x.contents w) is held)

-- ---- what static fields hold at first

int_first : (f : ℕ) (other : RegValue) (xs : List (FieldId × ℤ))
    → ((first_some (λ (i : FieldId × ℤ). cond (i.0.0 == f) (Some i.1) None) xs ≡ None) × (constant_in (λ (i : FieldId × ℤ). cond (i.0.0 == f) (Some (IntValue i.1)) None) other xs ≡ other))
    ⊎ ((z : ℤ) × (first_some (λ (i : FieldId × ℤ). cond (i.0.0 == f) (Some i.1) None) xs ≡ Some z) × (constant_in (λ (i : FieldId × ℤ). cond (i.0.0 == f) (Some (IntValue i.1)) None) other xs ≡ IntValue z))
int_first f other [] = inl (refl, refl)
int_first f other (x ∷ xs) = go (x.0.0 == f) (int_first f other xs)
  where
    go : (b : Bool)
        → ((first_some (λ (i : FieldId × ℤ). cond (i.0.0 == f) (Some i.1) None) xs ≡ None) × (constant_in (λ (i : FieldId × ℤ). cond (i.0.0 == f) (Some (IntValue i.1)) None) other xs ≡ other))
        ⊎ ((z : ℤ) × (first_some (λ (i : FieldId × ℤ). cond (i.0.0 == f) (Some i.1) None) xs ≡ Some z) × (constant_in (λ (i : FieldId × ℤ). cond (i.0.0 == f) (Some (IntValue i.1)) None) other xs ≡ IntValue z))
        → ((option_or (cond b (Some x.1) None) (first_some (λ (i : FieldId × ℤ). cond (i.0.0 == f) (Some i.1) None) xs) ≡ None)
        × (value_or (constant_in (λ (i : FieldId × ℤ). cond (i.0.0 == f) (Some (IntValue i.1)) None) other xs) (cond b (Some (IntValue x.1)) None) ≡ other))
        ⊎ ((z : ℤ) × (option_or (cond b (Some x.1) None) (first_some (λ (i : FieldId × ℤ). cond (i.0.0 == f) (Some i.1) None) xs) ≡ Some z)
        × (value_or (constant_in (λ (i : FieldId × ℤ). cond (i.0.0 == f) (Some (IntValue i.1)) None) other xs) (cond b (Some (IntValue x.1)) None) ≡ IntValue z))
    go true r = inr (x.1, refl, refl)
    go false r = r

string_first : (f : ℕ) (other : RegValue) (xs : List (FieldId × SiteId))
    → ((first_some (λ (i : FieldId × SiteId). cond (i.0.0 == f) (Some i.1.0) None) xs ≡ None) × (constant_in (λ (i : FieldId × SiteId). cond (i.0.0 == f) (Some (Address i.1.0)) None) other xs ≡ other))
    ⊎ ((z : ℕ) × (first_some (λ (i : FieldId × SiteId). cond (i.0.0 == f) (Some i.1.0) None) xs ≡ Some z) × (constant_in (λ (i : FieldId × SiteId). cond (i.0.0 == f) (Some (Address i.1.0)) None) other xs ≡ Address z))
string_first f other [] = inl (refl, refl)
string_first f other (x ∷ xs) = go (x.0.0 == f) (string_first f other xs)
  where
    go : (b : Bool)
        → ((first_some (λ (i : FieldId × SiteId). cond (i.0.0 == f) (Some i.1.0) None) xs ≡ None) × (constant_in (λ (i : FieldId × SiteId). cond (i.0.0 == f) (Some (Address i.1.0)) None) other xs ≡ other))
        ⊎ ((z : ℕ) × (first_some (λ (i : FieldId × SiteId). cond (i.0.0 == f) (Some i.1.0) None) xs ≡ Some z) × (constant_in (λ (i : FieldId × SiteId). cond (i.0.0 == f) (Some (Address i.1.0)) None) other xs ≡ Address z))
        → ((option_or (cond b (Some x.1.0) None) (first_some (λ (i : FieldId × SiteId). cond (i.0.0 == f) (Some i.1.0) None) xs) ≡ None)
        × (value_or (constant_in (λ (i : FieldId × SiteId). cond (i.0.0 == f) (Some (Address i.1.0)) None) other xs) (cond b (Some (Address x.1.0)) None) ≡ other))
        ⊎ ((z : ℕ) × (option_or (cond b (Some x.1.0) None) (first_some (λ (i : FieldId × SiteId). cond (i.0.0 == f) (Some i.1.0) None) xs) ≡ Some z)
        × (value_or (constant_in (λ (i : FieldId × SiteId). cond (i.0.0 == f) (Some (Address i.1.0)) None) other xs) (cond b (Some (Address x.1.0)) None) ≡ Address z))
    go true r = inr (x.1.0, refl, refl)
    go false r = r

first_ref : (heap : List RegObject) (null : Bool) (sites : List ℕ) (ref : Bool) → Allows heap (Ref null sites) (first_value ref) → Allows heap (Ref null []) (first_value ref)
first_ref heap null sites true a = a
first_ref heap null sites false a = a

first_int : (heap : List RegObject) (ref : Bool) → Allows heap Int (first_value ref) → number_of (first_value ref) ≡ pos 0
first_int heap true a = absurd a
first_int heap false a = refl

-- a reference in a static field is its String constant, or null
ref_static : (h : List ClassInfo) (p : RegProgram) (f : FieldId) (null : Bool) (sites : List ℕ) → Allows (strings_from h 0 p.sites) (Ref null sites) (initial_static h p f.0)
    → Allows (strings_from h 0 p.sites) (constant_symbol (string_constant p f) null sites) (initial_static h p f.0)
ref_static h p f null sites a =
    let heap = strings_from h 0 p.sites in
    let strings = constant_in (λ (i : FieldId × SiteId). cond (i.0.0 == f.0) (Some (Address i.1.0)) None) (first_value (is_ref_field h f.0)) p.strings in
    elim (int_first f.0 strings p.ints) [
      | inl none ↦
          let b = subst (Allows heap (Ref null sites)) none.1 a in
          subst (Allows heap (constant_symbol (string_constant p f) null sites)) (sym none.1) (elim (string_first f.0 (first_value (is_ref_field h f.0)) p.strings) [
            | inl nothing ↦
                subst (λ o. Allows heap (constant_symbol o null sites) strings) (sym nothing.0)
                (subst (Allows heap (Ref null [])) (sym nothing.1) (first_ref heap null sites (is_ref_field h f.0) (subst (Allows heap (Ref null sites)) nothing.1 b)))
            | inr found ↦
                subst (λ o. Allows heap (constant_symbol o null sites) strings) (sym found.1)
                (subst (Allows heap (Ref false (filter (λ s. s == found.0) sites))) (sym found.2) (at found.0 (subst (Allows heap (Ref null sites)) found.2 b)))
          ])
      | inr some ↦ absurd (subst (Allows heap (Ref null sites)) some.2 a)
    ]
  where
    at : (x : ℕ) → Allows (strings_from h 0 p.sites) (Ref null sites) (Address x) → Allows (strings_from h 0 p.sites) (Ref false (filter (λ s. s == x) sites)) (Address x)
    at x (o, there, i) =
        let made = string_at h 0 p.sites x o there in
        let site : o.site ≡ x = ap (λ (z : RegObject). z.site) made ∙ (omega arith) in
        (o, there, has-filter (λ s. s == x) sites o.site ∙ and_from _ _ (eq-eqb o.site x site) i)

-- an int in a static field is its constant, or 0
int_static : (h : List ClassInfo) (p : RegProgram) (f : FieldId) → Allows (strings_from h 0 p.sites) Int (initial_static h p f.0) → number_of (initial_static h p f.0) ≡ number_or (int_constant p f)
int_static h p f a =
    let heap = strings_from h 0 p.sites in
    let strings = constant_in (λ (i : FieldId × SiteId). cond (i.0.0 == f.0) (Some (Address i.1.0)) None) (first_value (is_ref_field h f.0)) p.strings in
    elim (int_first f.0 strings p.ints) [
      | inl none ↦
          let b = subst (Allows heap Int) none.1 a in
          elim (string_first f.0 (first_value (is_ref_field h f.0)) p.strings) [
            | inl nothing ↦
                ap number_of (none.1 ∙ nothing.1) ∙ first_int heap (is_ref_field h f.0) (subst (Allows heap Int) nothing.1 b) ∙ ap number_or (sym none.0)
            | inr found ↦ absurd (subst (Allows heap Int) found.2 b)
          ]
      | inr some ↦ ap number_of some.2 ∙ ap number_or (sym some.1)
    ]

-- ---- the query with the values

less_itself : (z : ℤ) → ((pos 1 *ℤ z) +ℤ pos 0) +ℤ neg_ℤ z ≡ pos 0
less_itself z = omega (arith, ints)

small_number : (z : ℤ) → IsIntNumber z → Small (neg_ℤ z)
small_number (pos zero) r = lit< tt
small_number (pos (suc n)) r = omega (arith, ints, r.1)
small_number (negsuc n) r = omega (arith, ints, r.0)

number_is_fact : (s : ℕ) (z : ℤ) → IsIntNumber z → IsFact (number_fact s z)
number_is_fact s z r = record { terms = (omega arith, lit< tt, lit< tt, tt); small = small_number z r }

int_allowed : (heap : List RegObject) (w : RegValue) → Allows heap Int w → IsIntNumber (number_of w)
int_allowed heap (IntValue z) a = a
int_allowed heap NullValue a = absurd a
int_allowed heap (Address o) a = absurd a

with_value_satisfied : (h : List ClassInfo) (p : RegProgram) (f : FieldId) (s : ℕ) (q : Query) (v : ℕ → RegValue) → v s ≡ initial_static h p f.0 → Satisfies (strings_from h 0 p.sites) q v
    → (o : Option Sym) → symbol_at q s ≡ o → Satisfies (strings_from h 0 p.sites) (with_value p f s o q) v
with_value_satisfied h p f s q v is k None e = k
with_value_satisfied h p f s q v is k (Some (Ref null sites)) e =
    let heap = strings_from h 0 p.sites in
    let new = constant_symbol (string_constant p f) null sites in
    let allowed : Allows heap new (v s) = subst (Allows heap new) (sym is) (ref_static h p f null sites (subst (Allows heap (Ref null sites)) is (k.syms s (Ref null sites) e))) in
    record {
      syms = λ n x at. elim (cases_eq n s) [
        | inl same ↦
            let here : new ≡ x = some_is new x (sym (slice_get-set_same q.syms s new (slice_get_within q.syms s (Ref null sites) e)) ∙ ap (slice_get (slice_set q.syms s new)) (sym same) ∙ at) in
            subst (λ z. Allows heap z (v n)) here (subst (λ i. Allows heap new (v i)) (sym same) allowed)
        | inr other ↦ k.syms n x (sym (slice_get-set_other q.syms s n new other) ∙ at)
      ];
      diffs = k.diffs;
      facts = k.facts;
      forms = k.forms;
    }
with_value_satisfied h p f s q v is k (Some Int) e =
    let heap = strings_from h 0 p.sites in
    let z = number_or (int_constant p f) in
    let a : Allows heap Int (initial_static h p f.0) = subst (Allows heap Int) is (k.syms s Int e) in
    let value : number_of (initial_static h p f.0) ≡ z = int_static h p f a in
    let number : number_of (v s) ≡ z = ap number_of is ∙ value in
    let holds : Holds (number_fact s z) (λ n. number_of (v n)) = subst (λ y. ((pos 1 *ℤ y) +ℤ pos 0) +ℤ neg_ℤ z ≡ pos 0) (sym number) (less_itself z) in
    record {
      syms = k.syms;
      diffs = k.diffs;
      facts = λ g i. elim (among_either g q.facts (number_fact s z ∷ []) i) [ inl old ↦ k.facts g old | inr new ↦ subst (λ x. Holds x (λ n. number_of (v n))) (sym (only g (number_fact s z) (in_from g (number_fact s z ∷ []) new))) holds ];
      forms = λ g i. elim (among_either g q.facts (number_fact s z ∷ []) i) [
        | inl old ↦ k.forms g old
        | inr new ↦ subst IsFact (sym (only g (number_fact s z) (in_from g (number_fact s z ∷ []) new))) (number_is_fact s z (subst IsIntNumber value (int_allowed heap (initial_static h p f.0) a)))
      ];
    }
  where
    only : (g f : Form) → In g (f ∷ []) → g ≡ f
    only g f (inl e) = e
    only g f (inr none) = absurd none
with_value_satisfied h p f s q v is k (Some Carry) e = k

with_values_satisfied : (h : List ClassInfo) (p : RegProgram) (xs : List (FieldId × ℕ)) (q : Query) (v : ℕ → RegValue) → ((x : FieldId × ℕ) → In x xs → v x.1 ≡ initial_static h p x.0.0)
    → Satisfies (strings_from h 0 p.sites) q v → Satisfies (strings_from h 0 p.sites) (with_values p xs q) v
with_values_satisfied h p [] q v all k = k
with_values_satisfied h p (x ∷ xs) q v all k =
    with_values_satisfied h p xs (with_value p x.0 x.1 (symbol_at q x.1) q) v (λ y i. all y (inr i)) (with_value_satisfied h p x.0 x.1 q v (all x (inl refl)) k (symbol_at q x.1) refl)

-- ---- the whole

no_frames_met : (v : ℕ → RegValue) (fs : List Frame) → MeetFrames v [] fs → is_none_listed fs ≡ true
no_frames_met v [] m = refl
no_frames_met v (f ∷ fs) m = absurd m

no_cells_met : (cs : List Cell) → ((c : Cell) → In c cs → ⊥) → is_none_listed cs ≡ true
no_cells_met [] none = refl
no_cells_met (c ∷ cs) none = absurd (none c (inl refl))

no_elements_met : (es : List Element) → ((e : Element) → In e es → ⊥) → is_none_listed es ≡ true
no_elements_met [] none = refl
no_elements_met (e ∷ es) none = absurd (none e (inl refl))

admitted_by : (l : RefutedHaveNoSolution) (h : List ClassInfo) (p : RegProgram) (q : Query) (v : ℕ → RegValue) → ((f : ℕ) → class_has h STRING_NUMBER f ≡ false) → Meets (initial_state h p) q v → Satisfies (strings_from h 0 p.sites) q v
    → admits_initial_of p q ≡ true
admitted_by l h p q v none m k =
    let no_held : (j : Link) → In j (links q) → ⊥ = λ j i. no_link h p.sites j.slot (v j.base) (v j.value) none (m.links j (in_to j (links q) i)) in
    let cells : is_none_listed q.cells ≡ true = no_cells_met q.cells (λ c i. no_held (cell_link c) (in_left (cell_link c) (map cell_link q.cells) (map element_link q.elems) (in_map cell_link c q.cells i))) in
    let elems : is_none_listed q.elems ≡ true = no_elements_met q.elems (λ e i. no_held (element_link e) (in_right (element_link e) (map cell_link q.cells) (map element_link q.elems) (in_map element_link e q.elems i))) in
    let values = with_values_satisfied h p q.statics q v (λ x i. sym (m.statics x (in_to x q.statics i))) k in
    and_from _ _ (no_frames_met v q.frames m.frames) (and_from _ _ cells (and_from _ _ elems (not_from_false _ (satisfied_possible l (strings_from h 0 p.sites) (with_values p q.statics q) v values))))

pub initial_admitted : (l : RefutedHaveNoSolution) (h files : List ClassInfo) (p : RegProgram) (q : Query) (v : ℕ → RegValue) → h ≡ built_in_classes ++ files → Meets (initial_state h p) q v → Satisfies (strings_from h 0 p.sites) q v
    → admits_initial_of p q ≡ true
initial_admitted l h files p q v is m k = admitted_by l h p q v (λ f. subst (λ k. class_has k STRING_NUMBER f ≡ false) (sym is) (strings_have_no_field files f)) m k

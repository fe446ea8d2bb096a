-- Merging what paths bring is a join: the same twice changes nothing, and neither do order and grouping.
use Rattle.std.proofs.Common.{◌≡◌, suc, ◌==◌, Bool, true, false, cond, List, [], ◌∷◌, length, refl, sym, ap, ◌∙◌, arith}
use Rattle.std.proofs.lemmas.Bool.{eq-eqb, eqb-true, ne_eqb, eqb-false}
use Rattle.th_syntax.specs.declared.kind.SlotKind.TheVariants as kind
use Rattle.th_syntax.specs.Kinds.{SlotKind, is_same_kind, merged, merged_slots, KindsAt, NoKinds, OfKinds, DepthsDiffer, merged_at}

-- ---- kinds

pub same_kind_is : (a b : SlotKind) → is_same_kind a b ≡ true → a ≡ b
same_kind_is kind.Int kind.Int e = refl
same_kind_is kind.Ref kind.Ref e = refl
same_kind_is kind.Long kind.Long e = refl
same_kind_is kind.SecondHalf kind.SecondHalf e = refl
same_kind_is kind.Unusable kind.Unusable e = refl
same_kind_is a b e = absurd cc

pub merged_self : (a : SlotKind) → merged a a ≡ a
merged_self kind.Int = refl
merged_self kind.Ref = refl
merged_self kind.Long = refl
merged_self kind.SecondHalf = refl
merged_self kind.Unusable = refl

pub merged_unusable : (a : SlotKind) → merged a kind.Unusable ≡ kind.Unusable
merged_unusable kind.Int = refl
merged_unusable kind.Ref = refl
merged_unusable kind.Long = refl
merged_unusable kind.SecondHalf = refl
merged_unusable kind.Unusable = refl

pub unusable_merged : (a : SlotKind) → merged kind.Unusable a ≡ kind.Unusable
unusable_merged kind.Int = refl
unusable_merged kind.Ref = refl
unusable_merged kind.Long = refl
unusable_merged kind.SecondHalf = refl
unusable_merged kind.Unusable = refl

pub merged_comm : (a b : SlotKind) → merged a b ≡ merged b a
merged_comm kind.Int kind.Int = refl
merged_comm kind.Ref kind.Ref = refl
merged_comm kind.Long kind.Long = refl
merged_comm kind.SecondHalf kind.SecondHalf = refl
merged_comm kind.Unusable kind.Unusable = refl
merged_comm a b = refl

assoc_by : (a b c : SlotKind) (x y : Bool) → is_same_kind a b ≡ x → is_same_kind b c ≡ y → merged (cond x a kind.Unusable) c ≡ merged a (cond y b kind.Unusable)
assoc_by a b c true true left right = ap (merged a) (sym (same_kind_is b c right))
assoc_by a b c true false left right =
    ap (λ k. merged k c) (same_kind_is a b left) ∙ ap (λ same. cond same b kind.Unusable) right ∙ sym (merged_unusable a)
assoc_by a b c false true left right = unusable_merged c ∙ sym (ap (λ same. cond same a kind.Unusable) left)
assoc_by a b c false false left right = unusable_merged c ∙ sym (merged_unusable a)

pub merged_assoc : (a b c : SlotKind) → merged (merged a b) c ≡ merged a (merged b c)
merged_assoc a b c = assoc_by a b c (is_same_kind a b) (is_same_kind b c) refl refl

-- ---- lists of slots

pub slots_self : (ks : List SlotKind) → merged_slots ks ks ≡ ks
slots_self [] = refl
slots_self (a ∷ ks) = let head = merged_self a in let tail = slots_self ks in cc

pub slots_comm : (ks bs : List SlotKind) → merged_slots ks bs ≡ merged_slots bs ks
slots_comm [] [] = refl
slots_comm [] (b ∷ bs) = refl
slots_comm (a ∷ ks) [] = refl
slots_comm (a ∷ ks) (b ∷ bs) = let head = merged_comm a b in let tail = slots_comm ks bs in cc

pub slots_assoc : (ks bs cs : List SlotKind) → merged_slots (merged_slots ks bs) cs ≡ merged_slots ks (merged_slots bs cs)
slots_assoc [] bs cs = refl
slots_assoc (a ∷ ks) [] cs = refl
slots_assoc (a ∷ ks) (b ∷ bs) [] = refl
slots_assoc (a ∷ ks) (b ∷ bs) (c ∷ cs) = let head = merged_assoc a b c in let tail = slots_assoc ks bs cs in cc

pub length-slots : (ks bs : List SlotKind) → length ks ≡ length bs → length (merged_slots ks bs) ≡ length ks
length-slots [] bs e = refl
length-slots (a ∷ ks) [] e = absurd (omega arith)
length-slots (a ∷ ks) (b ∷ bs) e = ap suc (length-slots ks bs (omega arith))

-- ---- what is known before an instruction

pub at_none : (s : KindsAt) → merged_at s NoKinds ≡ s
at_none NoKinds = refl
at_none (OfKinds locals stack) = refl
at_none DepthsDiffer = refl

pub at_differ : (s : KindsAt) → merged_at s DepthsDiffer ≡ DepthsDiffer
at_differ NoKinds = refl
at_differ (OfKinds locals stack) = refl
at_differ DepthsDiffer = refl

pub at_self : (s : KindsAt) → merged_at s s ≡ s
at_self NoKinds = refl
at_self DepthsDiffer = refl
at_self (OfKinds locals stack) =
    let same = eq-eqb (length stack) (length stack) refl in
    let one = slots_self locals in let other = slots_self stack in rw (same, one, other) refl

comm_by : (l s l' s' : List SlotKind) (x y : Bool) → (length s == length s') ≡ x → (length s' == length s) ≡ y
    → cond x (OfKinds (merged_slots l l') (merged_slots s s')) DepthsDiffer ≡ cond y (OfKinds (merged_slots l' l) (merged_slots s' s)) DepthsDiffer
comm_by l s l' s' true true left right = let one = slots_comm l l' in let other = slots_comm s s' in cc
comm_by l s l' s' true false left right = absurd (eqb-false (length s') (length s) right (sym (eqb-true (length s) (length s') left)))
comm_by l s l' s' false true left right = absurd (eqb-false (length s) (length s') left (sym (eqb-true (length s') (length s) right)))
comm_by l s l' s' false false left right = refl

pub at_comm : (s t : KindsAt) → merged_at s t ≡ merged_at t s
at_comm NoKinds t = sym (at_none t)
at_comm DepthsDiffer t = sym (at_differ t)
at_comm (OfKinds l s) NoKinds = refl
at_comm (OfKinds l s) DepthsDiffer = refl
at_comm (OfKinds l s) (OfKinds l' s') = comm_by l s l' s' (length s == length s') (length s' == length s) refl refl

assoc_at_by : (l s l' s' l'' s'' : List SlotKind) (x y : Bool) → (length s == length s') ≡ x → (length s' == length s'') ≡ y
    → merged_at (cond x (OfKinds (merged_slots l l') (merged_slots s s')) DepthsDiffer) (OfKinds l'' s'')
    ≡ merged_at (OfKinds l s) (cond y (OfKinds (merged_slots l' l'') (merged_slots s' s'')) DepthsDiffer)
assoc_at_by l s l' s' l'' s'' true true left right =
    let one = eqb-true (length s) (length s') left in
    let two = eqb-true (length s') (length s'') right in
    let first : (length (merged_slots s s') == length s'') ≡ true = eq-eqb (length (merged_slots s s')) (length s'') (length-slots s s' one ∙ one ∙ two) in
    let second : (length s == length (merged_slots s' s'')) ≡ true = eq-eqb (length s) (length (merged_slots s' s'')) (one ∙ sym (length-slots s' s'' two)) in
    let locals = slots_assoc l l' l'' in
    let stack = slots_assoc s s' s'' in
    rw (first, second, locals, stack) refl
assoc_at_by l s l' s' l'' s'' true false left right =
    let one = eqb-true (length s) (length s') left in
    let first : (length (merged_slots s s') == length s'') ≡ false = ne_eqb (length (merged_slots s s')) (length s'') (λ e. eqb-false (length s') (length s'') right (sym one ∙ sym (length-slots s s' one) ∙ e)) in
    rw first refl
assoc_at_by l s l' s' l'' s'' false true left right =
    let two = eqb-true (length s') (length s'') right in
    let second : (length s == length (merged_slots s' s'')) ≡ false = ne_eqb (length s) (length (merged_slots s' s'')) (λ e. eqb-false (length s) (length s') left (e ∙ length-slots s' s'' two)) in
    rw second refl
assoc_at_by l s l' s' l'' s'' false false left right = refl

pub at_assoc : (s t u : KindsAt) → merged_at (merged_at s t) u ≡ merged_at s (merged_at t u)
at_assoc NoKinds t u = refl
at_assoc DepthsDiffer t u = refl
at_assoc (OfKinds l s) NoKinds u = refl
at_assoc (OfKinds l s) DepthsDiffer u = refl
at_assoc (OfKinds l s) (OfKinds l' s') NoKinds = at_none (merged_at (OfKinds l s) (OfKinds l' s'))
at_assoc (OfKinds l s) (OfKinds l' s') DepthsDiffer = at_differ (merged_at (OfKinds l s) (OfKinds l' s'))
at_assoc (OfKinds l s) (OfKinds l' s') (OfKinds l'' s'') = assoc_at_by l s l' s' l'' s'' (length s == length s') (length s' == length s'') refl refl

-- What meets a query meets each one that it subsumes: with the values of the matched symbols.
use Rattle.std.proofs.Common.{◌≡◌, inl, inr, ℕ, ◌+◌, ◌==◌, zero, suc, true, false, not, ℤ, pos, ◌+ℤ◌, ◌*ℤ◌, List, [], ◌∷◌, map, Option, None, Some, slice_get, refl, sym, ap, subst, ◌∙◌, arith}
use Rattle.std.specs.Prelude.{◌&&◌, ◌||◌}
use Rattle.std.specs.List.{list_all}
use Rattle.std.specs.Option.{option_and_then, option_map_or}
use Rattle.std.proofs.lemmas.Bool.{and_parts, or_cases, both_ways, eqb-true, not-true, and_from}
use Rattle.std.proofs.lemmas.Int.{ints}
use Rattle.th_base.specs.declared.number.FieldId.{FieldId}
use Rattle.th_base.specs.declared.number.Reg.{Reg}
use Rattle.th_base.specs.IdSet.{has}
use Rattle.th_linear.specs.Forms.{Form, Holds, Stands, value}
use Rattle.th_ir.specs.Program.{Among}
use Rattle.th_ir.specs.Machine.{RegValue, IntValue, NullValue, Address, RegObject, RegFrame, RegState}
use Rattle.th_ir.proofs.Plain.{same_found}
use Rattle.th_query.specs.declared.query.Frame.{Frame}
use Rattle.th_query.specs.declared.query.Cell.{Cell}
use Rattle.th_query.specs.declared.query.Element.{Element}
use Rattle.th_query.specs.declared.query.Link.{Link}
use Rattle.th_query.specs.declared.query.Slot.TheVariants.{Field}
use Rattle.th_query.specs.declared.query.Sym.{Sym}
use Rattle.th_query.specs.declared.query.Sym.TheVariants.{Ref, Int, Carry}
use Rattle.th_query.specs.declared.query.Query.{Query}
use Rattle.th_query.specs.Symbols.{cell_link, element_link, links, is_named, symbol_at, sites_in, sites_of, null_in, is_ref_symbol, is_number_symbol}
use Rattle.th_query.specs.Meets.{Allows, number_of, MeetFrames, HoldsAt, Meets, MeetsQuery}
use Rattle.th_query.specs.WellFormed.{IsRef}
use Rattle.th_query.specs.Subsumed.{same_kind, matched_in_turn, matched_frames, matched_static, matched_cell, matched_element, matched_fact, matching_of, is_narrower, are_narrower, are_apart, has_difference, differ, is_as_strong, is_subsumed}
use Rattle.th_query.proofs.InLists.{In, in_from, in_to, has_in, among_map, among_unmap, among_left, among_right, among_either, any_among, among_all}
use Rattle.th_query.proofs.Naming.{Names, by_register, by_static, by_base, by_value, names_of, register_named, static_named, base_named, value_named}
use Rattle.th_query.proofs.Matching.{Matching, At, Grows, AreOfKind, Step, grows_through, in_turn, HasPartner, partner_step, partner_grows, field_number, AreFramesMatched, frames_grow, frames_step, HasCell, cell_step, HasElement, element_step, ArePaired, HasFact, fact_grows, fact_step, IsMatching, none_matched}

-- ---- the search

-- a step, and then another
stepped : (q r : Query) (P R : Matching → Type 0) (step : Matching → Option Matching) (before : Option Matching) (start m : Matching) → ((a b : Matching) → Grows a b → P a → P b)
    → ((a : Matching) → before ≡ Some a → Step q r P start a) → ((a b : Matching) → step a ≡ Some b → AreOfKind q r a → Step q r R a b) → option_and_then step before ≡ Some m → Step q r (λ z. P z × R z) start m
stepped q r P R step None start m keeps first second e = absurd cc
stepped q r P R step (Some a) start m keeps first second e =
    let one = first a refl in
    let two = second a m e one.kinds in
    record { grows = grows_through start a m one.grows two.grows; kinds = two.kinds; holds = (keeps a m two.grows one.holds, two.holds) }

cell_grows : (q : Query) (c : Cell) (m n : Matching) → Grows m n → HasCell q c m → HasCell q c n
cell_grows q c m n g h = record { cell = h.cell; among = h.among; same = h.same; base = g c.base h.cell.base h.base; value = g c.value h.cell.value h.value }

element_grows : (q : Query) (c : Element) (m n : Matching) → Grows m n → HasElement q c m → HasElement q c n
element_grows q c m n g h = record { element = h.element; among = h.among; array = g c.array h.element.array h.array; value = g c.value h.element.value h.value }

abbrev pub Each : {X : Type 0} → (X → Matching → Type 0) → List X → Matching → Type 0
Each {X = X} P xs m = (x : X) → In x xs → P x m

each_grows : {X : Type 0} (P : X → Matching → Type 0) (xs : List X) → ((x : X) (a b : Matching) → Grows a b → P x a → P x b) → (a b : Matching) → Grows a b → Each P xs a → Each P xs b
each_grows P xs keeps a b g h x i = keeps x a b g (h x i)

both_grow : (P R : Matching → Type 0) → ((a b : Matching) → Grows a b → P a → P b) → ((a b : Matching) → Grows a b → R a → R b) → (a b : Matching) → Grows a b → P a × R a → P b × R b
both_grow P R p r a b g h = (p a b g h.0, r a b g h.1)

pub matching_is : (q r : Query) (m : Matching) → matching_of q r ≡ Some m → IsMatching q r m
matching_is q r m e =
    let start : Matching = map (λ (x : Sym). let o : Option ℕ = None in o) r.syms in
    let F = AreFramesMatched q.frames r.frames in
    let S = Each (HasPartner field_number q.statics) r.statics in
    let C = Each (HasCell q) r.cells in
    let E = Each (HasElement q) r.elems in
    let keeps_f = frames_grow q.frames r.frames in
    let keeps_s = each_grows (HasPartner field_number q.statics) r.statics (partner_grows field_number q.statics) in
    let keeps_c = each_grows (HasCell q) r.cells (cell_grows q) in
    let keeps_e = each_grows (HasElement q) r.elems (element_grows q) in
    let free : AreOfKind q r start = λ s t at. absurd (none_matched r.syms s t at) in
    let step_s : (a b : Matching) → matched_in_turn (matched_static q r) r.statics a ≡ Some b → AreOfKind q r a → Step q r S a b =
    λ a b h k. in_turn q r (matched_static q r) (HasPartner field_number q.statics) (partner_grows field_number q.statics) (λ x c d i j. partner_step q r field_number q.statics x c d i j) r.statics a b h k in
    let step_c : (a b : Matching) → matched_in_turn (matched_cell q r) r.cells a ≡ Some b → AreOfKind q r a → Step q r C a b =
    λ a b h k. in_turn q r (matched_cell q r) (HasCell q) (cell_grows q) (λ x c d i j. cell_step q r x c d i j) r.cells a b h k in
    let step_e : (a b : Matching) → matched_in_turn (matched_element q r) r.elems a ≡ Some b → AreOfKind q r a → Step q r E a b =
    λ a b h k. in_turn q r (matched_element q r) (HasElement q) (element_grows q) (λ x c d i j. element_step q r x c d i j) r.elems a b h k in
    let step_f : (a b : Matching) → matched_in_turn (matched_fact q r) r.facts a ≡ Some b → AreOfKind q r a → Step q r (Each (HasFact q) r.facts) a b =
    λ a b h k. in_turn q r (matched_fact q r) (HasFact q) (fact_grows q) (λ x c d i j. fact_step q r x c d i j) r.facts a b h k in
    let o1 = matched_frames q r q.frames r.frames start in
    let o2 = option_and_then (matched_in_turn (matched_static q r) r.statics) o1 in
    let o3 = option_and_then (matched_in_turn (matched_cell q r) r.cells) o2 in
    let o4 = option_and_then (matched_in_turn (matched_element q r) r.elems) o3 in
    let two : (a : Matching) → o2 ≡ Some a → Step q r (λ z. F z × S z) start a =
    λ a h. stepped q r F S (matched_in_turn (matched_static q r) r.statics) o1 start a keeps_f (λ b i. frames_step q r q.frames r.frames start b i free) step_s h in
    let keeps2 = both_grow F S keeps_f keeps_s in
    let three : (a : Matching) → o3 ≡ Some a → Step q r (λ z. (F z × S z) × C z) start a = λ a h. stepped q r (λ z. F z × S z) C (matched_in_turn (matched_cell q r) r.cells) o2 start a keeps2 two step_c h in
    let keeps3 = both_grow (λ z. F z × S z) C keeps2 keeps_c in
    let four : (a : Matching) → o4 ≡ Some a → Step q r (λ z. ((F z × S z) × C z) × E z) start a = λ a h. stepped q r (λ z. (F z × S z) × C z) E (matched_in_turn (matched_element q r) r.elems) o3 start a keeps3 three step_e h in
    let keeps4 = both_grow (λ z. (F z × S z) × C z) E keeps3 keeps_e in
    let five = stepped q r (λ z. ((F z × S z) × C z) × E z) (Each (HasFact q) r.facts) (matched_in_turn (matched_fact q r) r.facts) o4 start m keeps4 four step_f e in
    let h = five.holds in
    record { kinds = five.kinds; frames = h.0.0.0.0; statics = h.0.0.0.1; cells = h.0.0.1; elems = h.0.1; facts = h.1 }

-- ---- values

-- the value of a symbol's partner; 0 where it has none
abbrev pub value_by : (ℕ → RegValue) → Option (Option ℕ) → RegValue
value_by v None = IntValue (pos 0)
value_by v (Some None) = IntValue (pos 0)
value_by v (Some (Some t)) = v t

abbrev pub taken : Matching → (ℕ → RegValue) → ℕ → RegValue
taken m v s = value_by v (slice_get m s)

taken_at : (m : Matching) (v : ℕ → RegValue) (s t : ℕ) → At m s t → taken m v s ≡ v t
taken_at m v s t e = ap (value_by v) e

-- ---- what symbols allow

kind_there : (o : Option Sym) (x : Sym) → same_kind o (Some x) ≡ true → (y : Sym) × (o ≡ Some y)
kind_there None x h = absurd (both_ways _ (nothing x) h)
  where
    nothing : (x : Sym) → same_kind None (Some x) ≡ false
    nothing (Ref null sites) = refl
    nothing Int = refl
    nothing Carry = refl
kind_there (Some y) x h = (y, refl)

narrower_allows : (heap : List RegObject) (y x : Sym) (w : RegValue) → same_kind (Some y) (Some x) ≡ true → list_all (has (sites_in (Some x))) (sites_in (Some y)) ≡ true
    → (not (null_in (Some y)) || null_in (Some x)) ≡ true → Allows heap y w → Allows heap x w
narrower_allows heap (Ref n s) (Ref k u) (IntValue z) e all nulls a = a
narrower_allows heap (Ref n s) (Ref k u) NullValue e all nulls a = elim (or_cases (not n) k nulls) [ inl never ↦ absurd (both_ways _ (not-true n never) a) | inr may ↦ may ]
narrower_allows heap (Ref n s) (Ref k u) (Address o) e all nulls (y, there, h) = (y, there, among_all (has u) y.site s all (place y.site s h))
  where
    place : (a : ℕ) (xs : List ℕ) → has xs a ≡ true → Among xs a
    place a xs i = in_to a xs (has_in a xs i)
narrower_allows heap (Ref n s) Int w e all nulls a = absurd (both_ways _ refl e)
narrower_allows heap (Ref n s) Carry w e all nulls a = absurd (both_ways _ refl e)
narrower_allows heap Int (Ref k u) w e all nulls a = absurd (both_ways _ refl e)
narrower_allows heap Int Int w e all nulls a = a
narrower_allows heap Int Carry w e all nulls a = absurd (both_ways _ refl e)
narrower_allows heap Carry (Ref k u) w e all nulls a = absurd (both_ways _ refl e)
narrower_allows heap Carry Int w e all nulls a = absurd (both_ways _ refl e)
narrower_allows heap Carry Carry w e all nulls a = a

-- a number and its partner are alike
number_alike : (y x : Sym) → same_kind (Some y) (Some x) ≡ true → is_number_symbol (Some x) ≡ true → y ≡ x
number_alike (Ref n s) (Ref k u) e h = absurd (both_ways _ refl h)
number_alike (Ref n s) Int e h = absurd (both_ways _ refl e)
number_alike (Ref n s) Carry e h = absurd (both_ways _ refl e)
number_alike Int (Ref k u) e h = absurd (both_ways _ refl h)
number_alike Int Int e h = refl
number_alike Int Carry e h = absurd (both_ways _ refl e)
number_alike Carry (Ref k u) e h = absurd (both_ways _ refl h)
number_alike Carry Int e h = absurd (both_ways _ refl e)
number_alike Carry Carry e h = refl

zero_allowed : (heap : List RegObject) (x : Sym) → is_number_symbol (Some x) ≡ true → Allows heap x (IntValue (pos 0))
zero_allowed heap (Ref null sites) h = absurd (both_ways _ refl h)
zero_allowed heap Int h = (omega (arith, ints), omega (arith, ints))
zero_allowed heap Carry h = (omega (arith, ints), omega (arith, ints))

narrower_at : (q r : Query) (k : ℕ) (m : Matching) (s t : ℕ) → are_narrower q r k m ≡ true → At m s t → is_narrower q r t (k + s) ≡ true
narrower_at q r k [] s t h at = absurd cc
narrower_at q r k (None ∷ ts) zero t h at = absurd (let no : Some None ≡ Some (Some t) = at in cc)
narrower_at q r k (None ∷ ts) (suc s) t h at = let e : (k + 1) + s ≡ k + suc s = omega arith in subst (λ i. is_narrower q r t i ≡ true) e (narrower_at q r (k + 1) ts s t h at)
narrower_at q r k (Some u ∷ ts) zero t h at =
    let same : u ≡ t = let both : Some (Some u) ≡ Some (Some t) = at in cc in
    let e : k ≡ k + 0 = omega arith in
    subst (λ i. is_narrower q r t i ≡ true) e (subst (λ i. is_narrower q r i k ≡ true) same (and_parts (is_narrower q r u k) _ h).0)
narrower_at q r k (Some u ∷ ts) (suc s) t h at =
    let e : (k + 1) + s ≡ k + suc s = omega arith in
    subst (λ i. is_narrower q r t i ≡ true) e (narrower_at q r (k + 1) ts s t (and_parts (is_narrower q r u k) _ h).1 at)

-- ---- differences

apart_values : (heap : List RegObject) (q : Query) (s u : ℕ) (x y : Sym) (w : RegValue) → symbol_at q s ≡ Some x → symbol_at q u ≡ Some y → is_ref_symbol (Some x) ≡ true
    → are_apart q s u ≡ true → Allows heap x w → Allows heap y w → ⊥
apart_values heap q s u (Ref n a) (Ref k b) (IntValue z) e f h apart l r = l
apart_values heap q s u (Ref n a) (Ref k b) NullValue e f h apart l r =
    both_ways _ (not-true _ (and_parts _ _ apart).1) (and_from _ _ (ap null_in e ∙ l) (ap null_in f ∙ r))
apart_values heap q s u (Ref n a) (Ref k b) (Address o) e f h apart (c, there, i) (d, found, j) =
    let same : c ≡ d = same_found (slice_get heap o) c d there found in
    let all : list_all (λ z. not (has (sites_of q u) z)) a ≡ true = subst (λ o. list_all (λ z. not (has (sites_of q u) z)) (sites_in o) ≡ true) e (and_parts _ _ apart).0 in
    let out = not-true _ (among_all (λ z. not (has (sites_of q u) z)) c.site a all (in_to c.site a (has_in c.site a i))) in
    both_ways _ out (subst (λ o. has (sites_in o) c.site ≡ true) (sym f) (subst (λ (z : RegObject). has b z.site ≡ true) (sym same) j))
apart_values heap q s u (Ref n a) Int w e f h apart l r = no_reference w l r
  where
    no_reference : (w : RegValue) → Allows heap (Ref n a) w → Allows heap Int w → ⊥
    no_reference (IntValue z) x y = x
    no_reference NullValue x y = y
    no_reference (Address o) x y = y
apart_values heap q s u (Ref n a) Carry w e f h apart l r = no_reference w l r
  where
    no_reference : (w : RegValue) → Allows heap (Ref n a) w → Allows heap Carry w → ⊥
    no_reference (IntValue z) x y = x
    no_reference NullValue x y = y
    no_reference (Address o) x y = y
apart_values heap q s u Int y w e f h apart l r = both_ways _ refl h
apart_values heap q s u Carry y w e f h apart l r = both_ways _ refl h

-- ---- linear facts

paired_value : (ts us : List (ℕ × ℤ)) (m : Matching) (v : ℕ → RegValue) → ArePaired ts us m → value ts (λ n. number_of (taken m v n)) ≡ value us (λ n. number_of (v n))
paired_value [] [] m v a = refl
paired_value [] (u ∷ us) m v a = absurd a
paired_value (t ∷ ts) [] m v a = absurd a
paired_value (t ∷ ts) (u ∷ us) m v a =
    ap (λ z. (t.1 *ℤ z) +ℤ value ts (λ n. number_of (taken m v n))) (ap number_of (taken_at m v t.0 u.0 a.1))
    ∙ ap (λ z. (z *ℤ number_of (v u.0)) +ℤ value ts (λ n. number_of (taken m v n))) a.0
    ∙ ap (λ z. (u.1 *ℤ number_of (v u.0)) +ℤ z) (paired_value ts us m v a.2)

fact_met : (q : Query) (f : Form) (m : Matching) (v : ℕ → RegValue) → HasFact q f m → ((g : Form) → Among q.facts g → Holds g (λ n. number_of (v n))) → Holds f (λ n. number_of (taken m v n))
fact_met q f m v h all =
    let g = h.fact in
    let holds : Holds g (λ n. number_of (v n)) = all g (in_to g q.facts h.among) in
    let sum : value f.coefs (λ n. number_of (taken m v n)) ≡ value g.coefs (λ n. number_of (v n)) = paired_value f.coefs g.coefs m v h.coefs in
    subst (λ z. Stands f.rel (z +ℤ f.constant)) (sym sum)
    (subst (λ c. Stands f.rel (value g.coefs (λ n. number_of (v n)) +ℤ c)) h.constant (subst (λ k. Stands k (value g.coefs (λ n. number_of (v n)) +ℤ g.constant)) h.rel holds))

-- ---- frames and names

frames_met : (m : Matching) (v : ℕ → RegValue) (ss : List RegFrame) (fs gs : List Frame) → AreFramesMatched fs gs m → MeetFrames v ss fs → MeetFrames (taken m v) ss gs
frames_met m v ss [] [] a h = tt
frames_met m v ss [] (g ∷ gs) a h = absurd a
frames_met m v ss (f ∷ fs) [] a h = absurd a
frames_met m v [] (f ∷ fs) (g ∷ gs) a h = absurd h
frames_met m v (s ∷ ss) (f ∷ fs) (g ∷ gs) a h = (
  h.0 ∙ a.0,
  (λ x i.
      let p = a.1 x (in_from x g.regs i) in
      ap s.regs (sym p.same) ∙ h.1 p.partner (in_to p.partner f.regs p.among) ∙ sym (taken_at m v x.1 p.partner.1 p.matched)),
  frames_met m v ss fs gs a.2 h.2,
)

-- a named symbol has a partner that is named
pub record HasNamed (q : Query) (m : Matching) (n : ℕ) : Type 0 where
  pub partner : ℕ
  pub matched : At m n partner
  pub named : is_named q partner ≡ true

frame_partner : (q : Query) (m : Matching) (fs gs : List Frame) (g : Frame) (x : Reg × ℕ) → ((f : Frame) → In f fs → Among q.frames f) → AreFramesMatched fs gs m → In g gs → In x g.regs → HasNamed q m x.1
frame_partner q m [] [] g x within a i j = absurd i
frame_partner q m [] (h ∷ hs) g x within a i j = absurd a
frame_partner q m (f ∷ fs) [] g x within a i j = absurd i
frame_partner q m (f ∷ fs) (h ∷ hs) g x within a (inl e) j =
    let p = a.1 x (subst (λ (k : Frame). In x k.regs) e j) in
    record { partner = p.partner.1; matched = p.matched; named = register_named q f p.partner (within f (inl refl)) (in_to p.partner f.regs p.among) }
frame_partner q m (f ∷ fs) (h ∷ hs) g x within a (inr i) j = frame_partner q m fs hs g x (λ k l. within k (inr l)) a.2 i j

pub record HasLink (q : Query) (m : Matching) (k : Link) : Type 0 where
  pub link : Link
  pub among : Among (links q) link
  pub slot : link.slot ≡ k.slot
  pub base : At m k.base link.base
  pub value : At m k.value link.value

one_field : (f g : FieldId) → f.0 ≡ g.0 → Field f ≡ Field g
one_field f g e = λ i. Field record { 0 = e i }

link_partner : (q r : Query) (m : Matching) → IsMatching q r m → (k : Link) → Among (links r) k → HasLink q m k
link_partner q r m h k a = elim (among_either k (map cell_link r.cells) (map element_link r.elems) a) [
  | inl left ↦
      let c = among_unmap cell_link k r.cells left in
      let p = h.cells c.0 (in_from c.0 r.cells c.1) in
      subst (HasLink q m) (sym c.2) record {
        link = cell_link p.cell;
        among = among_left (cell_link p.cell) _ _ (among_map cell_link p.cell q.cells (in_to p.cell q.cells p.among));
        slot = one_field p.cell.field c.0.field p.same;
        base = p.base;
        value = p.value;
      }
  | inr right ↦
      let c = among_unmap element_link k r.elems right in
      let p = h.elems c.0 (in_from c.0 r.elems c.1) in
      subst (HasLink q m) (sym c.2) record {
        link = element_link p.element;
        among = among_right (element_link p.element) _ _ (among_map element_link p.element q.elems (in_to p.element q.elems p.among));
        slot = refl;
        base = p.array;
        value = p.value;
      }
]

named_partner : (q r : Query) (m : Matching) → IsMatching q r m → (n : ℕ) → Names r n → HasNamed q m n
named_partner q r m h _ (by_register f x a b) = frame_partner q m q.frames r.frames f x (λ g i. in_to g q.frames i) h.frames (in_from f r.frames a) (in_from x f.regs b)
named_partner q r m h _ (by_static x a) =
    let p = h.statics x (in_from x r.statics a) in
    record { partner = p.partner.1; matched = p.matched; named = static_named q p.partner (in_to p.partner q.statics p.among) }
named_partner q r m h _ (by_base k a) = let p = link_partner q r m h k a in record { partner = p.link.base; matched = p.base; named = base_named q p.link p.among }
named_partner q r m h _ (by_value k a) = let p = link_partner q r m h k a in record { partner = p.link.value; matched = p.value; named = value_named q p.link p.among }

no_frames : (fs gs : List Frame) (m : Matching) → AreFramesMatched fs gs m → gs ≡ [] → fs ≡ []
no_frames [] gs m a e = refl
no_frames (f ∷ fs) [] m a e = absurd a
no_frames (f ∷ fs) (g ∷ gs) m a e = absurd cc

-- ---- the whole

matched_met : (s : RegState) (q r : Query) (m : Matching) (v : ℕ → RegValue) → ((d : ℕ × ℕ) → Among r.diffs d → IsRef r d.0 × IsRef r d.1) → IsMatching q r m → is_as_strong q r m ≡ true → Meets s q v → Meets s r (taken m v)
matched_met s q r m v refs h strong k =
    let both = and_parts (are_narrower q r 0 m) _ strong in
    let partner : (n : ℕ) → is_named r n ≡ true → HasNamed q m n = λ n i. named_partner q r m h n (names_of r n i) in
    let there : (n t : ℕ) (x : Sym) → At m n t → symbol_at r n ≡ Some x → (y : Sym) × (symbol_at q t ≡ Some y) × (same_kind (Some y) (Some x) ≡ true) =
    λ n t x at e.
    let kind : same_kind (symbol_at q t) (Some x) ≡ true = subst (λ o. same_kind (symbol_at q t) o ≡ true) e (h.kinds n t at) in
    let y = kind_there (symbol_at q t) x kind in
    (y.0, y.1, subst (λ o. same_kind o (Some x) ≡ true) y.1 kind) in
    record {
      idle = λ e. k.idle (no_frames q.frames r.frames m h.frames e);
      frames = frames_met m v s.frames q.frames r.frames h.frames k.frames;
      statics = λ x a.
          let p = h.statics x (in_from x r.statics a) in
          ap s.statics (sym p.same) ∙ k.statics p.partner (in_to p.partner q.statics p.among) ∙ sym (taken_at m v x.1 p.partner.1 p.matched);
      links = λ l a.
          let p = link_partner q r m h l a in
          subst (λ z. HoldsAt s.heap z (taken m v l.base) (taken m v l.value)) p.slot
          (subst (λ w. HoldsAt s.heap p.link.slot w (taken m v l.value)) (sym (taken_at m v l.base p.link.base p.base))
          (subst (λ w. HoldsAt s.heap p.link.slot (v p.link.base) w) (sym (taken_at m v l.value p.link.value p.value)) (k.links p.link p.among)));
      named = λ n x i e.
          let p = partner n i in
          let y = there n p.partner x p.matched e in
          let narrow : is_narrower q r p.partner n ≡ true = let z : 0 + n ≡ n = omega arith in subst (λ j. is_narrower q r p.partner j ≡ true) z (narrower_at q r 0 m n p.partner both.0 p.matched) in
          let parts = and_parts (list_all (has (sites_of r n)) (sites_of q p.partner)) _ narrow in
          let all : list_all (has (sites_in (Some x))) (sites_in (Some y.0)) ≡ true = subst (λ o. list_all (has (sites_in o)) (sites_in (Some y.0)) ≡ true) e (subst (λ o. list_all (has (sites_of r n)) (sites_in o) ≡ true) y.1 parts.0) in
          let nulls : (not (null_in (Some y.0)) || null_in (Some x)) ≡ true = subst (λ o. (not (null_in (Some y.0)) || null_in o) ≡ true) e (subst (λ o. (not (null_in o) || null_in (symbol_at r n)) ≡ true) y.1 parts.1) in
          subst (Allows s.heap x) (sym (taken_at m v n p.partner p.matched)) (narrower_allows s.heap y.0 x (v p.partner) y.2 all nulls (k.named p.partner y.0 p.named y.1));
      numbers = λ n x i e. number n x i e (slice_get m n) refl there;
      diffs = λ d a i j same.
          let p = partner d.0 i in
          let u = partner d.1 j in
          let apart : differ q (Some (Some p.partner)) (Some (Some u.partner)) ≡ true =
          subst (λ o. differ q o (Some (Some u.partner)) ≡ true) p.matched (subst (λ o. differ q (slice_get m d.0) o ≡ true) u.matched (among_all (λ (e : ℕ × ℕ). differ q (slice_get m e.0) (slice_get m e.1)) d r.diffs both.1 a)) in
          let equal : v p.partner ≡ v u.partner = sym (taken_at m v d.0 p.partner p.matched) ∙ same ∙ taken_at m v d.1 u.partner u.matched in
          elim (or_cases (has_difference q p.partner u.partner) _ apart) [
            | inl given ↦
                let e = any_among (λ (d : ℕ × ℕ). ((d.0 == p.partner) && (d.1 == u.partner)) || ((d.0 == u.partner) && (d.1 == p.partner))) q.diffs given in
                given_differs p.partner u.partner p.named u.named equal e.0 e.1 e.2
            | inr by_sites ↦
                let ref = refs d a in
                let x = ref_symbol (symbol_at r d.0) ref.0 in
                let z = ref_symbol (symbol_at r d.1) ref.1 in
                let y = there d.0 p.partner x.0 p.matched x.1 in
                let w = there d.1 u.partner z.0 u.matched z.1 in
                apart_values s.heap q p.partner u.partner y.0 w.0 (v p.partner) y.1 w.1 (ref_kind y.0 x.0 y.2 (subst (λ o. is_ref_symbol o ≡ true) x.1 ref.0)) by_sites (k.named p.partner y.0 p.named y.1)
                (subst (Allows s.heap w.0) (sym equal) (k.named u.partner w.0 u.named w.1))
          ];
      facts = λ f a. fact_met q f m v (h.facts f (in_from f r.facts a)) k.facts;
    }
  where
    number : (n : ℕ) (x : Sym) → is_number_symbol (Some x) ≡ true → symbol_at r n ≡ Some x → (o : Option (Option ℕ)) → slice_get m n ≡ o
        → ((n t : ℕ) (x : Sym) → At m n t → symbol_at r n ≡ Some x → (y : Sym) × (symbol_at q t ≡ Some y) × (same_kind (Some y) (Some x) ≡ true)) → Allows s.heap x (taken m v n)
    number n x i e None is there = subst (Allows s.heap x) (sym (ap (value_by v) is)) (zero_allowed s.heap x i)
    number n x i e (Some None) is there = subst (Allows s.heap x) (sym (ap (value_by v) is)) (zero_allowed s.heap x i)
    number n x i e (Some (Some t)) is there =
        let y = there n t x is e in
        let alike = number_alike y.0 x y.2 i in
        subst (Allows s.heap x) (sym (ap (value_by v) is)) (k.numbers t x i (y.1 ∙ ap (λ z. Some z) alike))

    given_differs : (a b : ℕ) → is_named q a ≡ true → is_named q b ≡ true → v a ≡ v b → (d : ℕ × ℕ) → Among q.diffs d → (((d.0 == a) && (d.1 == b)) || ((d.0 == b) && (d.1 == a))) ≡ true → ⊥
    given_differs a b na nb same d i e = elim (or_cases ((d.0 == a) && (d.1 == b)) _ e) [
      | inl straight ↦
          let x = and_parts (d.0 == a) (d.1 == b) straight in
          let f = eqb-true d.0 a x.0 in
          let g = eqb-true d.1 b x.1 in
          k.diffs d i (subst (λ z. is_named q z ≡ true) (sym f) na) (subst (λ z. is_named q z ≡ true) (sym g) nb) (ap v f ∙ same ∙ sym (ap v g))
      | inr turned ↦
          let x = and_parts (d.0 == b) (d.1 == a) turned in
          let f = eqb-true d.0 b x.0 in
          let g = eqb-true d.1 a x.1 in
          k.diffs d i (subst (λ z. is_named q z ≡ true) (sym f) nb) (subst (λ z. is_named q z ≡ true) (sym g) na) (ap v f ∙ sym same ∙ sym (ap v g))
    ]

    ref_symbol : (o : Option Sym) → is_ref_symbol o ≡ true → (x : Sym) × (o ≡ Some x)
    ref_symbol None e = absurd (both_ways _ refl e)
    ref_symbol (Some x) e = (x, refl)

    ref_kind : (y x : Sym) → same_kind (Some y) (Some x) ≡ true → is_ref_symbol (Some x) ≡ true → is_ref_symbol (Some y) ≡ true
    ref_kind (Ref n a) x e i = refl
    ref_kind Int (Ref n a) e i = absurd (both_ways _ refl e)
    ref_kind Int Int e i = absurd (both_ways _ refl i)
    ref_kind Int Carry e i = absurd (both_ways _ refl i)
    ref_kind Carry (Ref n a) e i = absurd (both_ways _ refl e)
    ref_kind Carry Int e i = absurd (both_ways _ refl i)
    ref_kind Carry Carry e i = absurd (both_ways _ refl i)

pub subsumed_met : (s : RegState) (q r : Query) → ((d : ℕ × ℕ) → Among r.diffs d → IsRef r d.0 × IsRef r d.1) → is_subsumed q r ≡ true → MeetsQuery s q → MeetsQuery s r
subsumed_met s q r refs e (v, k) = go (matching_of q r) refl e
  where
    go : (o : Option Matching) → matching_of q r ≡ o → option_map_or (is_as_strong q r) o false ≡ true → MeetsQuery s r
    go None is h = absurd (both_ways _ refl h)
    go (Some m) is h = (taken m v, matched_met s q r m v refs (matching_is q r m is) h k)

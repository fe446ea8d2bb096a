-- The values that meet a query meet it sorted, and meet it with its symbols numbered anew: each new
-- number has the value of the old one.
use Rattle.std.proofs.Common.{◌≡◌, ◌⊎◌, inl, inr, ℕ, ◌<◌, ◌==◌, min, max, Bool, true, false, cond, ℤ, ◌+ℤ◌, ◌*ℤ◌, List, [], ◌∷◌, ◌++◌, length, map, get_or, Option, None, Some, slice_get, refl, sym, ap, subst, ◌∙◌, arith}
use Rattle.std.specs.Prelude.{◌≢◌, nat_le}
use Rattle.std.specs.List.{filter, list_any}
use Rattle.std.proofs.lemmas.Bool.{cases_lt, or_left, or_right, both_ways, eq-eqb}
use Rattle.std.proofs.lemmas.List.{length-map}
use Rattle.std.proofs.lemmas.Option.{slice_get_within}
use Rattle.th_base.specs.declared.number.FieldId.{FieldId}
use Rattle.th_base.specs.declared.number.Reg.{Reg}
use Rattle.th_base.specs.IdSet.{has}
use Rattle.th_linear.specs.Forms.{Form, Holds, Stands, value}
use Rattle.th_linear.specs.Gathered.{name_of, renamed_form}
use Rattle.th_linear.specs.Laws.{RenamingComposes}
use Rattle.th_ir.specs.Program.{Among}
use Rattle.th_ir.specs.Machine.{RegValue, RegFrame, RegState}
use Rattle.th_query.specs.declared.query.Frame.{Frame}
use Rattle.th_query.specs.declared.query.Cell.{Cell}
use Rattle.th_query.specs.declared.query.Element.{Element}
use Rattle.th_query.specs.declared.query.Link.{Link}
use Rattle.th_query.specs.declared.query.Sym.{Sym}
use Rattle.th_query.specs.declared.query.Sym.TheVariants.{Ref, Int, Carry}
use Rattle.th_query.specs.declared.query.Query.{Query}
use Rattle.th_query.specs.Symbols.{cell_link, element_link, links, register_symbols, static_symbols, is_named, is_in_fact, is_number_symbol, counts, is_left, symbol_at}
use Rattle.th_query.specs.Meets.{number_of, MeetFrames, HoldsAt, Meets}
use Rattle.th_query.specs.Unified.{renamed, renamed_cell, renamed_element}
use Rattle.th_query.specs.WellFormed.{IsNumber}
use Rattle.th_query.specs.Numbered.{sorted_in, sorted_by, sorted_frame, sorted_query, next_of, order_of, numbers_by, numbered_frame, numbered_pair, numbered_by}
use Rattle.th_query.proofs.InLists.{In, in_from, in_to, among_map, among_unmap, among_left, among_right, among_either, among_filter, among_present, among_any, in_has}
use Rattle.th_query.proofs.Naming.{Names, by_register, by_static, by_base, by_value, names_of, register_named, static_named, base_named, value_named}
use Rattle.th_query.proofs.Formed.{AreThere, AreFacts}
use Rattle.th_query.proofs.Unifying.{renamed_link, no_items}
use Rattle.th_query.proofs.Mentioning.{order_all, order_once, in_at, place_of_at, length_present, name_is_place, name_back, present_at}
use Rattle.th_base.proofs.Membership.{has_append_cases}

-- ---- sorting

in_sorted_in : {X : Type 0} (key : X → ℕ) (x y : X) (ys : List X) → In x (sorted_in key y ys) → (x ≡ y) ⊎ In x ys
in_sorted_in key x y [] (inl e) = inl e
in_sorted_in key x y [] (inr none) = absurd none
in_sorted_in {X = X} key x y (z ∷ zs) m = go (nat_le (key y) (key z)) m (in_sorted_in key x y zs)
  where
    go : (b : Bool) → In x (cond b (y ∷ z ∷ zs) (z ∷ sorted_in key y zs)) → (In x (sorted_in key y zs) → (x ≡ y) ⊎ In x zs) → (x ≡ y) ⊎ In x (z ∷ zs)
    go true (inl e) f = inl e
    go true (inr n) f = inr n
    go false (inl e) f = inr (inl e)
    go false (inr n) f = elim (f n) [ inl e ↦ inl e | inr l ↦ inr (inr l) ]

in_sorted : {X : Type 0} (key : X → ℕ) (x : X) (xs : List X) → In x (sorted_by key xs) → In x xs
in_sorted key x [] m = m
in_sorted key x (y ∷ ys) m = elim (in_sorted_in key x y (sorted_by key ys) m) [ inl e ↦ inl e | inr n ↦ inr (in_sorted key x ys n) ]

pub among_sorted : {X : Type 0} (key : X → ℕ) (x : X) (xs : List X) → Among (sorted_by key xs) x → Among xs x
among_sorted key x xs m = in_to x xs (in_sorted key x xs (in_from x (sorted_by key xs) m))

pub sorted_register_from : (q : Query) (f : Frame) → Among (sorted_query q).frames f → (g : Frame) × Among q.frames g × (f ≡ sorted_frame g)
sorted_register_from q f a = among_unmap sorted_frame f q.frames a

pub sorted_link_from : (q : Query) (k : Link) → Among (links (sorted_query q)) k → Among (links q) k
sorted_link_from q k m = elim (among_either k (map cell_link (sorted_query q).cells) (map element_link (sorted_query q).elems) m) [
  | inl left ↦
      let c = among_unmap cell_link k (sorted_query q).cells left in
      subst (λ j. Among (links q) j) (sym c.2) (among_left (cell_link c.0) _ _ (among_map cell_link c.0 q.cells (among_sorted (λ (d : Cell). d.field.0) c.0 q.cells c.1)))
  | inr right ↦
      let e = among_unmap element_link k (sorted_query q).elems right in
      subst (λ j. Among (links q) j) (sym e.2) (among_right (element_link e.0) _ _ (among_map element_link e.0 q.elems e.1))
]

pub sorted_named : (q : Query) (n : ℕ) → is_named (sorted_query q) n ≡ true → is_named q n ≡ true
sorted_named q n h = go n (names_of (sorted_query q) n h)
  where
    go : (n : ℕ) → Names (sorted_query q) n → is_named q n ≡ true
    go _ (by_register f x a b) =
        let g = sorted_register_from q f a in
        register_named q g.0 x g.1 (among_sorted (λ (y : Reg × ℕ). y.0.0) x g.0.regs (subst (λ (k : Frame). Among k.regs x) g.2 b))
    go _ (by_static x a) = static_named q x (among_sorted (λ (y : FieldId × ℕ). y.0.0) x q.statics a)
    go _ (by_base k a) = base_named q k (sorted_link_from q k a)
    go _ (by_value k a) = value_named q k (sorted_link_from q k a)

frames_sorted : (v : ℕ → RegValue) (ss : List RegFrame) (gs : List Frame) → MeetFrames v ss gs → MeetFrames v ss (map sorted_frame gs)
frames_sorted v ss [] m = tt
frames_sorted v [] (g ∷ gs) m = absurd m
frames_sorted v (f ∷ fs) (g ∷ gs) m = (m.0, (λ x a. m.1 x (among_sorted (λ (y : Reg × ℕ). y.0.0) x g.regs a)), frames_sorted v fs gs m.2)

pub sorted_met : (s : RegState) (q : Query) (v : ℕ → RegValue) → Meets s q v → Meets s (sorted_query q) v
sorted_met s q v m = record {
  idle = λ e. m.idle (no_items sorted_frame q.frames e);
  frames = frames_sorted v s.frames q.frames m.frames;
  statics = λ x a. m.statics x (among_sorted (λ (y : FieldId × ℕ). y.0.0) x q.statics a);
  links = λ k a. m.links k (sorted_link_from q k a);
  named = λ n x h. m.named n x (sorted_named q n h);
  numbers = m.numbers;
  diffs = λ d a h k. m.diffs d a (sorted_named q d.0 h) (sorted_named q d.1 k);
  facts = m.facts;
}

-- ---- what counts

counted : (q : Query) (s : ℕ) (o : Option Sym) (x : Sym) → o ≡ Some x → is_named q s ≡ true → counts q s o ≡ true
counted q s o x e n = subst (λ z. counts q s z ≡ true) (sym e) (go x)
  where
    go : (x : Sym) → counts q s (Some x) ≡ true
    go (Ref null sites) = n
    go Int = or_left (is_named q s) (is_in_fact q s) n
    go Carry = or_left (is_named q s) (is_in_fact q s) n

pub named_left : (q : Query) (s : ℕ) → AreThere q → is_named q s ≡ true → is_left q s ≡ true
named_left q s there n = let x = there s n in counted q s (symbol_at q s) x.0 x.1 n

number_counts : (q : Query) (s : ℕ) (o : Option Sym) → is_number_symbol o ≡ true → is_in_fact q s ≡ true → counts q s o ≡ true
number_counts q s None h k = absurd (both_ways _ refl h)
number_counts q s (Some (Ref null sites)) h k = absurd (both_ways _ refl h)
number_counts q s (Some Int) h k = or_right (is_named q s) (is_in_fact q s) k
number_counts q s (Some Carry) h k = or_right (is_named q s) (is_in_fact q s) k

-- the variables of facts are numbers that are there
abbrev pub AreNumbers : Query → Type 0
AreNumbers q = (f : Form) → Among q.facts f → (u : ℕ) → Among (map (λ (t : ℕ × ℤ). t.0) f.coefs) u → IsNumber q u

pub variable_left : (q : Query) → AreNumbers q → (f : Form) → Among q.facts f → (u : ℕ) → Among (map (λ (t : ℕ × ℤ). t.0) f.coefs) u → is_left q u ≡ true
variable_left q numbers f a u m =
    let t = among_unmap (λ (t : ℕ × ℤ). t.0) u f.coefs m in
    number_counts q u (symbol_at q u) (numbers f a u m)
    (among_any (λ (g : Form). list_any (λ (t : ℕ × ℤ). t.0 == u) g.coefs) f q.facts a (among_any (λ (t : ℕ × ℤ). t.0 == u) t.0 f.coefs t.1 (eq-eqb t.0.0 u (sym t.2))))

pub left_there : (q : Query) (s : ℕ) → is_left q s ≡ true → (x : Sym) × (symbol_at q s ≡ Some x)
left_there q s h = go (symbol_at q s) refl h
  where
    go : (o : Option Sym) → symbol_at q s ≡ o → counts q s o ≡ true → (x : Sym) × (symbol_at q s ≡ Some x)
    go None is k = absurd (both_ways _ refl k)
    go (Some x) is k = (x, is)

-- ---- the order has what is left, and nothing else

link_symbols_in : (q : Query) (s u : ℕ) → In u (next_of q s) → is_named q u ≡ true
link_symbols_in q s u m = elim (among_either u (map (λ (c : Cell). c.value) (filter (λ (c : Cell). c.base == s) q.cells)) (map (λ (e : Element). e.value) (filter (λ (e : Element). e.array == s) q.elems)) (in_to u (next_of q s) m)) [
  | inl left ↦
      let c = among_unmap (λ (c : Cell). c.value) u (filter (λ (c : Cell). c.base == s) q.cells) left in
      let d = among_filter (λ (c : Cell). c.base == s) c.0 q.cells c.1 in
      subst (λ k. is_named q k ≡ true) (sym c.2) (value_named q (cell_link c.0) (among_left (cell_link c.0) _ _ (among_map cell_link c.0 q.cells d.0)))
  | inr right ↦
      let c = among_unmap (λ (e : Element). e.value) u (filter (λ (e : Element). e.array == s) q.elems) right in
      let d = among_filter (λ (e : Element). e.array == s) c.0 q.elems c.1 in
      subst (λ k. is_named q k ≡ true) (sym c.2) (value_named q (element_link c.0) (among_right (element_link c.0) _ _ (among_map element_link c.0 q.elems d.0)))
]

roots_named : (q : Query) (s : ℕ) → In s (register_symbols q ++ static_symbols q) → is_named q s ≡ true
roots_named q s m = elim (has_append_cases (register_symbols q) (static_symbols q) s (in_has s (register_symbols q ++ static_symbols q) m)) [
  | inl r ↦ or_left (has (register_symbols q) s) _ r
  | inr t ↦ or_right (has (register_symbols q) s) _ (or_left (has (static_symbols q) s) _ t)
]

pub ordered_left : (q : Query) → AreThere q → (s : ℕ) → In s (order_of q) → is_left q s ≡ true
ordered_left q there s m = order_all (λ u. is_left q u ≡ true) q (λ u i. named_left q u there (roots_named q u i)) (λ a u i. named_left q u there (link_symbols_in q a u i)) (λ u h. h) s m

pub ordered_there : (q : Query) → AreThere q → (s : ℕ) → In s (order_of q) → (x : Sym) × (slice_get q.syms s ≡ Some x)
ordered_there q there s m = left_there q s (ordered_left q there s m)

-- ---- the numbered query, by the query that is sorted

abbrev pub new_names : Query → List ℕ
new_names q = numbers_by (order_of q) (length q.syms)

abbrev pub renumbered : Query → Query
renumbered q = numbered_by (order_of q) (new_names q) q

abbrev pub old_of : Query → ℕ → ℕ
old_of q n = get_or (order_of q) n 0

pub old_name : (q : Query) (s : ℕ) → is_left q s ≡ true → old_of q (name_of (new_names q) s) ≡ s
old_name q s left = let x = left_there q s left in name_back q s 0 (slice_get_within q.syms s x.0 x.1) left

pub numbered_link_from : (q : Query) (k : Link) → Among (links (renumbered q)) k → (old : Link) × Among (links q) old × (k ≡ renamed_link (new_names q) old)
numbered_link_from q k m = elim (among_either k (map cell_link (renumbered q).cells) (map element_link (renumbered q).elems) m) [
  | inl left ↦
      let c = among_unmap cell_link k (renumbered q).cells left in
      let d = among_unmap (renamed_cell (new_names q)) c.0 q.cells (among_sorted (λ (c : Cell). c.base) c.0 (map (renamed_cell (new_names q)) q.cells) c.1) in
      (cell_link d.0, among_left (cell_link d.0) _ _ (among_map cell_link d.0 q.cells d.1), c.2 ∙ ap cell_link d.2)
  | inr right ↦
      let c = among_unmap element_link k (renumbered q).elems right in
      let d = among_unmap (renamed_element (new_names q)) c.0 q.elems c.1 in
      (element_link d.0, among_right (element_link d.0) _ _ (among_map element_link d.0 q.elems d.1), c.2 ∙ ap element_link d.2)
]

numbered_symbol_from : (q : Query) (n : ℕ) → Names (renumbered q) n → (old : ℕ) × (is_named q old ≡ true) × (n ≡ name_of (new_names q) old)
numbered_symbol_from q _ (by_register f x a b) =
    let g = among_unmap (numbered_frame (new_names q)) f q.frames a in
    let y = among_unmap (renamed (new_names q)) x g.0.regs (subst (λ (k : Frame). Among k.regs x) g.2 b) in
    (y.0.1, register_named q g.0 y.0 g.1 y.1, ap (λ (z : Reg × ℕ). z.1) y.2)
numbered_symbol_from q _ (by_static x a) = let y = among_unmap (renamed (new_names q)) x q.statics a in (y.0.1, static_named q y.0 y.1, ap (λ (z : FieldId × ℕ). z.1) y.2)
numbered_symbol_from q _ (by_base k a) = let r = numbered_link_from q k a in (r.0.base, base_named q r.0 r.1, ap (λ (z : Link). z.base) r.2)
numbered_symbol_from q _ (by_value k a) = let r = numbered_link_from q k a in (r.0.value, value_named q r.0 r.1, ap (λ (z : Link). z.value) r.2)

pub numbered_old_named : (q : Query) (n : ℕ) → AreThere q → is_named (renumbered q) n ≡ true → (is_named q (old_of q n) ≡ true) × (n ≡ name_of (new_names q) (old_of q n))
numbered_old_named q n there h =
    let r = numbered_symbol_from q n (names_of (renumbered q) n h) in
    let back : old_of q n ≡ r.0 = ap (old_of q) r.2 ∙ old_name q r.0 (named_left q r.0 there r.1) in
    (subst (λ k. is_named q k ≡ true) (sym back) r.1, r.2 ∙ ap (name_of (new_names q)) (sym back))

pub numbered_symbol_at : (q : Query) → AreThere q → (n : ℕ) (x : Sym) → symbol_at (renumbered q) n ≡ Some x → symbol_at q (old_of q n) ≡ Some x
numbered_symbol_at q there n x e = present_at q.syms (order_of q) (ordered_there q there) n x e

frames_numbered : (q : Query) (v : ℕ → RegValue) → ((s : ℕ) → is_named q s ≡ true → old_of q (name_of (new_names q) s) ≡ s) → (ss : List RegFrame) (gs : List Frame) → ((g : Frame) → In g gs → Among q.frames g)
    → MeetFrames v ss gs → MeetFrames (λ n. v (old_of q n)) ss (map (numbered_frame (new_names q)) gs)
frames_numbered q v back ss [] within m = tt
frames_numbered q v back [] (g ∷ gs) within m = absurd m
frames_numbered q v back (f ∷ fs) (g ∷ gs) within m = (
  m.0,
  (λ x a.
      let y = among_unmap (renamed (new_names q)) x g.regs a in
      subst (λ (z : Reg × ℕ). f.regs z.0.0 ≡ v (old_of q z.1)) (sym y.2) (m.1 y.0 y.1 ∙ ap v (sym (back y.0.1 (register_named q g y.0 (within g (inl refl)) y.1))))),
  frames_numbered q v back fs gs (λ h i. within h (inr i)) m.2,
)

-- the sum depends on the variables that stand in it alone
value_agrees : (ts : List (ℕ × ℤ)) (a b : ℕ → ℤ) → ((u : ℕ) → In u (map (λ (t : ℕ × ℤ). t.0) ts) → a u ≡ b u) → value ts a ≡ value ts b
value_agrees [] a b h = refl
value_agrees (t ∷ ts) a b h = ap (λ z. (t.1 *ℤ z) +ℤ value ts a) (h t.0 (inl refl)) ∙ ap (λ z. (t.1 *ℤ b t.0) +ℤ z) (value_agrees ts a b (λ u m. h u (inr m)))

pub holds_agree : (f : Form) (a b : ℕ → ℤ) → ((u : ℕ) → Among (map (λ (t : ℕ × ℤ). t.0) f.coefs) u → a u ≡ b u) → Holds f a → Holds f b
holds_agree f a b h k = subst (λ z. Stands f.rel (z +ℤ f.constant)) (value_agrees f.coefs a b (λ u m. h u (in_to u (map (λ (t : ℕ × ℤ). t.0) f.coefs) m))) k

least_greatest : (P : ℕ → ℕ → Type 0) (a b : ℕ) → P a b → P b a → P (min a b) (max a b)
least_greatest P a b one other = elim (cases_lt a b) [
  | inl h ↦ let x : min a b ≡ a = omega (arith, h) in let y : max a b ≡ b = omega (arith, h) in rw (x, y) one
  | inr h ↦ let x : min a b ≡ b = omega (arith, h) in let y : max a b ≡ a = omega (arith, h) in rw (x, y) other
]

pub renumbered_met : (l : RenamingComposes) (s : RegState) (q : Query) (v : ℕ → RegValue) → AreThere q → AreFacts q → AreNumbers q → ((d : ℕ × ℕ) → Among q.diffs d → (is_named q d.0 ≡ true) × (is_named q d.1 ≡ true))
    → Meets s q v → Meets s (renumbered q) (λ n. v (old_of q n))
renumbered_met l s q v there facts numbers named m =
    let names = new_names q in
    let back : (u : ℕ) → is_named q u ≡ true → old_of q (name_of names u) ≡ u = λ u h. old_name q u (named_left q u there h) in
    record {
      idle = λ e. m.idle (no_items (numbered_frame names) q.frames e);
      frames = frames_numbered q v back s.frames q.frames (λ g i. in_to g q.frames i) m.frames;
      statics = λ x a.
          let y = among_unmap (renamed names) x q.statics a in
          subst (λ (z : FieldId × ℕ). s.statics z.0.0 ≡ v (old_of q z.1)) (sym y.2) (m.statics y.0 y.1 ∙ ap v (sym (back y.0.1 (static_named q y.0 y.1))));
      links = λ k a.
          let r = numbered_link_from q k a in
          subst (λ (z : Link). HoldsAt s.heap z.slot (v (old_of q z.base)) (v (old_of q z.value))) (sym r.2)
          (subst (λ u. HoldsAt s.heap r.0.slot (v u) (v (old_of q (name_of names r.0.value)))) (sym (back r.0.base (base_named q r.0 r.1)))
          (subst (λ u. HoldsAt s.heap r.0.slot (v r.0.base) (v u)) (sym (back r.0.value (value_named q r.0 r.1))) (m.links r.0 r.1)));
      named = λ n x h e. m.named (old_of q n) x (numbered_old_named q n there h).0 (numbered_symbol_at q there n x e);
      numbers = λ n x h e. m.numbers (old_of q n) x h (numbered_symbol_at q there n x e);
      diffs = λ d a h k.
          let e = among_unmap (numbered_pair names) d q.diffs a in
          let ends = named e.0 e.1 in
          let apart : v e.0.0 ≢ v e.0.1 = m.diffs e.0 e.1 ends.0 ends.1 in
          let first = back e.0.0 ends.0 in
          let second = back e.0.1 ends.1 in
          subst (λ (z : ℕ × ℕ). v (old_of q z.0) ≢ v (old_of q z.1)) (sym e.2)
          (least_greatest (λ x y. v (old_of q x) ≢ v (old_of q y)) (name_of names e.0.0) (name_of names e.0.1)
          (λ same. apart (sym (ap v first) ∙ same ∙ ap v second))
          (λ same. apart (sym (ap v first) ∙ sym same ∙ ap v second)));
      facts = λ f a.
          let g = among_unmap (renamed_form names) (Some f) q.facts (among_present f (map (renamed_form names) q.facts) a) in
          let law = l names g.0 f (facts g.0 g.1) (sym g.2) in
          (law.3 (λ n. number_of (v (old_of q n)))).1
          (holds_agree g.0 (λ n. number_of (v n)) (λ n. number_of (v (old_of q (name_of names n))))
          (λ u i. ap (λ k. number_of (v k)) (sym (old_name q u (variable_left q numbers g.0 g.1 u i)))) (m.facts g.0 g.1));
    }

-- ---- forward: what is named stays named

in_by_sorted_in : {X : Type 0} (key : X → ℕ) (x y : X) (ys : List X) → (x ≡ y) ⊎ In x ys → In x (sorted_in key y ys)
in_by_sorted_in key x y [] m = m
in_by_sorted_in {X = X} key x y (z ∷ zs) m = go (nat_le (key y) (key z)) m (in_by_sorted_in key x y zs)
  where
    go : (b : Bool) → (x ≡ y) ⊎ In x (z ∷ zs) → ((x ≡ y) ⊎ In x zs → In x (sorted_in key y zs)) → In x (cond b (y ∷ z ∷ zs) (z ∷ sorted_in key y zs))
    go true n f = n
    go false (inl e) f = inr (f (inl e))
    go false (inr (inl e)) f = inl e
    go false (inr (inr n)) f = inr (f (inr n))

in_by_sorted : {X : Type 0} (key : X → ℕ) (x : X) (xs : List X) → In x xs → In x (sorted_by key xs)
in_by_sorted key x [] m = m
in_by_sorted key x (y ∷ ys) (inl e) = in_by_sorted_in key x y (sorted_by key ys) (inl e)
in_by_sorted key x (y ∷ ys) (inr m) = in_by_sorted_in key x y (sorted_by key ys) (inr (in_by_sorted key x ys m))

pub among_by_sorted : {X : Type 0} (key : X → ℕ) (x : X) (xs : List X) → Among xs x → Among (sorted_by key xs) x
among_by_sorted key x xs m = in_to x (sorted_by key xs) (in_by_sorted key x xs (in_from x xs m))

link_by_sorted : (q : Query) (k : Link) → Among (links q) k → Among (links (sorted_query q)) k
link_by_sorted q k m = elim (among_either k (map cell_link q.cells) (map element_link q.elems) m) [
  | inl left ↦
      let c = among_unmap cell_link k q.cells left in
      subst (λ j. Among (links (sorted_query q)) j) (sym c.2) (among_left (cell_link c.0) _ _ (among_map cell_link c.0 (sorted_query q).cells (among_by_sorted (λ (d : Cell). d.field.0) c.0 q.cells c.1)))
  | inr right ↦ among_right k (map cell_link (sorted_query q).cells) (map element_link q.elems) right
]

pub named_sorted : (q : Query) (n : ℕ) → is_named q n ≡ true → is_named (sorted_query q) n ≡ true
named_sorted q n h = go n (names_of q n h)
  where
    go : (n : ℕ) → Names q n → is_named (sorted_query q) n ≡ true
    go _ (by_register f x a b) = register_named (sorted_query q) (sorted_frame f) x (among_map sorted_frame f q.frames a) (among_by_sorted (λ (y : Reg × ℕ). y.0.0) x f.regs b)
    go _ (by_static x a) = static_named (sorted_query q) x (among_by_sorted (λ (y : FieldId × ℕ). y.0.0) x q.statics a)
    go _ (by_base k a) = base_named (sorted_query q) k (link_by_sorted q k a)
    go _ (by_value k a) = value_named (sorted_query q) k (link_by_sorted q k a)

link_renumbered : (q : Query) (k : Link) → Among (links q) k → Among (links (renumbered q)) (renamed_link (new_names q) k)
link_renumbered q k m = elim (among_either k (map cell_link q.cells) (map element_link q.elems) m) [
  | inl left ↦
      let c = among_unmap cell_link k q.cells left in
      subst (λ (j : Link). Among (links (renumbered q)) (renamed_link (new_names q) j)) (sym c.2)
      (among_left (cell_link (renamed_cell (new_names q) c.0)) _ _ (among_map cell_link (renamed_cell (new_names q) c.0) (renumbered q).cells
      (among_by_sorted (λ (d : Cell). d.base) (renamed_cell (new_names q) c.0) (map (renamed_cell (new_names q)) q.cells) (among_map (renamed_cell (new_names q)) c.0 q.cells c.1))))
  | inr right ↦
      let e = among_unmap element_link k q.elems right in
      subst (λ (j : Link). Among (links (renumbered q)) (renamed_link (new_names q) j)) (sym e.2)
      (among_right (element_link (renamed_element (new_names q) e.0)) (map cell_link (renumbered q).cells) _ (among_map element_link (renamed_element (new_names q) e.0) (renumbered q).elems (among_map (renamed_element (new_names q)) e.0 q.elems e.1)))
]

pub named_renumbered : (q : Query) (n : ℕ) → is_named q n ≡ true → is_named (renumbered q) (name_of (new_names q) n) ≡ true
named_renumbered q n h = go n (names_of q n h)
  where
    go : (n : ℕ) → Names q n → is_named (renumbered q) (name_of (new_names q) n) ≡ true
    go _ (by_register f x a b) =
        register_named (renumbered q) (numbered_frame (new_names q) f) (renamed (new_names q) x) (among_map (numbered_frame (new_names q)) f q.frames a) (among_map (renamed (new_names q)) x f.regs b)
    go _ (by_static x a) = static_named (renumbered q) (renamed (new_names q) x) (among_map (renamed (new_names q)) x q.statics a)
    go _ (by_base k a) = base_named (renumbered q) (renamed_link (new_names q) k) (link_renumbered q k a)
    go _ (by_value k a) = value_named (renumbered q) (renamed_link (new_names q) k) (link_renumbered q k a)

-- a symbol of the numbered query is one that is left, under its new number
pub record IsNew (q : Query) (n : ℕ) (x : Sym) : Type 0 where
  pub symbol : symbol_at q (old_of q n) ≡ Some x
  pub left : is_left q (old_of q n) ≡ true
  pub name : name_of (new_names q) (old_of q n) ≡ n

pub new_symbol : (q : Query) → AreThere q → (n : ℕ) (x : Sym) → symbol_at (renumbered q) n ≡ Some x → IsNew q n x
new_symbol q there n x e =
    let few = length_present (map (slice_get q.syms) (order_of q)) in
    let long : length (map (slice_get q.syms) (order_of q)) ≡ length (order_of q) = length-map (order_of q) (slice_get q.syms) in
    let within = slice_get_within (renumbered q).syms n x e in
    let below : n < length (order_of q) = omega (arith, few, long, within) in
    let at = numbered_symbol_at q there n x e in
    let inside = slice_get_within q.syms (old_of q n) x at in
    record {
      symbol = at;
      left = ordered_left q there (old_of q n) (in_at (order_of q) n 0 below);
      name = name_is_place (order_of q) (length q.syms) (old_of q n) inside ∙ place_of_at (order_of q) n 0 (order_once q) below;
    }

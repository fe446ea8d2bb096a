-- The values that meet a query meet it with its symbols unified.
use mathlib.Core.Path.{fun_ext}
use Rattle.std.proofs.Common.{◌≡◌, inl, inr, ℕ, ◌+◌, ◌==◌, zero, suc, Bool, true, ℤ, List, [], ◌∷◌, map, Option, Some, slice_get, refl, sym, ap, subst, ◌∙◌, arith}
use Rattle.std.specs.Prelude.{◌&&◌}
use Rattle.std.specs.List.{list_all, filter}
use Rattle.std.proofs.lemmas.Bool.{eqb-true, and_from, both_ways}
use Rattle.std.proofs.lemmas.Option.{get_or_from_slice_get}
use Rattle.th_base.specs.declared.number.FieldId.{FieldId}
use Rattle.th_base.specs.declared.number.Reg.{Reg}
use Rattle.th_base.specs.IdSet.{has}
use Rattle.th_base.proofs.Ascending.{has-filter}
use Rattle.th_linear.specs.Forms.{Form, Holds}
use Rattle.th_linear.specs.Gathered.{name_of, renamed_form}
use Rattle.th_linear.specs.Laws.{RenamingComposes}
use Rattle.th_ir.specs.Program.{Among}
use Rattle.th_ir.specs.Machine.{RegValue, IntValue, NullValue, Address, RegObject, RegFrame, RegState}
use Rattle.th_ir.proofs.Plain.{same_found, some_is}
use Rattle.th_query.specs.declared.query.Frame.{Frame}
use Rattle.th_query.specs.declared.query.Link.{Link}
use Rattle.th_query.specs.declared.query.Sym.{Sym}
use Rattle.th_query.specs.declared.query.Sym.TheVariants.{Ref, Int, Carry}
use Rattle.th_query.specs.declared.query.Query.{Query}
use Rattle.th_query.specs.Symbols.{cell_link, element_link, links, is_named, is_number_symbol, null_in, sites_in, sites_of, symbol_at}
use Rattle.th_query.specs.Meets.{Allows, number_of, MeetFrames, HoldsAt, Meets}
use Rattle.th_query.specs.Unified.{IsOne, AreLeast, renamed, renamed_cell, renamed_element, renamed_pair, one_register, one_static, one_cell, unified_frame, class_of, common_symbol, common_symbols, unified_by}
use Rattle.th_query.proofs.Formed.{AreThere, AreFacts}
use Rattle.th_query.proofs.InLists.{In, among_map, among_unmap, among_left, among_right, among_either, among_firsts, among_present, all_from, place_meets}
use Rattle.th_query.proofs.Naming.{Names, by_register, by_static, by_base, by_value, names_of, register_named, static_named, base_named, value_named}
use Rattle.th_query.proofs.Ones.{same_of_one, named_of_one, name_of_name}
use Rattle.th_query.proofs.SameValues.{values_respect}

-- ---- where the facts of the unified query are from

abbrev pub renamed_link : List ℕ → Link → Link
renamed_link names k = record { base = name_of names k.base; slot = k.slot; value = name_of names k.value }

pub link_from : (names : List ℕ) (q : Query) (k : Link) → Among (links (unified_by names q)) k → (old : Link) × Among (links q) old × (k ≡ renamed_link names old)
link_from names q k m = elim (among_either k (map cell_link (unified_by names q).cells) (map element_link (unified_by names q).elems) m) [
  | inl left ↦
      let c = among_unmap cell_link k (unified_by names q).cells left in
      let d = among_unmap (renamed_cell names) c.0 q.cells (among_firsts one_cell c.0 (map (renamed_cell names) q.cells) c.1) in
      (cell_link d.0, among_left (cell_link d.0) _ _ (among_map cell_link d.0 q.cells d.1), c.2 ∙ ap cell_link d.2)
  | inr right ↦
      let c = among_unmap element_link k (unified_by names q).elems right in
      let d = among_unmap (renamed_element names) c.0 q.elems c.1 in
      (element_link d.0, among_right (element_link d.0) _ _ (among_map element_link d.0 q.elems d.1), c.2 ∙ ap element_link d.2)
]

pub register_from : (names : List ℕ) (q : Query) (f : Frame) (x : Reg × ℕ) → Among (map (unified_frame names) q.frames) f → Among f.regs x
    → (g : Frame) × (y : Reg × ℕ) × Among q.frames g × Among g.regs y × (x ≡ renamed names y) × (f ≡ unified_frame names g)
register_from names q f x a b =
    let g = among_unmap (unified_frame names) f q.frames a in
    let y = among_unmap (renamed names) x g.0.regs (among_firsts one_register x (map (renamed names) g.0.regs) (subst (λ (h : Frame). Among h.regs x) g.2 b)) in
    (g.0, y.0, g.1, y.1, y.2, g.2)

pub static_from : (names : List ℕ) (q : Query) (x : FieldId × ℕ) → Among (unified_by names q).statics x → (y : FieldId × ℕ) × Among q.statics y × (x ≡ renamed names y)
static_from names q x a = among_unmap (renamed names) x q.statics (among_firsts one_static x (map (renamed names) q.statics) a)

-- what the unified query names is the name of something that the query names
symbol_from : (names : List ℕ) (q : Query) (n : ℕ) → Names (unified_by names q) n → (old : ℕ) × (is_named q old ≡ true) × (n ≡ name_of names old)
symbol_from names q _ (by_register f x a b) = let r = register_from names q f x a b in (r.1.1, register_named q r.0 r.1 r.2 r.3, ap (λ (z : Reg × ℕ). z.1) r.4)
symbol_from names q _ (by_static x a) = let r = static_from names q x a in (r.0.1, static_named q r.0 r.1, ap (λ (z : FieldId × ℕ). z.1) r.2)
symbol_from names q _ (by_base k a) = let r = link_from names q k a in (r.0.base, base_named q r.0 r.1, ap (λ (z : Link). z.base) r.2)
symbol_from names q _ (by_value k a) = let r = link_from names q k a in (r.0.value, value_named q r.0 r.1, ap (λ (z : Link). z.value) r.2)

-- it is named in the query too, and stands for itself
pub named_before : (names : List ℕ) (q : Query) (n : ℕ) → AreLeast q names → is_named (unified_by names q) n ≡ true → (is_named q n ≡ true) × (name_of names n ≡ n)
named_before names q n l h =
    let r = symbol_from names q n (names_of (unified_by names q) n h) in (
      subst (λ k. is_named q k ≡ true) (sym r.2) ((named_of_one q r.0 (name_of names r.0) (l.one r.0)).0 r.1),
      ap (name_of names) r.2 ∙ name_of_name q (name_of names) l.one l.least r.0 ∙ sym r.2,
    )

-- ---- symbols

pub common_at : (names : List ℕ) (q : Query) (k : ℕ) (xs : List Sym) (n : ℕ) (x : Sym) → slice_get (common_symbols names q k xs) n ≡ Some x
    → (y : Sym) × (slice_get xs n ≡ Some y) × (x ≡ common_symbol names q (k + n) y)
common_at names q k [] n x e = absurd cc
common_at names q k (y ∷ ys) zero x e = (y, refl, sym (some_is _ x e) ∙ ap (λ i. common_symbol names q i y) (omega arith))
common_at names q k (y ∷ ys) (suc n) x e =
    let r = common_at names q (k + 1) ys n x e in
    (r.0, r.1, r.2 ∙ ap (λ i. common_symbol names q i r.0) (omega arith))

pub common_there : (names : List ℕ) (q : Query) (k : ℕ) (xs : List Sym) (n : ℕ) (y : Sym) → slice_get xs n ≡ Some y
    → slice_get (common_symbols names q k xs) n ≡ Some (common_symbol names q (k + n) y)
common_there names q k [] n y e = absurd cc
common_there names q k (z ∷ zs) zero y e = ap (λ w. Some w) (ap (common_symbol names q k) (some_is z y e) ∙ ap (λ i. common_symbol names q i y) (omega arith))
common_there names q k (z ∷ zs) (suc n) y e =
    common_there names q (k + 1) zs n y e ∙ ap (λ i. Some (common_symbol names q i y)) (omega arith)

null_allowed : (heap : List RegObject) (o : Option Sym) (z : Sym) → o ≡ Some z → Allows heap z NullValue → null_in o ≡ true
null_allowed heap o (Ref null sites) e a = ap null_in e ∙ a
null_allowed heap o Int e a = absurd a
null_allowed heap o Carry e a = absurd a

site_allowed : (heap : List RegObject) (o : Option Sym) (z : Sym) (a : ℕ) (x : RegObject) → o ≡ Some z → slice_get heap a ≡ Some x → Allows heap z (Address a) → has (sites_in o) x.site ≡ true
site_allowed heap o (Ref null sites) a x e at (y, there, h) =
    subst (λ (z : RegObject). has (sites_in o) z.site ≡ true) (same_found (slice_get heap a) y x there at) (subst (λ z. has (sites_in z) y.site ≡ true) (sym e) h)
site_allowed heap o Int a x e at h = absurd h
site_allowed heap o Carry a x e at h = absurd h

-- a value that all of a class allow is allowed by what is common to them
common_allows : (heap : List RegObject) (q : Query) (class : List ℕ) (null : Bool) (sites : List ℕ) (w : RegValue)
    → ((u : ℕ) → In u class → (z : Sym) × (symbol_at q u ≡ Some z) × Allows heap z w) → Allows heap (Ref null sites) w
    → Allows heap (Ref (null && list_all (λ u. null_in (symbol_at q u)) class) (filter (λ a. list_all (λ u. has (sites_of q u) a) class) sites)) w
common_allows heap q class null sites (IntValue z) all here = here
common_allows heap q class null sites NullValue all here =
    and_from null _ here (all_from (λ u. null_in (symbol_at q u)) class (λ u i. let z = all u i in null_allowed heap (symbol_at q u) z.0 z.1 z.2))
common_allows heap q class null sites (Address a) all (x, there, h) =
    let passes : list_all (λ u. has (sites_of q u) x.site) class ≡ true =
    all_from (λ u. has (sites_of q u) x.site) class (λ u i. let z = all u i in site_allowed heap (symbol_at q u) z.0 a x z.1 there z.2) in
    (x, there, has-filter (λ b. list_all (λ u. has (sites_of q u) b) class) sites x.site ∙ and_from _ _ passes h)

symbol_allows : (heap : List RegObject) (names : List ℕ) (q : Query) (n : ℕ) (y : Sym) (w : RegValue)
    → ((u : ℕ) → In u (class_of names n) → (z : Sym) × (symbol_at q u ≡ Some z) × Allows heap z w) → Allows heap y w → Allows heap (common_symbol names q n y) w
symbol_allows heap names q n (Ref null sites) w all here = common_allows heap q (class_of names n) null sites w all here
symbol_allows heap names q n Int w all here = here
symbol_allows heap names q n Carry w all here = here

number_before : (names : List ℕ) (q : Query) (n : ℕ) (y : Sym) → is_number_symbol (Some (common_symbol names q n y)) ≡ true → (is_number_symbol (Some y) ≡ true) × (common_symbol names q n y ≡ y)
number_before names q n (Ref null sites) h = absurd (both_ways _ refl h)
number_before names q n Int h = (refl, refl)
number_before names q n Carry h = (refl, refl)

-- ---- the whole

pub no_items : {X Y : Type 0} (f : X → Y) (xs : List X) → map f xs ≡ [] → xs ≡ []
no_items f [] e = refl
no_items f (x ∷ xs) e = absurd cc

frames_met : (names : List ℕ) (v : ℕ → RegValue) → ((n : ℕ) → v (name_of names n) ≡ v n) → (ss : List RegFrame) (gs : List Frame) → MeetFrames v ss gs → MeetFrames v ss (map (unified_frame names) gs)
frames_met names v e ss [] m = tt
frames_met names v e [] (g ∷ gs) m = absurd m
frames_met names v e (f ∷ fs) (g ∷ gs) m = (
  m.0,
  (λ x a.
      let y = among_unmap (renamed names) x g.regs (among_firsts one_register x (map (renamed names) g.regs) a) in
      subst (λ (z : Reg × ℕ). f.regs z.0.0 ≡ v z.1) (sym y.2) (m.1 y.0 y.1 ∙ sym (e y.0.1))),
  frames_met names v e fs gs m.2,
)

pub unified_met : (l : RenamingComposes) (s : RegState) (q : Query) (names : List ℕ) (v : ℕ → RegValue) → AreThere q → AreFacts q → AreLeast q names → Meets s q v → Meets s (unified_by names q) v
unified_met l s q names v there facts least m =
    let same : (a b : ℕ) → IsOne q a b → v a ≡ v b = λ a b o. same_of_one q v (values_respect s q v m) a b o in
    let e : (n : ℕ) → v (name_of names n) ≡ v n = λ n. sym (same n (name_of names n) (least.one n)) in
    let back : (n old : ℕ) → n ≡ name_of names old → is_named (unified_by names q) n ≡ true → is_named q old ≡ true =
    λ n old is h. (named_of_one q old (name_of names old) (least.one old)).1 (subst (λ k. is_named q k ≡ true) is (named_before names q n least h).0) in
    record {
      idle = λ none. m.idle (no_items (unified_frame names) q.frames none);
      frames = frames_met names v e s.frames q.frames m.frames;
      statics = λ x a.
          let y = static_from names q x a in
          subst (λ (z : FieldId × ℕ). s.statics z.0.0 ≡ v z.1) (sym y.2) (m.statics y.0 y.1 ∙ sym (e y.0.1));
      links = λ k a.
          let r = link_from names q k a in
          subst (λ (z : Link). HoldsAt s.heap z.slot (v z.base) (v z.value)) (sym r.2)
          (subst (λ w. HoldsAt s.heap r.0.slot (v (name_of names r.0.base)) w) (sym (e r.0.value))
          (subst (λ w. HoldsAt s.heap r.0.slot w (v r.0.value)) (sym (e r.0.base)) (m.links r.0 r.1)));
      named = λ n x h at.
          let old = named_before names q n least h in
          let y = common_at names q 0 q.syms n x at in
          let first : 0 + n ≡ n = omega arith in
          subst (λ z. Allows s.heap z (v n)) (sym (y.2 ∙ ap (λ i. common_symbol names q i y.0) first))
          (symbol_allows s.heap names q n y.0 (v n)
          (λ u i.
          let p = place_meets (λ k. k == n) 0 names u i in
          let named_n : name_of names u ≡ n = class_name names u n p in
          let o : IsOne q u n = subst (IsOne q u) named_n (least.one u) in
          let named_u : is_named q u ≡ true = (named_of_one q u n o).1 old.0 in
          let z = there u named_u in
          (z.0, z.1, subst (Allows s.heap z.0) (same u n o) (m.named u z.0 named_u z.1)))
          (m.named n y.0 old.0 y.1));
      numbers = λ n x h at.
          let y = common_at names q 0 q.syms n x at in
          let k = number_before names q (0 + n) y.0 (subst (λ z. is_number_symbol (Some z) ≡ true) y.2 h) in
          subst (λ z. Allows s.heap z (v n)) (sym (y.2 ∙ k.1)) (m.numbers n y.0 k.0 y.1);
      diffs = λ d a h k equal.
          let r = among_unmap (renamed_pair names) d q.diffs a in
          let first : d.0 ≡ name_of names r.0.0 = ap (λ (z : ℕ × ℕ). z.0) r.2 in
          let second : d.1 ≡ name_of names r.0.1 = ap (λ (z : ℕ × ℕ). z.1) r.2 in
          m.diffs r.0 r.1 (back d.0 r.0.0 first h) (back d.1 r.0.1 second k) (sym (e r.0.0) ∙ ap v (sym first) ∙ equal ∙ ap v second ∙ e r.0.1);
      facts = λ f a.
          let g = among_unmap (renamed_form names) (Some f) q.facts (among_present f (map (renamed_form names) q.facts) a) in
          let law = l names g.0 f (facts g.0 g.1) (sym g.2) in
          (law.3 (λ n. number_of (v n))).1 (agreeing g.0 (λ n. number_of (v n)) (λ n. number_of (v (name_of names n))) (λ n. ap number_of (sym (e n))) (m.facts g.0 g.1));
    }
  where
    class_name : (names : List ℕ) (u n : ℕ) → (k : ℕ) × (x : ℕ) × (u ≡ 0 + k) × (slice_get names k ≡ Some x) × ((x == n) ≡ true) → name_of names u ≡ n
    class_name names u n p =
        let place : p.0 ≡ u = let e = p.2 in omega (arith, e) in
        get_or_from_slice_get names u p.1 u (subst (λ i. slice_get names i ≡ Some p.1) place p.3) ∙ eqb-true p.1 n p.4

    agreeing : (f : Form) (a b : ℕ → ℤ) → ((n : ℕ) → a n ≡ b n) → Holds f a → Holds f b
    agreeing f a b same h = subst (Holds f) (fun_ext same) h

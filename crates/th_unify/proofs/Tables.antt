-- Tables of names: what a join changes, and what a search that finds nothing shows.
use Rattle.std.proofs.Common.{◌≡◌, ◌≢◌, ℕ, ◌+◌, ◌<◌, ◌≤◌, zero, suc, min, max, Bool, true, false, cond, List, [], ◌∷◌, ◌++◌, map, length, take, drop, slice_set, get_or, ◌⊎◌, inl, inr, refl, sym, ap, ◌∙◌, subst, Option, Some, None, arith, ◌↔◌, MatchOption}
use Rattle.std.proofs.lemmas.Bool.{cases_eq, cases_lt, eq-eqb, ne_eqb, both_ways}
use Rattle.std.proofs.lemmas.List.{get_or-map, get_or_past, length-map}
use Rattle.th_linear.specs.Gathered.{name_of}
use Rattle.th_ir.specs.Program.{Among}
use Rattle.th_query.specs.declared.query.Cell.{Cell}
use Rattle.th_query.specs.declared.query.Query.{Query}
use Rattle.th_query.specs.FromSets.{upto}
use Rattle.th_query.specs.Symbols.{is_named, cell_link}
use Rattle.th_query.specs.Unified.{IsOne, itself, turned, through, by_register, by_static, by_cell, AreLeast}
use Rattle.th_query.proofs.Below.{length_upto, upto_at}
use Rattle.th_query.proofs.InLists.{among_map, among_left}
use Rattle.th_query.proofs.Naming.{register_named, static_named, value_named}
use Rattle.th_query.proofs.Ones.{Respects, least_of_names}
use Rattle.th_unify.specs.Classes.{put_for, joined, total, IsTable, Agree, AgreeWith, Clash, AgreeFrames, ClashFrames, AgreeCells, ClashCells, AllAgree, IsUnequal}
use Rattle.th_unify.proofs.Items.{among_more}

-- ---- the first table

pub own_name : (n s : ℕ) → name_of (upto n) s ≡ s
own_name n s = elim (cases_lt s n) [
  | inl h ↦ upto_at n s s h
  | inr h ↦ let e = length_upto n in get_or_past (upto n) s s (omega (arith, h, e))
]

pub first_table : (q : Query) (n : ℕ) (names : List ℕ) → names ≡ upto n → IsTable q names
first_table q n names e =
    let own : (s : ℕ) → name_of names s ≡ s = λ s. ap (λ xs. name_of xs s) e ∙ own_name n s in
    record {
      sound = λ s. subst (IsOne q s) (sym (own s)) (itself s);
      below = λ s. let f = own s in omega (arith, f);
    }

-- ---- one number in the place of another, in place

mapped_here : (f : ℕ → ℕ) (xs : List ℕ) (i d : ℕ) → i < length xs → get_or (map f (take i xs) ++ drop i xs) i d ≡ get_or xs i d
mapped_here f [] i d h = absurd (omega (arith, h))
mapped_here f (x ∷ xs) zero d h = refl
mapped_here f (x ∷ xs) (suc i) d h = mapped_here f xs i d (omega (arith, h))

mapped_more : (f : ℕ → ℕ) (xs : List ℕ) (i d : ℕ) → i < length xs → slice_set (map f (take i xs) ++ drop i xs) i (f (get_or xs i d)) ≡ map f (take (suc i) xs) ++ drop (suc i) xs
mapped_more f [] i d h = absurd (omega (arith, h))
mapped_more f (x ∷ xs) zero d h = refl
mapped_more f (x ∷ xs) (suc i) d h = ap (λ ys. f x ∷ ys) (mapped_more f xs i d (omega (arith, h)))

pub replaced_more : (f : ℕ → ℕ) (xs ys : List ℕ) (i y d : ℕ) → i < length xs → ys ≡ map f (take i xs) ++ drop i xs → y ≡ f (get_or ys i d)
    → slice_set ys i y ≡ map f (take (i + 1) xs) ++ drop (i + 1) xs
replaced_more f xs ys i y d h e g =
    let value : y ≡ f (get_or xs i d) = g ∙ ap (λ zs. f (get_or zs i d)) e ∙ ap f (mapped_here f xs i d h) in
    let one : suc i ≡ i + 1 = omega arith in
    ap (λ zs. slice_set zs i y) e ∙ ap (slice_set (map f (take i xs) ++ drop i xs) i) value ∙ mapped_more f xs i d h ∙ ap (λ k. map f (take k xs) ++ drop k xs) one

-- ---- a join

put_cases : (old new x : ℕ) → ((x ≡ old) × (put_for old new x ≡ new)) ⊎ ((x ≢ old) × (put_for old new x ≡ x))
put_cases old new x = elim (cases_eq x old) [
  | inl e ↦ inl (e, ap (λ b. cond b new x) (eq-eqb x old e))
  | inr n ↦ inr (n, ap (λ b. cond b new x) (ne_eqb x old n))
]

sum_put : (old new : ℕ) (xs : List ℕ) → new ≤ old → total (map (put_for old new) xs) ≤ total xs
sum_put old new [] h = omega arith
sum_put old new (x ∷ xs) h = let r = sum_put old new xs h in elim (put_cases old new x) [
  | inl e ↦ omega (arith, r, h, e.0, e.1)
  | inr n ↦ omega (arith, r, n.1)
]

sum_less : (old new : ℕ) (xs : List ℕ) (i d : ℕ) → new < old → i < length xs → get_or xs i d ≡ old → total (map (put_for old new) xs) < total xs
sum_less old new [] i d h l e = absurd (omega (arith, l))
sum_less old new (x ∷ xs) zero d h l e = let r = sum_put old new xs (omega (arith, h)) in elim (put_cases old new x) [
  | inl a ↦ omega (arith, r, h, a.0, a.1)
  | inr n ↦ absurd (n.0 e)
]
sum_less old new (x ∷ xs) (suc i) d h l e = let r = sum_less old new xs i d h (omega (arith, l)) e in elim (put_cases old new x) [
  | inl a ↦ omega (arith, r, h, a.0, a.1)
  | inr n ↦ omega (arith, r, n.1)
]

-- a symbol within the table gets the lesser number where it had the greater, one past it keeps itself
joined_at : (names : List ℕ) (s t u : ℕ) → (name_of (joined names s t) u ≡ put_for (max (name_of names s) (name_of names t)) (min (name_of names s) (name_of names t)) (name_of names u)) ⊎ (name_of (joined names s t) u ≡ u)
joined_at names s t u = elim (cases_lt u (length names)) [
  | inl h ↦ inl (get_or-map (put_for (max (name_of names s) (name_of names t)) (min (name_of names s) (name_of names t))) names u u u h)
  | inr h ↦ inr (get_or_past (joined names s t) u u (let e = length-map names (put_for (max (name_of names s) (name_of names t)) (min (name_of names s) (name_of names t))) in omega (arith, h, e)))
]

one_of_two : (q : Query) (a b : ℕ) → IsOne q a b → IsOne q (max a b) (min a b)
one_of_two q a b o = elim (cases_lt a b) [
  | inl h ↦ let x : max a b ≡ b = omega (arith, h) in let y : min a b ≡ a = omega (arith, h) in rw (x, y) (turned a b o)
  | inr h ↦ let x : max a b ≡ a = omega (arith, h) in let y : min a b ≡ b = omega (arith, h) in rw (x, y) o
]

joined_sound : (q : Query) (names : List ℕ) (s t : ℕ) → ((u : ℕ) → IsOne q u (name_of names u)) → IsOne q s t → (u : ℕ) → IsOne q u (name_of (joined names s t) u)
joined_sound q names s t sound o u =
    let a = name_of names s in
    let b = name_of names t in
    let two : IsOne q (max a b) (min a b) = one_of_two q a b (through a s b (turned s a (sound s)) (through s t b o (sound t))) in
    elim (joined_at names s t u) [
      | inl at ↦ elim (put_cases (max a b) (min a b) (name_of names u)) [
        | inl e ↦ subst (IsOne q u) (sym (at ∙ e.1)) (through u (max a b) (min a b) (subst (IsOne q u) e.0 (sound u)) two)
        | inr n ↦ subst (IsOne q u) (sym (at ∙ n.1)) (sound u)
      ]
      | inr past ↦ subst (IsOne q u) (sym past) (itself u)
    ]

joined_below : (names : List ℕ) (s t : ℕ) → ((u : ℕ) → name_of names u ≤ u) → (u : ℕ) → name_of (joined names s t) u ≤ u
joined_below names s t below u = let h = below u in elim (joined_at names s t u) [
  | inl at ↦ elim (put_cases (max (name_of names s) (name_of names t)) (min (name_of names s) (name_of names t)) (name_of names u)) [
    | inl e ↦ omega (arith, at, e.0, e.1, h)
    | inr n ↦ omega (arith, at, n.1, h)
  ]
  | inr past ↦ omega (arith, past)
]

pub joined_table : (q : Query) (names : List ℕ) (s t : ℕ) → IsTable q names → IsOne q s t → IsTable q (joined names s t)
joined_table q names s t k o = record {
  sound = joined_sound q names s t k.sound o;
  below = joined_below names s t k.below;
}

pub joined_less : (names : List ℕ) (s t : ℕ) → s < length names → t < length names → name_of names s ≢ name_of names t → total (joined names s t) < total names
joined_less names s t l m n = elim (cases_lt (name_of names s) (name_of names t)) [
  | inl h ↦
      let x : max (name_of names s) (name_of names t) ≡ name_of names t = omega (arith, h) in
      sum_less (max (name_of names s) (name_of names t)) (min (name_of names s) (name_of names t)) names t t (omega (arith, h)) m (sym x)
  | inr h ↦
      let x : max (name_of names s) (name_of names t) ≡ name_of names s = omega (arith, h) in
      let apart : name_of names t < name_of names s = unequal (name_of names s) (name_of names t) n h in
      sum_less (max (name_of names s) (name_of names t)) (min (name_of names s) (name_of names t)) names s s (omega (arith, apart)) l (sym x)
]
  where
    unequal : (a b : ℕ) → a ≢ b → b ≤ a → b < a
    unequal a b n h = elim (cases_eq a b) [ inl e ↦ absurd (n e) | inr _ ↦ omega arith ]

-- ---- a search

pub agree_with_more : {K : Type 0} (k : K) (n : ℕ) (xs : List (K × ℕ)) (i : ℕ) (x : K × ℕ) (h : ℕ → ℕ) → i < length xs → x ≡ get_or xs i x → AgreeWith k n (take i xs) h
    → (x.0 ≡ k → h x.1 ≢ n → ⊥) → AgreeWith k n (take (i + 1) xs) h
agree_with_more {K = K} k n xs i x h lt e before none t m = elim (among_more (k, t) xs i x lt m) [
  | inl old ↦ before t old
  | inr is ↦ elim (cases_eq (h t) n) [
    | inl y ↦ y
    | inr y ↦
        let same : ◌≡◌ {A = K × ℕ} (k, t) x = is ∙ sym e in
        absurd (none (sym (ap (λ p. p.0) same)) (λ z. y (ap (λ p. h p.1) same ∙ z)))
  ]
]

pub cell_agrees : (x c : Cell) (g : ℕ → ℕ) (base value : ℕ) (b : Bool) → base ≡ g c.base → value ≡ g c.value → b ≡ false
    → ((b ≡ true) ↔ ((x.field ≡ c.field) × (g x.base ≡ base) × (g x.value ≢ value))) → x.field ≡ c.field → g x.base ≡ g c.base → g x.value ≡ g c.value
cell_agrees x c g base value b e f false_is test field bases = elim (cases_eq (g x.value) (g c.value)) [
  | inl y ↦ y
  | inr n ↦ absurd (both_ways b false_is (test.1 (field, bases ∙ sym e, λ z. n (z ∙ f))))
]

pub frames_unequal : (q : Query) (names : List ℕ) (s t : ℕ) → ClashFrames q.frames (name_of names) s t → IsUnequal q names s t
frames_unequal q names s t c = let d = c.2 in record {
  one = by_register c.0 d.0 s t c.1 d.1 d.2;
  unequal = d.3;
  first = register_named q c.0 (d.0, s) c.1 d.1;
  second = register_named q c.0 (d.0, t) c.1 d.2;
}

pub statics_unequal : (q : Query) (names : List ℕ) (s t : ℕ) → Clash q.statics (name_of names) s t → IsUnequal q names s t
statics_unequal q names s t d = record {
  one = by_static d.0 s t d.1 d.2;
  unequal = d.3;
  first = static_named q (d.0, s) d.1;
  second = static_named q (d.0, t) d.2;
}

cell_named : (q : Query) (c : Cell) → Among q.cells c → is_named q c.value ≡ true
cell_named q c a = value_named q (cell_link c) (among_left (cell_link c) _ _ (among_map cell_link c q.cells a))

cells_unequal : (q : Query) (names : List ℕ) (s t : ℕ) → IsTable q names → ClashCells q.cells (name_of names) s t → IsUnequal q names s t
cells_unequal q names s t table c =
    let x = c.0 in
    let d = c.3 in
    let y = d.0 in
    let sound = table.sound in
    let bases : IsOne q x.base y.base = through x.base (name_of names x.base) y.base (sound x.base) (turned y.base (name_of names x.base) (subst (IsOne q y.base) d.3 (sound y.base))) in
    subst (λ u. IsUnequal q names u t) c.2 (subst (IsUnequal q names x.value) d.5 record {
      one = by_cell x y c.1 d.1 (sym d.2) bases;
      unequal = λ e. d.4 (sym e);
      first = cell_named q x c.1;
      second = cell_named q y d.1;
    })

pub found_or_agree : (q : Query) (names : List ℕ) (o : Option (ℕ × ℕ)) → IsTable q names → AgreeFrames q.frames (name_of names) → Agree q.statics (name_of names)
    → MatchOption o (AgreeCells q.cells (name_of names)) (λ p. ClashCells q.cells (name_of names) p.0 p.1) → MatchOption o (AllAgree q (name_of names)) (λ p. IsUnequal q names p.0 p.1)
found_or_agree q names None table frames statics cells = record { frames = frames; statics = statics; cells = cells }
found_or_agree q names (Some p) table frames statics cells = cells_unequal q names p.0 p.1 table cells

pub respects : (q : Query) (g : ℕ → ℕ) → AllAgree q g → Respects q g
respects q g a = record {
  registers = λ f r s t x y z. a.frames f x r s t y z;
  statics = λ f s t x y. a.statics f s t x y;
  cells = λ c d x y e o. sym (a.cells c x d y (sym e) (sym o));
}

-- a table in which facts with one key agree names the least
pub least_of_table : (q : Query) (names : List ℕ) → length names ≡ length q.syms → IsTable q names → AllAgree q (name_of names) → AreLeast q names
least_of_table q names long table agree = record {
  count = long;
  one = table.sound;
  least = least_of_names q (name_of names) table.sound table.below (respects q (name_of names) agree);
}

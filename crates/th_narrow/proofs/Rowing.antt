-- Rows that ascend by their keys: the row of a key stands where a search ends.
use Rattle.std.proofs.Common.{◌≡◌, ◌≢◌, ◌⊎◌, inl, inr, sym, ℕ, ◌<◌, ◌≤◌, zero, suc, eqb, ltb, Bool, true, false, List, [], ◌∷◌, length, map, get_or, refl, ap, ◌∙◌, arith}
use Rattle.std.specs.Prelude.{◌&&◌, ◌||◌}
use Rattle.std.specs.List.{AllByRecursion, list_any}
use Rattle.std.specs.List.Sorted.{IsStrictlySortedBy, IsPartitionedBy, IsPartitionPoint}
use Rattle.std.specs.declared.cmp.Ordering.TheVariants.{Less, Equal, Greater}
use Rattle.std.specs.Ordering.{nat_cmp, ordering_then}
use Rattle.std.specs.Cmp.{nat_cmp_is}
use Rattle.std.specs.Cmp.Lexicographic.{slice_cmp}
use Rattle.std.proofs.lemmas.Bool.{cases_eq, cases_order, eqb-true, eq-eqb, lt-ltb, ltb-true, and_parts, and_from, both_ways, or_cases, or_left, or_right}
use Rattle.th_base.specs.declared.number.FieldId.{FieldId}
use Rattle.th_base.specs.declared.number.SiteId.{SiteId}
use Rattle.th_base.specs.IdSet.{has}
use Rattle.th_ir.specs.FactSets.{AscendBy, cell_key, elem_key}
use Rattle.th_narrow.specs.Rows.{cell_before, elem_before}

-- ---- keys

abbrev pub IsBelow : List ℕ → List ℕ → Type 0
IsBelow a b = slice_cmp nat_cmp a b ≡ Less

-- the first numbers decide, or the rest does
pub below_cases : (x y : ℕ) (xs ys : List ℕ) → IsBelow (x ∷ xs) (y ∷ ys) → (x < y) ⊎ ((x ≡ y) × IsBelow xs ys)
below_cases x y xs ys b = elim (cases_order x y) [
  | inl same ↦ inr (same, ap (λ o. ordering_then o (slice_cmp nat_cmp xs ys)) (nat_cmp_is x y Equal same) ∙ b)
  | inr apart ↦ elim apart [
    | inl less ↦ inl less
    | inr more ↦ absurd (greater (ap (λ o. ordering_then o (slice_cmp nat_cmp xs ys)) (nat_cmp_is x y Greater more) ∙ b))
  ]
]
  where
    greater : Greater ≡ Less → ⊥
    greater e = cc

pub below_places : {X : Type 0} (key : X → List ℕ) (xs : List X) (i j : ℕ) (d : X) → AscendBy key xs → i < j → j < length xs → IsBelow (key (get_or xs i d)) (key (get_or xs j d))
unfolding IsStrictlySortedBy
below_places key [] i j d a h l = absurd (omega (arith, l))
below_places key (x ∷ xs) i zero d a h l = absurd (omega (arith, h))
below_places {X = X} key (x ∷ xs) zero (suc j) d a h l = all_at xs j a.0 (omega (arith, l))
  where
    all_at : (ys : List X) (k : ℕ) → AllByRecursion (λ y. slice_cmp nat_cmp (key x) y ≡ Less) (map key ys) → k < length ys → IsBelow (key x) (key (get_or ys k d))
    all_at [] k b m = absurd (omega (arith, m))
    all_at (y ∷ ys) zero b m = b.0
    all_at (y ∷ ys) (suc k) b m = all_at ys k b.1 (omega (arith, m))
below_places key (x ∷ xs) (suc i) (suc j) d a h l = below_places key xs i j d a.1 (omega (arith, h)) (omega (arith, l))

-- ---- one row

-- what fails everywhere but at one place is decided there
pub only_at : {X : Type 0} (q : X → Bool) (xs : List X) (i : ℕ) (d : X) → ((j : ℕ) → j < length xs → j ≢ i → q (get_or xs j d) ≡ false)
    → ((i < length xs) × (list_any q xs ≡ q (get_or xs i d))) ⊎ ((length xs ≤ i) × (list_any q xs ≡ false))
only_at q [] i d f = inr (omega arith, refl)
only_at {X = X} q (x ∷ xs) zero d f = inl (omega arith, ap (λ b. q x || b) (none xs (λ j h. f (suc j) (omega (arith, h)) (λ e. absurd (omega (arith, e))))) ∙ or_false (q x))
  where
    none : (ys : List X) → ((j : ℕ) → j < length ys → q (get_or ys j d) ≡ false) → list_any q ys ≡ false
    none [] g = refl
    none (y ∷ ys) g = ap (λ b. b || list_any q ys) (g 0 (omega arith)) ∙ none ys (λ j h. g (suc j) (omega (arith, h)))

    or_false : (b : Bool) → (b || false) ≡ b
    or_false true = refl
    or_false false = refl
only_at q (x ∷ xs) (suc i) d f =
    let first : q x ≡ false = f 0 (omega arith) (λ e. absurd (omega (arith, e))) in
    let first_goes : list_any q (x ∷ xs) ≡ list_any q xs = ap (λ b. b || list_any q xs) first in
    elim (only_at q xs i d (λ j h n. f (suc j) (omega (arith, h)) (λ e. n (omega (arith, e))))) [
      | inl here ↦ inl ((let h = here.0 in omega (arith, h)), first_goes ∙ here.1)
      | inr past ↦ inr ((let h = past.0 in omega (arith, h)), first_goes ∙ past.1)
    ]

-- ---- cells

pub before_cases : (s f : ℕ) (c : SiteId × FieldId × List ℕ) → cell_before s f c ≡ true → (c.0.0 < s) ⊎ ((c.0.0 ≡ s) × (c.1.0 < f))
before_cases s f c e = elim (or_cases (ltb c.0.0 s) (eqb c.0.0 s && ltb c.1.0 f) e) [
  | inl less ↦ inl (ltb-true c.0.0 s less)
  | inr next ↦ let p = and_parts (eqb c.0.0 s) (ltb c.1.0 f) next in inr (eqb-true c.0.0 s p.0, ltb-true c.1.0 f p.1)
]

pub before_from : (s f : ℕ) (c : SiteId × FieldId × List ℕ) → (c.0.0 < s) ⊎ ((c.0.0 ≡ s) × (c.1.0 < f)) → cell_before s f c ≡ true
before_from s f c (inl less) = or_left (ltb c.0.0 s) _ (lt-ltb c.0.0 s less)
before_from s f c (inr next) = or_right (ltb c.0.0 s) _ (and_from (eqb c.0.0 s) (ltb c.1.0 f) (eq-eqb c.0.0 s next.0) (lt-ltb c.1.0 f next.1))

pub cells_below : (c d : SiteId × FieldId × List ℕ) → IsBelow (cell_key c) (cell_key d) → (c.0.0 < d.0.0) ⊎ ((c.0.0 ≡ d.0.0) × (c.1.0 < d.1.0))
cells_below c d b = elim (below_cases c.0.0 d.0.0 (c.1.0 ∷ []) (d.1.0 ∷ []) b) [
  | inl less ↦ inl less
  | inr rest ↦ elim (below_cases c.1.0 d.1.0 [] [] rest.1) [ inl less ↦ inr (rest.0, less) | inr none ↦ absurd (equal none.1) ]
]
  where
    equal : Equal ≡ Less → ⊥
    equal e = cc

before_down : (s f : ℕ) (c d : SiteId × FieldId × List ℕ) → IsBelow (cell_key c) (cell_key d) → cell_before s f d ≡ true → cell_before s f c ≡ true
before_down s f c d b e = before_from s f c (elim (cells_below c d b) [
  | inl less ↦ elim (before_cases s f d e) [
    | inl under ↦ inl (omega (arith, less, under))
    | inr at ↦ (let k = at.0 in inl (omega (arith, less, k)))
  ]
  | inr next ↦ elim (before_cases s f d e) [
    | inl under ↦ (let k = next.0 in inl (omega (arith, k, under)))
    | inr at ↦ (let k = next.0 in let l = at.0 in let m = next.1 in let n = at.1 in inr (omega (arith, k, l), omega (arith, m, n)))
  ]
])

pub cells_parted : (s f : ℕ) (cells : List (SiteId × FieldId × List ℕ)) → AscendBy cell_key cells → IsPartitionedBy (cell_before s f) cells
cells_parted s f cells a i j d h l e = elim (cases_eq i j) [
  | inl same ↦ ap (λ k. cell_before s f (get_or cells k d)) same ∙ e
  | inr other ↦ before_down s f (get_or cells i d) (get_or cells j d) (below_places cell_key cells i j d a (omega (arith, h, other)) l) e
]

-- a cell that has the site and field stands at the place
pub cell_found : (s f x : ℕ) (cells : List (SiteId × FieldId × List ℕ)) (at : ℕ) (d : SiteId × FieldId × List ℕ) → AscendBy cell_key cells
    → IsPartitionPoint (λ c. cell_before s f c ≡ true) (λ c. cell_before s f c ≡ false) cells at
    → (j : ℕ) → j < length cells → j ≢ at → ((eqb (get_or cells j d).0.0 s && eqb (get_or cells j d).1.0 f) && has (get_or cells j d).2 x) ≡ false
cell_found s f x cells at d a point j l n = go ((eqb c.0.0 s && eqb c.1.0 f) && has c.2 x) refl
  where
    c : SiteId × FieldId × List ℕ
    c = get_or cells j d

    matched : ((eqb c.0.0 s && eqb c.1.0 f) && has c.2 x) ≡ true → (c.0.0 ≡ s) × (c.1.0 ≡ f)
    matched e =
        let p = and_parts (eqb c.0.0 s) (eqb c.1.0 f) (and_parts (eqb c.0.0 s && eqb c.1.0 f) (has c.2 x) e).0 in
        (eqb-true c.0.0 s p.0, eqb-true c.1.0 f p.1)

    clash : (c.0.0 ≡ s) × (c.1.0 ≡ f) → ⊥
    clash m = elim (cases_order j at) [
      | inl same ↦ n same
      | inr apart ↦ elim apart [
        | inl less ↦ elim (before_cases s f c (point.0 j d (omega arith) less)) [
          | inl under ↦ (let k = m.0 in absurd (omega (arith, under, k)))
          | inr next ↦ (let k = m.1 in let o = next.1 in absurd (omega (arith, o, k)))
        ]
        | inr more ↦
            let e : get_or cells at d ≡ get_or cells at d = refl in
            let below = below_places cell_key cells at j d a more l in
            let before : cell_before s f (get_or cells at d) ≡ true = before_from s f (get_or cells at d) (elim (cells_below (get_or cells at d) c below) [
              | inl less ↦ (let k = m.0 in inl (omega (arith, less, k)))
              | inr next ↦ (let k = m.0 in let o = m.1 in let u = next.0 in let v = next.1 in inr (omega (arith, u, k), omega (arith, v, o)))
            ]) in
            absurd (both_ways _ (point.1 at d (omega arith) (omega (arith, more, l))) before)
      ]
    ]

    go : (b : Bool) → ((eqb c.0.0 s && eqb c.1.0 f) && has c.2 x) ≡ b → ((eqb c.0.0 s && eqb c.1.0 f) && has c.2 x) ≡ false
    go true e = absurd (clash (matched e))
    go false e = e

pub cell_at : (s f x : ℕ) (cells : List (SiteId × FieldId × List ℕ)) (at : ℕ) (d : SiteId × FieldId × List ℕ) → AscendBy cell_key cells
    → IsPartitionPoint (λ c. cell_before s f c ≡ true) (λ c. cell_before s f c ≡ false) cells at
    → ((at < length cells) × (list_any (λ c. (eqb c.0.0 s && eqb c.1.0 f) && has c.2 x) cells ≡ ((eqb (get_or cells at d).0.0 s && eqb (get_or cells at d).1.0 f) && has (get_or cells at d).2 x)))
    ⊎ ((length cells ≤ at) × (list_any (λ c. (eqb c.0.0 s && eqb c.1.0 f) && has c.2 x) cells ≡ false))
cell_at s f x cells at d a point = only_at (λ c. (eqb c.0.0 s && eqb c.1.0 f) && has c.2 x) cells at d (cell_found s f x cells at d a point)

-- ---- elements

elems_below : (c d : SiteId × List ℕ) → IsBelow (elem_key c) (elem_key d) → c.0.0 < d.0.0
elems_below c d b = elim (below_cases c.0.0 d.0.0 [] [] b) [ inl less ↦ less | inr none ↦ absurd (equal none.1) ]
  where
    equal : Equal ≡ Less → ⊥
    equal e = cc

pub elems_parted : (s : ℕ) (elems : List (SiteId × List ℕ)) → AscendBy elem_key elems → IsPartitionedBy (elem_before s) elems
elems_parted s elems a i j d h l e = elim (cases_eq i j) [
  | inl same ↦ ap (λ k. elem_before s (get_or elems k d)) same ∙ e
  | inr other ↦
      let below = elems_below (get_or elems i d) (get_or elems j d) (below_places elem_key elems i j d a (omega (arith, h, other)) l) in
      let under = ltb-true (get_or elems j d).0.0 s e in
      lt-ltb (get_or elems i d).0.0 s (omega (arith, below, under))
]

elem_found : (s x : ℕ) (elems : List (SiteId × List ℕ)) (at : ℕ) (d : SiteId × List ℕ) → AscendBy elem_key elems
    → IsPartitionPoint (λ e. elem_before s e ≡ true) (λ e. elem_before s e ≡ false) elems at
    → (j : ℕ) → j < length elems → j ≢ at → (eqb (get_or elems j d).0.0 s && has (get_or elems j d).1 x) ≡ false
elem_found s x elems at d a point j l n = go (eqb c.0.0 s && has c.1 x) refl
  where
    c : SiteId × List ℕ
    c = get_or elems j d

    clash : c.0.0 ≡ s → ⊥
    clash m = elim (cases_order j at) [
      | inl same ↦ n same
      | inr apart ↦ elim apart [
        | inl less ↦ let under = ltb-true c.0.0 s (point.0 j d (omega arith) less) in absurd (omega (arith, under, m))
        | inr more ↦
            let below = elems_below (get_or elems at d) c (below_places elem_key elems at j d a more l) in
            absurd (both_ways _ (point.1 at d (omega arith) (omega (arith, more, l))) (lt-ltb (get_or elems at d).0.0 s (omega (arith, below, m))))
      ]
    ]

    go : (b : Bool) → (eqb c.0.0 s && has c.1 x) ≡ b → (eqb c.0.0 s && has c.1 x) ≡ false
    go true e = absurd (clash (eqb-true c.0.0 s (and_parts (eqb c.0.0 s) (has c.1 x) e).0))
    go false e = e

pub elem_at : (s x : ℕ) (elems : List (SiteId × List ℕ)) (at : ℕ) (d : SiteId × List ℕ) → AscendBy elem_key elems
    → IsPartitionPoint (λ e. elem_before s e ≡ true) (λ e. elem_before s e ≡ false) elems at
    → ((at < length elems) × (list_any (λ e. eqb e.0.0 s && has e.1 x) elems ≡ (eqb (get_or elems at d).0.0 s && has (get_or elems at d).1 x)))
    ⊎ ((length elems ≤ at) × (list_any (λ e. eqb e.0.0 s && has e.1 x) elems ≡ false))
elem_at s x elems at d a point = only_at (λ e. eqb e.0.0 s && has e.1 x) elems at d (elem_found s x elems at d a point)

-- ---- the two ends of a search

pub cell_past : (s f x : ℕ) (cells : List (SiteId × FieldId × List ℕ)) (at : ℕ) → AscendBy cell_key cells → IsPartitionPoint (λ c. cell_before s f c ≡ true) (λ c. cell_before s f c ≡ false) cells at
    → length cells ≤ at → list_any (λ c. (eqb c.0.0 s && eqb c.1.0 f) && has c.2 x) cells ≡ false
cell_past s f x cells at a point past =
    elim (cell_at s f x cells at (record { 0 = 0 }, record { 0 = 0 }, []) a point) [ inl here ↦ (let h = here.0 in absurd (omega (arith, h, past))) | inr none ↦ none.1 ]

pub cell_here : (s f x : ℕ) (cells : List (SiteId × FieldId × List ℕ)) (at : ℕ) (c : SiteId × FieldId × List ℕ) → AscendBy cell_key cells → IsPartitionPoint (λ c. cell_before s f c ≡ true) (λ c. cell_before s f c ≡ false) cells at
    → at < length cells → c ≡ get_or cells at c → list_any (λ c. (eqb c.0.0 s && eqb c.1.0 f) && has c.2 x) cells ≡ ((eqb c.0.0 s && eqb c.1.0 f) && has c.2 x)
cell_here s f x cells at c a point within is =
    elim (cell_at s f x cells at c a point) [
      | inl here ↦ here.1 ∙ ap (λ (d : SiteId × FieldId × List ℕ). (eqb d.0.0 s && eqb d.1.0 f) && has d.2 x) (sym is)
      | inr none ↦ (let h = none.0 in absurd (omega (arith, h, within)))
    ]

pub elem_past : (s x : ℕ) (elems : List (SiteId × List ℕ)) (at : ℕ) → AscendBy elem_key elems → IsPartitionPoint (λ e. elem_before s e ≡ true) (λ e. elem_before s e ≡ false) elems at
    → length elems ≤ at → list_any (λ e. eqb e.0.0 s && has e.1 x) elems ≡ false
elem_past s x elems at a point past =
    elim (elem_at s x elems at (record { 0 = 0 }, []) a point) [ inl here ↦ (let h = here.0 in absurd (omega (arith, h, past))) | inr none ↦ none.1 ]

pub elem_here : (s x : ℕ) (elems : List (SiteId × List ℕ)) (at : ℕ) (e : SiteId × List ℕ) → AscendBy elem_key elems → IsPartitionPoint (λ e. elem_before s e ≡ true) (λ e. elem_before s e ≡ false) elems at
    → at < length elems → e ≡ get_or elems at e → list_any (λ e. eqb e.0.0 s && has e.1 x) elems ≡ (eqb e.0.0 s && has e.1 x)
elem_here s x elems at e a point within is =
    elim (elem_at s x elems at e a point) [
      | inl here ↦ here.1 ∙ ap (λ (d : SiteId × List ℕ). eqb d.0.0 s && has d.1 x) (sym is)
      | inr none ↦ (let h = none.0 in absurd (omega (arith, h, within)))
    ]

-- The tables of a graph's links as they are made, edge by edge, and what is looked up in them.
use Rattle.std.proofs.Common.{◌≡◌, ℕ, ◌+◌, ◌<◌, ◌⊎◌, min, suc, Bool, true, false, cond, List, [], ◌∷◌, ◌++◌, length, take, Option, Some, None, get_or, set, refl, sym, ap, subst, inl, inr, arith, ◌∙◌, if◌then◌else◌, eqb, get_or-set_same, get_or-set_other}
use Rattle.std.specs.List.{position_from}
use Rattle.std.specs.Option.{option_or, option_and_then, option_map_or}
use Rattle.std.proofs.lemmas.Bool.{cases_eq, cases_lt, eqb-true, eq-eqb, ne_eqb, or_cases, or_left, or_right}
use Rattle.std.proofs.lemmas.List.{take_more, length-take-le, append-nil}
use Rattle.th_base.specs.IdSet.{has}
use Rattle.th_ir.specs.declared.graph.Edge.{Edge}
use Rattle.th_paths.specs.Links.{first_at, follows, row_of, row_at}
use Rattle.th_paths.specs.Paths.{end_of, start_of}
use Rattle.th_paths.specs.Search.{site_place, lesser_of, IsNearest}
use Rattle.th_paths.proofs.Places.{some_is, places_push}

-- ---- the first edge that ends at a site

first_push : {A : Type 0} (t : A → Bool) (k : ℕ) (xs : List A) (y : A)
    → position_from t k (xs ++ y ∷ []) ≡ option_or (position_from t k xs) (if t y then Some (k + length xs) else None)
first_push t k [] y = by_test (t y)
  where
    by_test : (b : Bool) → cond b (Some k) None ≡ (if b then Some (k + 0) else None)
    by_test true = ap Some (omega arith)
    by_test false = refl
first_push t k (x ∷ xs) y = by_test (t x) (first_push t (k + 1) xs y ∙ ap (λ n. option_or (position_from t (k + 1) xs) (if t y then Some n else None)) (omega arith))
  where
    by_test : (b : Bool) → position_from t (k + 1) (xs ++ y ∷ []) ≡ option_or (position_from t (k + 1) xs) (if t y then Some (k + suc (length xs)) else None)
        → cond b (Some k) (position_from t (k + 1) (xs ++ y ∷ [])) ≡ option_or (cond b (Some k) (position_from t (k + 1) xs)) (if t y then Some (k + suc (length xs)) else None)
    by_test true more = refl
    by_test false more = more

pub site_more : (edges : List Edge) (n x : ℕ) (d : Edge) (old new : Option ℕ) → n < length edges → old ≡ first_at (take n edges) x
    → new ≡ option_or old (if eqb (end_of (get_or edges n d)) x then Some n else None) → new ≡ first_at (take (n + 1) edges) x
site_more edges n x d old new less was is =
    let long : 0 + length (take n edges) ≡ n = let size = length-take-le n edges (omega arith) in omega (arith, size) in
    let pushed = first_push (λ e. eqb (end_of e) x) 0 (take n edges) (get_or edges n d) in
    is ∙ ap (λ o. option_or o (if eqb (end_of (get_or edges n d)) x then Some n else None)) was
    ∙ ap (λ m. option_or (first_at (take n edges) x) (if eqb (end_of (get_or edges n d)) x then Some m else None)) (sym long)
    ∙ sym pushed ∙ ap (λ l. first_at l x) (sym (take_more edges n d less))

-- ---- rows

pub row_more : (edges : List Edge) (n r : ℕ) (d : Edge) (old new : List ℕ) → n < length edges → old ≡ row_of edges r (take n edges)
    → new ≡ old ++ (if follows edges r (get_or edges n d) then n ∷ [] else []) → new ≡ row_of edges r (take (n + 1) edges)
row_more edges n r d old new less was is =
    let long : 0 + length (take n edges) ≡ n = let size = length-take-le n edges (omega arith) in omega (arith, size) in
    let pushed = places_push (follows edges r) 0 (take n edges) (get_or edges n d) in
    is ∙ ap (λ l. l ++ (if follows edges r (get_or edges n d) then n ∷ [] else [])) was
    ∙ ap (λ m. row_of edges r (take n edges) ++ (if follows edges r (get_or edges n d) then m ∷ [] else [])) (sym long)
    ∙ sym pushed ∙ ap (λ l. row_of edges r l) (sym (take_more edges n d less))

-- one of the rows has a number more
pub row_put : (edges : List Edge) (rows after : List (List ℕ)) (edge : Edge) (site first number : ℕ) → first < length rows → start_of edge ≡ Some site
    → first_at edges site ≡ Some first → after ≡ set rows first (row_at rows first ++ number ∷ [])
    → (r : ℕ) → row_at after r ≡ row_at rows r ++ (if follows edges r edge then number ∷ [] else [])
row_put edges rows after edge site first number inside start known is r =
    let test : follows edges r edge ≡ eqb first r =
    ap (λ s. option_map_or (λ q. eqb q r) (option_and_then (first_at edges) s) false) start ∙ ap (λ o. option_map_or (λ q. eqb q r) o false) known in
    ap (λ l. row_at l r) is
    ∙ elim (cases_eq r first) [
      | inl same ↦
          let yes : follows edges r edge ≡ true = test ∙ eq-eqb first r (sym same) in
          ap (row_at (set rows first (row_at rows first ++ number ∷ []))) same ∙ get_or-set_same rows first (row_at rows first ++ number ∷ []) [] inside
          ∙ ap (λ q. row_at rows q ++ number ∷ []) (sym same) ∙ ap (λ b. row_at rows r ++ (if b then number ∷ [] else [])) (sym yes)
      | inr other ↦
          let no : follows edges r edge ≡ false = test ∙ ne_eqb first r (λ e. other (sym e)) in
          get_or-set_other rows first r (row_at rows first ++ number ∷ []) [] other ∙ sym (append-nil (row_at rows r))
          ∙ ap (λ b. row_at rows r ++ (if b then number ∷ [] else [])) (sym no)
    ]

-- ---- the nearest site

has_last : (xs : List ℕ) (y x : ℕ) → has (xs ++ y ∷ []) x ≡ true → (has xs x ≡ true) ⊎ (y ≡ x)
has_last [] y x e = elim (or_cases (eqb y x) false e) [ inl same ↦ inr (eqb-true y x same) | inr none ↦ inl none ]
has_last (z ∷ xs) y x e =
    elim (or_cases (eqb z x) (has (xs ++ y ∷ []) x) e) [
      | inl first ↦ inl (or_left (eqb z x) (has xs x) first)
      | inr later ↦ elim (has_last xs y x later) [ inl found ↦ inl (or_right (eqb z x) (has xs x) found) | inr same ↦ inr same ]
    ]

has_before : (xs : List ℕ) (y x : ℕ) → has xs x ≡ true → has (xs ++ y ∷ []) x ≡ true
has_before [] y x e = absurd cc
has_before (z ∷ xs) y x e =
    elim (or_cases (eqb z x) (has xs x) e) [
      | inl first ↦ or_left (eqb z x) (has (xs ++ y ∷ []) x) first
      | inr later ↦ or_right (eqb z x) (has (xs ++ y ∷ []) x) (has_before xs y x later)
    ]

has_new : (xs : List ℕ) (y : ℕ) → has (xs ++ y ∷ []) y ≡ true
has_new [] y = or_left (eqb y y) false (eq-eqb y y refl)
has_new (z ∷ xs) y = or_right (eqb z y) (has (xs ++ y ∷ []) y) (has_new xs y)

pub nearest_more : (edges : List Edge) (places : List (Option ℕ)) (goal : List ℕ) (y : ℕ) (a b : Option ℕ) → IsNearest edges places goal a → b ≡ site_place edges places y
    → IsNearest edges places (goal ++ y ∷ []) (lesser_of a b)
nearest_more edges places goal y None None near is = λ x e. elim (has_last goal y x e) [
  | inl old ↦ near x old
  | inr same ↦ ap (site_place edges places) (sym same) ∙ sym is
]
nearest_more edges places goal y None (Some j) near is = (
  (y, has_new goal y, sym is),
  λ x i e found. elim (has_last goal y x e) [
    | inl old ↦ absurd (let no : (let o : Option ℕ = None in o) ≡ Some i = sym (near x old) ∙ found in cc)
    | inr same ↦ let equal : j ≡ i = some_is j i (is ∙ ap (site_place edges places) same ∙ found) in omega (arith, equal)
  ],
)
nearest_more edges places goal y (Some k) None near is = (
  (near.0.0, has_before goal y near.0.0 near.0.1, near.0.2),
  λ x i e found. elim (has_last goal y x e) [
    | inl old ↦ near.1 x i old found
    | inr same ↦ absurd (let no : (let o : Option ℕ = None in o) ≡ Some i = is ∙ ap (site_place edges places) same ∙ found in cc)
  ],
)
nearest_more edges places goal y (Some k) (Some j) near is =
    elim (cases_lt k j) [
      | inl less ↦
          subst (λ m. IsNearest edges places (goal ++ y ∷ []) (Some m)) (let least : k ≡ min k j = omega arith in least) (
            (near.0.0, has_before goal y near.0.0 near.0.1, near.0.2),
            λ x i e found. elim (has_last goal y x e) [
              | inl old ↦ near.1 x i old found
              | inr same ↦ let equal : j ≡ i = some_is j i (is ∙ ap (site_place edges places) same ∙ found) in omega (arith, equal, less)
            ],
          )
      | inr more ↦
          subst (λ m. IsNearest edges places (goal ++ y ∷ []) (Some m)) (let least : j ≡ min k j = omega arith in least) (
            (y, has_new goal y, sym is),
            λ x i e found. elim (has_last goal y x e) [
              | inl old ↦ let low = near.1 x i old found in omega (arith, low, more)
              | inr same ↦ let equal : j ≡ i = some_is j i (is ∙ ap (site_place edges places) same ∙ found) in omega (arith, equal)
            ],
          )
    ]

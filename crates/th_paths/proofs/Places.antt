-- Where things stand in lists: after an item more, by a test, and the first edge that ends at a site.
use Rattle.std.proofs.Common.{◌≡◌, ℕ, ◌+◌, ◌<◌, ◌⊎◌, suc, zero, Bool, true, false, cond, List, [], ◌∷◌, ◌++◌, length, map, Option, Some, None, Result, Ok, Err, slice_get, get_or, refl, sym, ap, subst, inl, inr, arith, ◌∙◌, if◌then◌else◌, eqb}
use Rattle.std.specs.Prelude.{OnOk}
use Rattle.std.specs.List.{position_from}
use Rattle.std.specs.Option.{unwrap_or, option_and_then, option_map_or}
use Rattle.std.proofs.lemmas.Bool.{eqb-true, eq-eqb}
use Rattle.std.proofs.lemmas.List.{get_or_default}
use Rattle.std.proofs.lemmas.Option.{slice_get_within}
use Rattle.th_ir.specs.declared.graph.Edge.{Edge}
use Rattle.th_ir.specs.declared.graph.Edge.TheVariants.{Static}
use Rattle.th_ir.specs.WellFormed.{places_from}
use Rattle.th_paths.specs.Links.{first_at, firsts_of, follows, row_of}
use Rattle.th_paths.specs.Paths.{end_of, start_of}

-- ---- options and lists

-- what is read past the end of a list of edges
abbrev pub no_edge : Edge
no_edge = Static record { 0 = 0 } record { 0 = 0 }

pub some_is : {A : Type 0} (x y : A) → (let o : Option A = Some x in o) ≡ Some y → x ≡ y
some_is x y e = cc

pub same_found : {A : Type 0} (o : Option A) (x y : A) → o ≡ Some x → o ≡ Some y → x ≡ y
same_found o x y one other = some_is x y (sym one ∙ other)

-- what follows from what holds where a result is Ok
pub on_ok : {T E : Type 0} (r : Result T E) (P Q : Type 0) → (P → Q) → OnOk r P → OnOk r Q
on_ok (Ok x) P Q more h = more h
on_ok (Err e) P Q more h = h

pub pushed_old : {A : Type 0} (xs : List A) (y : A) (i : ℕ) (x : A) → slice_get xs i ≡ Some x → slice_get (xs ++ y ∷ []) i ≡ Some x
pushed_old [] y i x e = absurd cc
pushed_old (z ∷ xs) y zero x e = e
pushed_old (z ∷ xs) y (suc i) x e = pushed_old xs y i x e

pub pushed_new : {A : Type 0} (xs : List A) (y : A) → slice_get (xs ++ y ∷ []) (length xs) ≡ Some y
pushed_new [] y = refl
pushed_new (z ∷ xs) y = pushed_new xs y

pub pushed_from : {A : Type 0} (xs : List A) (y : A) (i : ℕ) (x : A) → slice_get (xs ++ y ∷ []) i ≡ Some x → (slice_get xs i ≡ Some x) ⊎ ((i ≡ length xs) × (y ≡ x))
pushed_from [] y zero x e = inr (refl, some_is y x e)
pushed_from [] y (suc i) x e = absurd cc
pushed_from (z ∷ xs) y zero x e = inl e
pushed_from (z ∷ xs) y (suc i) x e = elim (pushed_from xs y i x e) [ inl old ↦ inl old | inr new ↦ inr (ap suc new.0, new.1) ]

pub get_within : {A : Type 0} (xs : List A) (k : ℕ) → k < length xs → (x : A) × (slice_get xs k ≡ Some x)
get_within [] k less = absurd (omega arith)
get_within (x ∷ xs) zero less = (x, refl)
get_within (x ∷ xs) (suc k) less = get_within xs k (omega arith)

-- an item that was read within a list of lists
pub read_at : (xs : List (List ℕ)) (i : ℕ) (r : List ℕ) → r ≡ get_or xs i r → i < length xs → r ≡ get_or xs i []
read_at xs i r e less = e ∙ get_or_default xs i r [] less

pub mapped_at : {A : Type 0} (g : A → ℕ) (xs : List A) (k : ℕ) (x : A) → slice_get xs k ≡ Some x → get_or (map g xs) k 0 ≡ g x
mapped_at g [] k x e = absurd cc
mapped_at g (y ∷ xs) zero x e = ap g (some_is y x e)
mapped_at g (y ∷ xs) (suc k) x e = mapped_at g xs k x e

-- ---- places that pass a test

pub record IsPlace {A : Type 0} (meets : A → Bool) (n : ℕ) (xs : List A) (k : ℕ) : Type 0 where
  pub at : ℕ
  pub item : A
  pub stands : slice_get xs at ≡ Some item
  pub passes : meets item ≡ true
  pub number : k ≡ n + at

next_place : {A : Type 0} (meets : A → Bool) (n : ℕ) (x : A) (xs : List A) (k : ℕ) → IsPlace meets (n + 1) xs k → IsPlace meets n (x ∷ xs) k
next_place meets n x xs k p = let e = p.number in record { at = suc p.at; item = p.item; stands = p.stands; passes = p.passes; number = omega (arith, e) }

pub place_passes : {A : Type 0} (meets : A → Bool) (n : ℕ) (xs : List A) (m k : ℕ) → slice_get (places_from meets n xs) m ≡ Some k → IsPlace meets n xs k
place_passes meets n [] m k e = absurd cc
place_passes meets n (x ∷ xs) m k e = by_test (meets x) refl m e (λ i. place_passes meets (n + 1) xs i k)
  where
    by_test : (b : Bool) → meets x ≡ b → (m : ℕ) → slice_get (if b then n ∷ places_from meets (n + 1) xs else places_from meets (n + 1) xs) m ≡ Some k
        → ((i : ℕ) → slice_get (places_from meets (n + 1) xs) i ≡ Some k → IsPlace meets (n + 1) xs k) → IsPlace meets n (x ∷ xs) k
    by_test true is zero e more = let same = some_is n k e in record { at = 0; item = x; stands = refl; passes = is; number = omega (arith, same) }
    by_test true is (suc m) e more = next_place meets n x xs k (more m e)
    by_test false is m e more = next_place meets n x xs k (more m e)

pub passing_place : {A : Type 0} (meets : A → Bool) (n : ℕ) (xs : List A) (j : ℕ) (x : A) → slice_get xs j ≡ Some x → meets x ≡ true
    → (m : ℕ) × (slice_get (places_from meets n xs) m ≡ Some (n + j))
passing_place meets n [] j x e passes = absurd cc
passing_place meets n (y ∷ xs) zero x e passes =
    let here : meets y ≡ true = ap meets (some_is y x e) ∙ passes in
    (0, subst (λ b. slice_get (if b then n ∷ places_from meets (n + 1) xs else places_from meets (n + 1) xs) 0 ≡ Some (n + 0)) (sym here) (ap Some (omega arith)))
passing_place meets n (y ∷ xs) (suc j) x e passes =
    let found = passing_place meets (n + 1) xs j x e passes in by_test (meets y) (found.0, found.1 ∙ ap Some (omega arith))
  where
    by_test : (b : Bool) → (m : ℕ) × (slice_get (places_from meets (n + 1) xs) m ≡ Some (n + suc j))
        → (m : ℕ) × (slice_get (if b then n ∷ places_from meets (n + 1) xs else places_from meets (n + 1) xs) m ≡ Some (n + suc j))
    by_test true more = (suc more.0, more.1)
    by_test false more = more

pub places_ascend : {A : Type 0} (meets : A → Bool) (n : ℕ) (xs : List A) (i j a b : ℕ) → i < j → slice_get (places_from meets n xs) i ≡ Some a
    → slice_get (places_from meets n xs) j ≡ Some b → a < b
places_ascend meets n [] i j a b less one two = absurd cc
places_ascend meets n (x ∷ xs) i j a b less one two = by_test (meets x) i j less one two (λ v w. places_ascend meets (n + 1) xs v w a b)
  where
    by_test : (t : Bool) (i j : ℕ) → i < j → slice_get (if t then n ∷ places_from meets (n + 1) xs else places_from meets (n + 1) xs) i ≡ Some a
        → slice_get (if t then n ∷ places_from meets (n + 1) xs else places_from meets (n + 1) xs) j ≡ Some b
        → ((v w : ℕ) → v < w → slice_get (places_from meets (n + 1) xs) v ≡ Some a → slice_get (places_from meets (n + 1) xs) w ≡ Some b → a < b) → a < b
    by_test true i zero less one two more = absurd (omega arith)
    by_test true zero (suc j) less one two more =
        let same = some_is n a one in let later = (place_passes meets (n + 1) xs j b two).number in omega (arith, same, later)
    by_test true (suc i) (suc j) less one two more = more i j (omega arith) one two
    by_test false i j less one two more = more i j less one two

-- one item more
pub places_push : {A : Type 0} (meets : A → Bool) (n : ℕ) (xs : List A) (x : A)
    → places_from meets n (xs ++ x ∷ []) ≡ places_from meets n xs ++ (if meets x then (n + length xs) ∷ [] else [])
places_push meets n [] x = by_test (meets x)
  where
    by_test : (b : Bool) → (if b then n ∷ [] else []) ≡ (if b then (n + 0) ∷ [] else [])
    by_test true = ap (λ k. k ∷ []) (omega arith)
    by_test false = refl
places_push meets n (y ∷ xs) x =
    by_test (meets y) (places_push meets (n + 1) xs x ∙ ap (λ k. places_from meets (n + 1) xs ++ (if meets x then k ∷ [] else [])) (omega arith))
  where
    by_test : (b : Bool) → places_from meets (n + 1) (xs ++ x ∷ []) ≡ places_from meets (n + 1) xs ++ (if meets x then (n + suc (length xs)) ∷ [] else [])
        → (if b then n ∷ places_from meets (n + 1) (xs ++ x ∷ []) else places_from meets (n + 1) (xs ++ x ∷ []))
        ≡ (if b then n ∷ places_from meets (n + 1) xs else places_from meets (n + 1) xs) ++ (if meets x then (n + suc (length xs)) ∷ [] else [])
    by_test true more = ap (λ l. n ∷ l) more
    by_test false more = more

-- ---- the first edge that ends at a site

pub record EndsAt (edges : List Edge) (x n r : ℕ) : Type 0 where
  pub at : ℕ
  pub edge : Edge
  pub stands : slice_get edges at ≡ Some edge
  pub ends : end_of edge ≡ x
  pub number : r ≡ n + at

first_stands : (edges : List Edge) (x n r : ℕ) → position_from (λ e. eqb (end_of e) x) n edges ≡ Some r → EndsAt edges x n r
first_stands [] x n r e = absurd cc
first_stands (edge ∷ edges) x n r e = by_test (eqb (end_of edge) x) refl e (first_stands edges x (n + 1) r)
  where
    by_test : (b : Bool) → eqb (end_of edge) x ≡ b → cond b (Some n) (position_from (λ e. eqb (end_of e) x) (n + 1) edges) ≡ Some r
        → (position_from (λ e. eqb (end_of e) x) (n + 1) edges ≡ Some r → EndsAt edges x (n + 1) r) → EndsAt (edge ∷ edges) x n r
    by_test true is e rest = let same = some_is n r e in record { at = 0; edge = edge; stands = refl; ends = eqb-true (end_of edge) x is; number = omega (arith, same) }
    by_test false is e rest =
        let more = rest e in let number = more.number in
        record { at = suc more.at; edge = more.edge; stands = more.stands; ends = more.ends; number = omega (arith, number) }

-- the first edge that ends at a site is an edge that ends there
pub record IsFirst (edges : List Edge) (x r : ℕ) : Type 0 where
  pub edge : Edge
  pub stands : slice_get edges r ≡ Some edge
  pub ends : end_of edge ≡ x

pub first_is : (edges : List Edge) (x r : ℕ) → first_at edges x ≡ Some r → IsFirst edges x r
first_is edges x r e =
    let f = first_stands edges x 0 r e in let number = f.number in
    let same : f.at ≡ r = omega (arith, number) in
    record { edge = f.edge; stands = subst (λ k. slice_get edges k ≡ Some f.edge) same f.stands; ends = f.ends }

first_stands_for : (edges : List Edge) (x n j : ℕ) (edge : Edge) → slice_get edges j ≡ Some edge → end_of edge ≡ x
    → (r : ℕ) × (position_from (λ e. eqb (end_of e) x) n edges ≡ Some r)
first_stands_for [] x n j edge e ends = absurd cc
first_stands_for (y ∷ edges) x n zero edge e ends =
    let here : eqb (end_of y) x ≡ true = eq-eqb (end_of y) x (ap end_of (some_is y edge e) ∙ ends) in
    (n, subst (λ b. cond b (Some n) (position_from (λ e. eqb (end_of e) x) (n + 1) edges) ≡ Some n) (sym here) refl)
first_stands_for (y ∷ edges) x n (suc j) edge e ends = by_test (eqb (end_of y) x) (first_stands_for edges x (n + 1) j edge e ends)
  where
    by_test : (b : Bool) → (r : ℕ) × (position_from (λ e. eqb (end_of e) x) (n + 1) edges ≡ Some r)
        → (r : ℕ) × (cond b (Some n) (position_from (λ e. eqb (end_of e) x) (n + 1) edges) ≡ Some r)
    by_test true more = (n, refl)
    by_test false more = more

-- what `firsts_of` says of an edge
pub first_of_edge : (edges : List Edge) (k : ℕ) (edge : Edge) → slice_get edges k ≡ Some edge → first_at edges (end_of edge) ≡ Some (get_or (firsts_of edges) k 0)
first_of_edge edges k edge e =
    let found = first_stands_for edges (end_of edge) 0 k edge e refl in
    let value : get_or (firsts_of edges) k 0 ≡ found.0 =
    mapped_at (λ y. unwrap_or (first_at edges (end_of y)) 0) edges k edge e ∙ ap (λ o. unwrap_or o 0) found.1 in
    found.1 ∙ ap Some (sym value)

-- ---- edges are known by the first that ends where they do

pub record AreFirsts (edges : List Edge) (firsts : List ℕ) : Type 0 where
  pub inside : (k : ℕ) (edge : Edge) → slice_get edges k ≡ Some edge → get_or firsts k 0 < length edges
  pub alike : (j k : ℕ) (one two : Edge) → slice_get edges j ≡ Some one → slice_get edges k ≡ Some two → get_or firsts j 0 ≡ get_or firsts k 0 → end_of one ≡ end_of two

pub are_firsts : (edges : List Edge) (firsts : List ℕ) → firsts ≡ firsts_of edges → AreFirsts edges firsts
are_firsts edges firsts e = subst (λ l. AreFirsts edges l) (sym e) record {
  inside = λ k edge stands.
      let f = first_is edges (end_of edge) (get_or (firsts_of edges) k 0) (first_of_edge edges k edge stands) in
      slice_get_within edges (get_or (firsts_of edges) k 0) f.edge f.stands;
  alike = λ j k one two first second same.
      let f = first_is edges (end_of one) (get_or (firsts_of edges) j 0) (first_of_edge edges j one first) in
      let g = first_is edges (end_of two) (get_or (firsts_of edges) k 0) (first_of_edge edges k two second) in
      let edge : f.edge ≡ g.edge = same_found (slice_get edges (get_or (firsts_of edges) k 0)) f.edge g.edge (subst (λ r. slice_get edges r ≡ Some f.edge) same f.stands) g.stands in
      sym f.ends ∙ ap end_of edge ∙ g.ends;
}

-- ---- rows

-- the edges of a row start at the site that is known by its edge
pub record IsInRow (edges : List Edge) (x k : ℕ) : Type 0 where
  pub edge : Edge
  pub stands : slice_get edges k ≡ Some edge
  pub starts : start_of edge ≡ Some x

pub in_row : (edges : List Edge) (x r m k : ℕ) → first_at edges x ≡ Some r → slice_get (row_of edges r edges) m ≡ Some k → IsInRow edges x k
in_row edges x r m k first e =
    let p = place_passes (follows edges r) 0 edges m k e in let number = p.number in
    let same : p.at ≡ k = omega (arith, number) in
    record { edge = p.item; stands = subst (λ j. slice_get edges j ≡ Some p.item) same p.stands; starts = by_start (start_of p.item) (start_of p.item) refl p.passes }
  where
    by_first : (y : ℕ) (o : Option ℕ) → first_at edges y ≡ o → option_map_or (λ q. eqb q r) o false ≡ true → y ≡ x
    by_first y None e passes = absurd cc
    by_first y (Some q) e passes =
        let here = first_is edges y q e in let there = first_is edges x r first in
        let edge : here.edge ≡ there.edge = same_found (slice_get edges r) here.edge there.edge (subst (λ j. slice_get edges j ≡ Some here.edge) (eqb-true q r passes) here.stands) there.stands in
        sym here.ends ∙ ap end_of edge ∙ there.ends

    by_start : (o start : Option ℕ) → start ≡ o → option_map_or (λ q. eqb q r) (option_and_then (first_at edges) start) false ≡ true → start ≡ Some x
    by_start None start e passes = absurd (let is : option_map_or (λ q. eqb q r) (option_and_then (first_at edges) None) false ≡ true = subst (λ s. option_map_or (λ q. eqb q r) (option_and_then (first_at edges) s) false ≡ true) e passes in cc)
    by_start (Some y) start e passes =
        e ∙ ap Some (by_first y (first_at edges y) refl (subst (λ s. option_map_or (λ q. eqb q r) (option_and_then (first_at edges) s) false ≡ true) e passes))

pub to_row : (edges : List Edge) (x r k : ℕ) (edge : Edge) → first_at edges x ≡ Some r → slice_get edges k ≡ Some edge → start_of edge ≡ Some x
    → (m : ℕ) × (slice_get (row_of edges r edges) m ≡ Some k)
to_row edges x r k edge first stands starts =
    let follows_it : follows edges r edge ≡ true =
    ap (λ s. option_map_or (λ q. eqb q r) (option_and_then (first_at edges) s) false) starts ∙ ap (λ o. option_map_or (λ q. eqb q r) o false) first ∙ eq-eqb r r refl in
    let found = passing_place (follows edges r) 0 edges k edge stands follows_it in
    (found.0, found.1 ∙ ap Some (omega arith))

-- Rows as they are filled: the places of the lists that have a number.
use Rattle.std.proofs.Common.{◌≡◌, ℕ, ◌+◌, ◌-◌, ◌<◌, ◌≤◌, ◌⊎◌, suc, zero, Bool, true, false, List, [], ◌∷◌, ◌++◌, length, take, map, Option, Some, None, slice_get, get_or, replicate, refl, sym, ap, subst, inl, inr, arith, ◌∙◌, if◌then◌else◌, eqb, ltb}
use Rattle.std.specs.Prelude.{◌&&◌, ◌||◌, ◌↔◌}
use Rattle.std.specs.List.{AllByRecursion}
use Rattle.std.proofs.Math.Seq.{get_or-append_seam}
use Rattle.std.proofs.lemmas.Bool.{cases_eq, cases_lt, cases_Bool, both_ways, eqb-true, eq-eqb, or_cases, or_left, or_right, and_parts, and_from, lt-ltb, ltb-true}
use Rattle.std.proofs.lemmas.List.{take_more, length-take-le, length-append, append-nil}
use Rattle.std.proofs.lemmas.Option.{slice_get_within}
use Rattle.th_base.specs.IdSet.{has, IsAscending}
use Rattle.th_ir.specs.WellFormed.{places_from}
use Rattle.th_flow.specs.Inverted.{row_at, places_with, is_last}

pub some_is : {A : Type 0} (x y : A) → (let o : Option A = Some x in o) ≡ Some y → x ≡ y
some_is x y e = cc

-- ---- numbers in lists

pub has_last : (xs : List ℕ) (y x : ℕ) → has (xs ++ y ∷ []) x ≡ true → (has xs x ≡ true) ⊎ (y ≡ x)
has_last [] y x e = elim (or_cases (eqb y x) false e) [ inl same ↦ inr (eqb-true y x same) | inr none ↦ inl none ]
has_last (z ∷ xs) y x e =
    elim (or_cases (eqb z x) (has (xs ++ y ∷ []) x) e) [
      | inl first ↦ inl (or_left (eqb z x) (has xs x) first)
      | inr later ↦ elim (has_last xs y x later) [ inl found ↦ inl (or_right (eqb z x) (has xs x) found) | inr same ↦ inr same ]
    ]

has_before : (xs : List ℕ) (y x : ℕ) → has xs x ≡ true → has (xs ++ y ∷ []) x ≡ true
has_before [] y x e = absurd cc
has_before (z ∷ xs) y x e =
    elim (or_cases (eqb z x) (has xs x) e) [
      | inl first ↦ or_left (eqb z x) (has (xs ++ y ∷ []) x) first
      | inr later ↦ or_right (eqb z x) (has (xs ++ y ∷ []) x) (has_before xs y x later)
    ]

has_new : (xs : List ℕ) (y : ℕ) → has (xs ++ y ∷ []) y ≡ true
has_new [] y = or_left (eqb y y) false (eq-eqb y y refl)
has_new (z ∷ xs) y = or_right (eqb z y) (has (xs ++ y ∷ []) y) (has_new xs y)

has_other : (xs : List ℕ) (y x : ℕ) → (y ≡ x → ⊥) → has (xs ++ y ∷ []) x ≡ has xs x
has_other xs y x other =
    elim (cases_Bool (has xs x)) [
      | inl found ↦ has_before xs y x found ∙ sym found
      | inr out ↦ elim (cases_Bool (has (xs ++ y ∷ []) x)) [
        | inl both ↦ elim (has_last xs y x both) [ inl found ↦ absurd (both_ways (has xs x) out found) | inr same ↦ absurd (other same) ]
        | inr none ↦ none ∙ sym out
      ]
    ]

has_at : (xs : List ℕ) (k : ℕ) → k < length xs → has xs (get_or xs k 0) ≡ true
has_at [] k less = absurd (omega arith)
has_at (x ∷ xs) zero less = or_left (eqb x x) (has xs x) (eq-eqb x x refl)
has_at (x ∷ xs) (suc k) less = or_right (eqb x (get_or xs k 0)) (has xs (get_or xs k 0)) (has_at xs k (omega arith))

-- ---- the last number

last_is : (xs : List ℕ) (n : ℕ) → is_last (xs ++ n ∷ []) n ≡ true
last_is xs n =
    let long = length-append xs (n ∷ []) in
    let at : length (xs ++ n ∷ []) - 1 ≡ length xs = omega (arith, long) in
    and_from (ltb 0 (length (xs ++ n ∷ []))) (eqb (get_or (xs ++ n ∷ []) (length (xs ++ n ∷ []) - 1) 0) n) (lt-ltb 0 (length (xs ++ n ∷ [])) (omega (arith, long)))
    (eq-eqb (get_or (xs ++ n ∷ []) (length (xs ++ n ∷ []) - 1) 0) n (ap (λ i. get_or (xs ++ n ∷ []) i 0) at ∙ get_or-append_seam xs n [] 0))

last_is_not : (xs : List ℕ) (n : ℕ) → has xs n ≡ false → is_last xs n ≡ false
last_is_not xs n out =
    elim (cases_Bool (is_last xs n)) [
      | inl is ↦
          let parts = and_parts (ltb 0 (length xs)) (eqb (get_or xs (length xs - 1) 0) n) is in
          let some = ltb-true 0 (length xs) parts.0 in
          let here = has_at xs (length xs - 1) (omega arith) in
          absurd (both_ways (has xs n) out (ap (has xs) (sym (eqb-true (get_or xs (length xs - 1) 0) n parts.1)) ∙ here))
      | inr isnt ↦ isnt
    ]

-- ---- one list's numbers, noted one after the other

abbrev noted : List ℕ → List ℕ → ℕ → ℕ → List ℕ
noted old list r n = old ++ (if has list r then n ∷ [] else [])

-- the row that the list's next number names
pub note_here : (old row after list : List ℕ) (r n : ℕ) → has old n ≡ false → row ≡ old ++ (if has list r then n ∷ [] else [])
    → after ≡ (if is_last row n then row else row ++ n ∷ []) → after ≡ old ++ (if has (list ++ r ∷ []) r then n ∷ [] else [])
note_here old row after list r n out was is =
    elim (cases_Bool (has list r)) [
      | inl before ↦
          let full : row ≡ old ++ n ∷ [] = was ∙ ap (λ b. old ++ (if b then n ∷ [] else [])) before in
          let last : is_last row n ≡ true = ap (λ l. is_last l n) full ∙ last_is old n in
          is ∙ ap (λ b. if b then row else row ++ n ∷ []) last ∙ full ∙ ap (λ b. old ++ (if b then n ∷ [] else [])) (sym (has_new list r))
      | inr not_yet ↦
          let bare : row ≡ old = was ∙ ap (λ b. old ++ (if b then n ∷ [] else [])) not_yet ∙ append-nil old in
          let last : is_last row n ≡ false = ap (λ l. is_last l n) bare ∙ last_is_not old n out in
          is ∙ ap (λ b. if b then row else row ++ n ∷ []) last ∙ ap (λ l. l ++ n ∷ []) bare ∙ ap (λ b. old ++ (if b then n ∷ [] else [])) (sym (has_new list r))
    ]

-- another row
pub note_there : (old row after list : List ℕ) (r t n : ℕ) → (r ≡ t → ⊥) → row ≡ old ++ (if has list r then n ∷ [] else []) → after ≡ row
    → after ≡ old ++ (if has (list ++ t ∷ []) r then n ∷ [] else [])
note_there old row after list r t n other was is =
    is ∙ was ∙ ap (λ b. old ++ (if b then n ∷ [] else [])) (sym (has_other list t r (λ e. other (sym e))))

-- ---- places that pass a test

pub record IsPlace {A : Type 0} (meets : A → Bool) (n : ℕ) (xs : List A) (k : ℕ) : Type 0 where
  pub at : ℕ
  pub item : A
  pub stands : slice_get xs at ≡ Some item
  pub passes : meets item ≡ true
  pub number : k ≡ n + at

next_place : {A : Type 0} (meets : A → Bool) (n : ℕ) (x : A) (xs : List A) (k : ℕ) → IsPlace meets (n + 1) xs k → IsPlace meets n (x ∷ xs) k
next_place meets n x xs k p = let e = p.number in record { at = suc p.at; item = p.item; stands = p.stands; passes = p.passes; number = omega (arith, e) }

pub place_passes : {A : Type 0} (meets : A → Bool) (n : ℕ) (xs : List A) (k : ℕ) → has (places_from meets n xs) k ≡ true → IsPlace meets n xs k
place_passes meets n [] k e = absurd cc
place_passes meets n (x ∷ xs) k e = by_test (meets x) refl e (place_passes meets (n + 1) xs k)
  where
    by_test : (b : Bool) → meets x ≡ b → has (if b then n ∷ places_from meets (n + 1) xs else places_from meets (n + 1) xs) k ≡ true
        → (has (places_from meets (n + 1) xs) k ≡ true → IsPlace meets (n + 1) xs k) → IsPlace meets n (x ∷ xs) k
    by_test true is e more =
        elim (or_cases (eqb n k) (has (places_from meets (n + 1) xs) k) e) [
          | inl same ↦ let here = eqb-true n k same in record { at = 0; item = x; stands = refl; passes = is; number = omega (arith, here) }
          | inr later ↦ next_place meets n x xs k (more later)
        ]
    by_test false is e more = next_place meets n x xs k (more e)

pub passing_place : {A : Type 0} (meets : A → Bool) (n : ℕ) (xs : List A) (j : ℕ) (x : A) → slice_get xs j ≡ Some x → meets x ≡ true
    → has (places_from meets n xs) (n + j) ≡ true
passing_place meets n [] j x e passes = absurd cc
passing_place meets n (y ∷ xs) zero x e passes =
    let here : meets y ≡ true = ap meets (some_is y x e) ∙ passes in
    subst (λ b. has (if b then n ∷ places_from meets (n + 1) xs else places_from meets (n + 1) xs) (n + 0) ≡ true) (sym here)
    (or_left (eqb n (n + 0)) (has (places_from meets (n + 1) xs) (n + 0)) (eq-eqb n (n + 0) (omega arith)))
passing_place meets n (y ∷ xs) (suc j) x e passes =
    by_test (meets y) (ap (has (places_from meets (n + 1) xs)) (omega arith) ∙ passing_place meets (n + 1) xs j x e passes)
  where
    by_test : (b : Bool) → has (places_from meets (n + 1) xs) (n + suc j) ≡ true
        → has (if b then n ∷ places_from meets (n + 1) xs else places_from meets (n + 1) xs) (n + suc j) ≡ true
    by_test true more = or_right (eqb n (n + suc j)) (has (places_from meets (n + 1) xs) (n + suc j)) more
    by_test false more = more

pub passing : {A : Type 0} (meets : A → Bool) (xs : List A) (j : ℕ) (x : A) → slice_get xs j ≡ Some x → meets x ≡ true → has (places_from meets 0 xs) j ≡ true
passing meets xs j x e passes =
    let same : j ≡ 0 + j = omega arith in
    ap (has (places_from meets 0 xs)) same ∙ passing_place meets 0 xs j x e passes

above : {A : Type 0} (meets : A → Bool) (n m : ℕ) (xs : List A) → m < n → AllByRecursion (λ y. m < y) (places_from meets n xs)
above meets n m [] less = tt
above meets n m (x ∷ xs) less = by_test (meets x) (above meets (n + 1) m xs (omega arith))
  where
    by_test : (b : Bool) → AllByRecursion (λ y. m < y) (places_from meets (n + 1) xs)
        → AllByRecursion (λ y. m < y) (if b then n ∷ places_from meets (n + 1) xs else places_from meets (n + 1) xs)
    by_test true more = (less, more)
    by_test false more = more

pub places_ascend : {A : Type 0} (meets : A → Bool) (n : ℕ) (xs : List A) → IsAscending (places_from meets n xs)
places_ascend meets n [] = tt
places_ascend meets n (x ∷ xs) = by_test (meets x) (places_ascend meets (n + 1) xs)
  where
    by_test : (b : Bool) → IsAscending (places_from meets (n + 1) xs) → IsAscending (if b then n ∷ places_from meets (n + 1) xs else places_from meets (n + 1) xs)
    by_test true more = (above meets (n + 1) n xs (omega arith), more)
    by_test false more = more

pub places_push : {A : Type 0} (meets : A → Bool) (n : ℕ) (xs : List A) (x : A)
    → places_from meets n (xs ++ x ∷ []) ≡ places_from meets n xs ++ (if meets x then (n + length xs) ∷ [] else [])
places_push meets n [] x = by_test (meets x)
  where
    by_test : (b : Bool) → (if b then n ∷ [] else []) ≡ (if b then (n + 0) ∷ [] else [])
    by_test true = ap (λ k. k ∷ []) (omega arith)
    by_test false = refl
places_push meets n (y ∷ xs) x =
    by_test (meets y) (places_push meets (n + 1) xs x ∙ ap (λ k. places_from meets (n + 1) xs ++ (if meets x then k ∷ [] else [])) (omega arith))
  where
    by_test : (b : Bool) → places_from meets (n + 1) (xs ++ x ∷ []) ≡ places_from meets (n + 1) xs ++ (if meets x then (n + suc (length xs)) ∷ [] else [])
        → (if b then n ∷ places_from meets (n + 1) (xs ++ x ∷ []) else places_from meets (n + 1) (xs ++ x ∷ []))
        ≡ (if b then n ∷ places_from meets (n + 1) xs else places_from meets (n + 1) xs) ++ (if meets x then (n + suc (length xs)) ∷ [] else [])
    by_test true more = ap (λ l. n ∷ l) more
    by_test false more = more

-- one item more of a list
pub places_more : {A : Type 0} (meets : A → Bool) (xs : List A) (n : ℕ) (d : A) → n < length xs
    → places_from meets 0 (take (n + 1) xs) ≡ places_from meets 0 (take n xs) ++ (if meets (get_or xs n d) then n ∷ [] else [])
places_more meets xs n d less =
    let long : 0 + length (take n xs) ≡ n = let size = length-take-le n xs (omega arith) in omega (arith, size) in
    ap (places_from meets 0) (take_more xs n d less) ∙ places_push meets 0 (take n xs) (get_or xs n d)
    ∙ ap (λ m. places_from meets 0 (take n xs) ++ (if meets (get_or xs n d) then m ∷ [] else [])) long

-- no place past the list
pub no_place_past : {A : Type 0} (meets : A → Bool) (xs : List A) (n k : ℕ) → length xs ≤ k → has (places_from meets 0 xs) k ≡ false
no_place_past meets xs n k past =
    elim (cases_Bool (has (places_from meets 0 xs) k)) [
      | inl found ↦
          let p = place_passes meets 0 xs k found in
          let number = p.number in let inside = slice_get_within xs p.at p.item p.stands in
          absurd (omega (arith, number, inside))
      | inr none ↦ none
    ]

-- rows that are empty
pub row_of_none : (n r : ℕ) → row_at (replicate n []) r ≡ []
row_of_none zero r = refl
row_of_none (suc n) zero = refl
row_of_none (suc n) (suc r) = row_of_none n r

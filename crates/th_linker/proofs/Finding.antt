-- The class of a name is the one of its number.
use Rattle.std.proofs.Common.{◌≡◌, ℕ, suc, zero, ◌+◌, ◌<◌, Bool, true, false, cond, List, [], ◌∷◌, length, Option, None, Some, refl, sym, ap, ◌∙◌, arith}
use Rattle.std.specs.Prelude.{slice_get, find}
use Rattle.std.specs.List.{position_from}

there_by : {A : Type 0} (p : A → Bool) (k n : ℕ) (x : A) (xs : List A) (b : Bool) → cond b (Some k) (position_from p (k + 1) xs) ≡ Some n
    → (position_from p (k + 1) xs ≡ Some n → (j : ℕ) × (n ≡ (k + 1) + j) × (find p xs ≡ slice_get xs j) × (j < length xs))
    → (j : ℕ) × (n ≡ k + j) × (cond b (Some x) (find p xs) ≡ slice_get (x ∷ xs) j) × (j < length (x ∷ xs))
there_by p k n x xs true e rest = (0, (let same : k ≡ n = cc in omega arith), refl, omega arith)
there_by p k n x xs false e rest = let more = rest e in (suc more.0, (let level = more.1 in omega (arith, level)), more.2, (let inside = more.3 in omega (arith, inside)))

-- the first item that passes a test stands at the place that is found
pub found_there : {A : Type 0} (p : A → Bool) (k n : ℕ) (xs : List A) → position_from p k xs ≡ Some n → (j : ℕ) × (n ≡ k + j) × (find p xs ≡ slice_get xs j) × (j < length xs)
found_there p k n [] e = absurd cc
found_there p k n (x ∷ xs) e = there_by p k n x xs (p x) e (found_there p (k + 1) n xs)

nowhere_by : {A : Type 0} (p : A → Bool) (k : ℕ) (x : A) (xs : List A) (b : Bool) → cond b (Some k) (position_from p (k + 1) xs) ≡ None → (position_from p (k + 1) xs ≡ None → find p xs ≡ None) → cond b (Some x) (find p xs) ≡ None
nowhere_by p k x xs true e rest = absurd cc
nowhere_by p k x xs false e rest = rest e

pub found_nowhere : {A : Type 0} (p : A → Bool) (k : ℕ) (xs : List A) → position_from p k xs ≡ None → find p xs ≡ None
found_nowhere p k [] e = refl
found_nowhere p k (x ∷ xs) e = nowhere_by p k x xs (p x) e (found_nowhere p (k + 1) xs)

-- the same from the start of the list
pub item_found : {A : Type 0} (p : A → Bool) (n : ℕ) (xs : List A) → position_from p 0 xs ≡ Some n → find p xs ≡ slice_get xs n
item_found p n xs e = let at = found_there p 0 n xs e in at.2 ∙ ap (slice_get xs) (let level = at.1 in omega (arith, level))

pub number_inside : {A : Type 0} (p : A → Bool) (n : ℕ) (xs : List A) → position_from p 0 xs ≡ Some n → n < length xs
number_inside p n xs e = let at = found_there p 0 n xs e in let level = at.1 in let inside = at.3 in omega (arith, level, inside)

-- The least of the numbers of two lists.
use Rattle.std.proofs.Common.{◌≡◌, ℕ, List, [], ◌∷◌, ◌++◌, refl, ap, ◌∙◌, arith}
use Rattle.std.specs.Prelude.{Option, Some, None, min}
use Rattle.std.proofs.lemmas.List.{append-nil}
use Rattle.th_syntax.specs.Decoding.{least}
use Rattle.th_code.specs.Judged.{least_of}

grouped : (n a b : ℕ) → min n (min a b) ≡ min (min n a) b
grouped n a b = omega arith

least_append : (n : ℕ) (xs : List ℕ) (y : ℕ) (ys : List ℕ) → least n (xs ++ y ∷ ys) ≡ min (least n xs) (least y ys)
least_append n [] y ys = refl
least_append n (x ∷ xs) y ys = ap (λ (k : ℕ). min n k) (least_append x xs y ys) ∙ grouped n (least x xs) (least y ys)

pub both_some : (x y : List ℕ) (a b : ℕ) → Some a ≡ least_of x → Some b ≡ least_of y → Some (min a b) ≡ least_of (x ++ y)
both_some [] y a b e f = absurd cc
both_some (x ∷ xs) [] a b e f = absurd cc
both_some (x ∷ xs) (y ∷ ys) a b e f =
    let first : a ≡ least x xs = cc in
    let second : b ≡ least y ys = cc in
    rw (first, second, ← least_append x xs y ys) refl

pub first_none : (x y : List ℕ) (o : Option ℕ) → None ≡ least_of x → o ≡ least_of y → o ≡ least_of (x ++ y)
first_none [] y o e f = f
first_none (x ∷ xs) y o e f = absurd cc

pub second_none : (x y : List ℕ) (o : Option ℕ) → o ≡ least_of x → None ≡ least_of y → o ≡ least_of (x ++ y)
second_none x [] o e f = rw (append-nil x) e
second_none x (y ∷ ys) o e f = absurd cc

pub ruleset least_joined = (both_some, first_none, second_none)

-- A value looked at where it stands in a stack is the one that is popped when those above it are gone.
use Rattle.std.proofs.Common.{◌≡◌, zero, suc, ◌+◌, ◌<◌, ◌≤◌, ℕ, List, [], ◌∷◌, length, drop, arith, refl, sym, ap, ◌∙◌, Option, Some, None}
use Rattle.std.specs.Prelude.{slice_get}
use Rattle.th_syntax.specs.declared.machine.Value.{Value}
use Rattle.th_syntax.specs.declared.machine.Slot.{Slot}
use Rattle.th_syntax.specs.declared.machine.Slot.TheVariants.{Holds, SecondHalf}
use Rattle.th_syntax.specs.Slots.{Popped, popped}

drop_here : {X : Type 0} (xs : List X) (i : ℕ) (x : X) → slice_get xs i ≡ Some x → drop i xs ≡ x ∷ drop (suc i) xs
drop_here [] i x e = cc
drop_here (y ∷ ys) zero x e = let same : y ≡ x = cc in ap (λ z. z ∷ ys) same
drop_here (y ∷ ys) (suc i) x e = drop_here ys i x e

drop_past : {X : Type 0} (xs : List X) (i : ℕ) → slice_get xs i ≡ None → drop i xs ≡ []
drop_past [] zero e = refl
drop_past [] (suc i) e = refl
drop_past (y ∷ ys) zero e = cc
drop_past (y ∷ ys) (suc i) e = drop_past ys i e

within_here : {X : Type 0} (xs : List X) (i : ℕ) (x : X) → slice_get xs i ≡ Some x → i < length xs
within_here [] i x e = cc
within_here (y ∷ ys) zero x e = omega arith
within_here (y ∷ ys) (suc i) x e = let under = within_here ys i x e in omega (arith, under)

-- the stack from here on begins with this value
pub holds_here : (stack : List Slot) (i : ℕ) (v : Value) → slice_get stack i ≡ Some (Holds v)
    → Some record { value = v; rest = drop (i + 1) stack } ≡ popped (drop i stack)
holds_here stack i v e =
    let next : suc i ≡ i + 1 = omega arith in
    sym (ap popped (drop_here stack i (Holds v) e) ∙ ap (λ n. Some record { value = v; rest = drop n stack }) next)

-- it begins with the second half of a value
pub long_here : (stack : List Slot) (i : ℕ) (v : Value) → slice_get stack i ≡ Some SecondHalf → slice_get stack (i + 1) ≡ Some (Holds v)
    → Some record { value = v; rest = drop (i + 2) stack } ≡ popped (drop i stack)
long_here stack i v e f =
    let next : suc i ≡ i + 1 = omega arith in
    let last : suc (i + 1) ≡ i + 2 = omega arith in
    sym (ap popped (drop_here stack i SecondHalf e ∙ ap (λ n. SecondHalf ∷ drop n stack) next ∙ ap (λ xs. SecondHalf ∷ xs) (drop_here stack (i + 1) (Holds v) f))
    ∙ ap (λ n. Some record { value = v; rest = drop n stack }) last)

-- it begins with a second half, and no first half stands below
pub half_here : (stack : List Slot) (i : ℕ) → slice_get stack i ≡ Some SecondHalf → slice_get stack (i + 1) ≡ Some SecondHalf → None ≡ popped (drop i stack)
half_here stack i e f =
    let next : suc i ≡ i + 1 = omega arith in
    sym (ap popped (drop_here stack i SecondHalf e ∙ ap (λ n. SecondHalf ∷ drop n stack) next ∙ ap (λ xs. SecondHalf ∷ xs) (drop_here stack (i + 1) SecondHalf f)))

pub half_last : (stack : List Slot) (i : ℕ) → slice_get stack i ≡ Some SecondHalf → slice_get stack (i + 1) ≡ None → None ≡ popped (drop i stack)
half_last stack i e f =
    let next : suc i ≡ i + 1 = omega arith in
    sym (ap popped (drop_here stack i SecondHalf e ∙ ap (λ n. SecondHalf ∷ drop n stack) next ∙ ap (λ xs. SecondHalf ∷ xs) (drop_past stack (i + 1) f)))

pub nothing_here : (stack : List Slot) (i : ℕ) → slice_get stack i ≡ None → None ≡ popped (drop i stack)
nothing_here stack i e = sym (ap popped (drop_past stack i e))

-- Where the results of options and of changed lists come from.
use Rattle.std.proofs.Common.{◌≡◌, ℕ, zero, suc, ◌⊎◌, inl, inr, Bool, true, false, ◌&&◌, List, [], ◌∷◌, ◌++◌, Option, None, Some, slice_get, slice_set, refl, ap, subst}
use Rattle.std.specs.List.{AllByRecursion}
use Rattle.std.specs.Option.{option_and_then, option_map, option_map_or}

pub and_then_some : {A B : Type 0} (f : A → Option B) (o : Option A) (y : B) → option_and_then f o ≡ Some y → (x : A) × (o ≡ Some x) × (f x ≡ Some y)
and_then_some f None y e = absurd cc
and_then_some f (Some x) y e = (x, refl, e)

pub map_some : {A B : Type 0} (f : A → B) (o : Option A) (y : B) → option_map f o ≡ Some y → (x : A) × (o ≡ Some x) × (f x ≡ y)
map_some f None y e = absurd cc
map_some f (Some x) y e = (x, refl, cc)

pub map_or_true : {A : Type 0} (f : A → Bool) (o : Option A) → option_map_or f o false ≡ true → (x : A) × (o ≡ Some x) × (f x ≡ true)
map_or_true f None e = absurd cc
map_or_true f (Some x) e = (x, refl, e)

pub some_is : {A : Type 0} (x y : A) → (let o : Option A = Some x in o) ≡ Some y → x ≡ y
some_is x y e = cc

-- two tests that hold
pub both : (a b : Bool) → (a && b) ≡ true → (a ≡ true) × (b ≡ true)
both true b e = (refl, e)
both false b e = absurd cc

-- a place of a list after a write holds what was written, or what was there
pub set_cases : {A : Type 0} (xs : List A) (g k : ℕ) (v w : A) → slice_get (slice_set xs g v) k ≡ Some w → (g ≡ k) ⊎ (slice_get xs k ≡ Some w)
set_cases [] g k v w e = inr e
set_cases (x ∷ xs) zero zero v w e = inl refl
set_cases (x ∷ xs) zero (suc k) v w e = inr e
set_cases (x ∷ xs) (suc g) zero v w e = inr e
set_cases (x ∷ xs) (suc g) (suc k) v w e = elim (set_cases xs g k v w e) [ inl same ↦ inl (ap suc same) | inr other ↦ inr other ]

pub all_append : {A : Type 0} (P : A → Type 0) (xs ys : List A) → AllByRecursion P xs → AllByRecursion P ys → AllByRecursion P (xs ++ ys)
all_append P [] ys left right = right
all_append P (x ∷ xs) ys left right = (left.0, all_append P xs ys left.1 right)

pub all_at : {A : Type 0} (P : A → Type 0) (xs : List A) (k : ℕ) (x : A) → AllByRecursion P xs → slice_get xs k ≡ Some x → P x
all_at P [] k x all e = absurd cc
all_at P (y ∷ xs) zero x all e = subst P (some_is y x e) all.0
all_at P (y ∷ xs) (suc k) x all e = all_at P xs k x all.1 e

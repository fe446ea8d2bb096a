-- Members of lists that are joined from others, and of the numbers below a bound.
use Rattle.std.proofs.Common.{◌≡◌, ℕ, ◌+◌, ◌<◌, zero, suc, Bool, true, List, [], ◌∷◌, ◌++◌, ◌⊎◌, inl, inr, length, get_or, take, map, Option, None, Some, slice_get, refl, sym, ap, ◌∙◌, subst, arith}
use Rattle.std.specs.List.{Contains, flat_map, list_any, AllByRecursion}
use Rattle.std.specs.Option.{option_to_list}
use Rattle.std.proofs.lemmas.Bool.{or_cases, or_left, or_right, cases_order}
use Rattle.std.proofs.lemmas.List.{flat_map_more, take_more, length-append, get_or_append_left, get_or_at}
use Rattle.std.proofs.lemmas.List.Elements.{Contains-append_left, Contains-append_right, Contains-append_cases, Contains-push, Contains-push_cases}
use Rattle.std.proofs.lemmas.Option.{slice_get_within, slice_get-get_or, get_or_from_slice_get}
use Rattle.th_incl.proofs.Through.{nothing_in_none, only_one}
use Rattle.th_mod.specs.Systems.{numbers_below}

-- ---- one more item of a list

pub joined_more : {X Y : Type 0} (f : X → List Y) (old new : List Y) (xs : List X) (i : ℕ) (d : X) → i < length xs
    → new ≡ (old ++ flat_map f (take i xs)) ++ f (get_or xs i d) → new ≡ old ++ flat_map f (take (i + 1) xs)
joined_more f old new xs i d lt e =
    e ∙ flat_map_more f old (take i xs) (get_or xs i d) ∙ ap (λ l. old ++ flat_map f l) (sym (take_more xs i d lt))

-- ---- members

pub first_or_later : {X : Type 0} (y : X) (ys : List X) (x : X) → Contains (y ∷ ys) x → (y ≡ x) ⊎ Contains ys x
first_or_later y ys x (zero, lt, e) = inl e
first_or_later y ys x (suc k, lt, e) = inr (k, omega arith, e)

pub first_in : {X : Type 0} (x : X) (xs : List X) → Contains (x ∷ xs) x
first_in x xs = (0, omega arith, refl)

pub later_in : {X : Type 0} (y : X) (xs : List X) (x : X) → Contains xs x → Contains (y ∷ xs) x
later_in y xs x (k, lt, e) = (suc k, omega arith, e)

pub joined : {X Y : Type 0} (f : X → List Y) (xs : List X) (y : Y) → Contains (flat_map f xs) y → (x : X) × Contains xs x × Contains (f x) y
joined f [] y c = absurd (nothing_in_none y c)
joined f (x ∷ xs) y c = elim (Contains-append_cases (f x) (flat_map f xs) y c) [
  | inl here ↦ (x, first_in x xs, here)
  | inr more ↦ (let m = joined f xs y more in (m.0, later_in x xs m.0 m.1, m.2))
]

pub joins : {X Y : Type 0} (f : X → List Y) (xs : List X) (x : X) (y : Y) → Contains xs x → Contains (f x) y → Contains (flat_map f xs) y
joins f [] x y c d = absurd (nothing_in_none x c)
joins f (z ∷ zs) x y c d = elim (first_or_later z zs x c) [
  | inl same ↦ Contains-append_left (f z) (flat_map f zs) y (subst (λ w. Contains (f w) y) (sym same) d)
  | inr more ↦ Contains-append_right (f z) (flat_map f zs) y (joins f zs x y more d)
]

pub some_same : {X : Type 0} (x y : X) → (let o : Option X = Some x in o) ≡ Some y → x ≡ y
some_same x y e = cc

pub in_option : {X : Type 0} (o : Option X) (x : X) → Contains (option_to_list o) x → o ≡ Some x
in_option None x c = absurd (nothing_in_none x c)
in_option (Some y) x c = ap Some (only_one y x c)

pub option_in : {X : Type 0} (o : Option X) (x : X) → o ≡ Some x → Contains (option_to_list o) x
option_in None x e = absurd cc
option_in (Some y) x e = (0, omega arith, some_same y x e)

pub found_at : {X : Type 0} (xs : List X) (x : X) → Contains xs x → (k : ℕ) × (slice_get xs k ≡ Some x)
found_at xs x (k, lt, e) = (k, slice_get-get_or xs k x lt ∙ ap Some e)

pub at_found : {X : Type 0} (xs : List X) (k : ℕ) (x : X) → slice_get xs k ≡ Some x → Contains xs x
at_found xs k x e = (k, slice_get_within xs k x e, get_or_from_slice_get xs k x x e)

-- ---- tests over lists

pub passing_member : {X : Type 0} (test : X → Bool) (xs : List X) → list_any test xs ≡ true → (x : X) × Contains xs x × (test x ≡ true)
passing_member test [] e = absurd cc
passing_member test (x ∷ xs) e = elim (or_cases (test x) (list_any test xs) e) [
  | inl here ↦ (x, first_in x xs, here)
  | inr more ↦ (let m = passing_member test xs more in (m.0, later_in x xs m.0 m.1, m.2))
]

pub member_passes : {X : Type 0} (test : X → Bool) (xs : List X) (x : X) → Contains xs x → test x ≡ true → list_any test xs ≡ true
member_passes test [] x c e = absurd (nothing_in_none x c)
member_passes test (y ∷ ys) x c e = elim (first_or_later y ys x c) [
  | inl same ↦ or_left (test y) (list_any test ys) (ap test same ∙ e)
  | inr more ↦ or_right (test y) (list_any test ys) (member_passes test ys x more e)
]

-- ---- the numbers below a bound

pub length-numbers_below : (n : ℕ) → length (numbers_below n) ≡ n
length-numbers_below zero = refl
length-numbers_below (suc n) = length-append (numbers_below n) (n ∷ []) ∙ omega (arith, length-numbers_below n)

pub number_at : (n k : ℕ) → k < n → get_or (numbers_below n) k 0 ≡ k
number_at zero k lt = absurd (omega arith)
number_at (suc n) k lt = elim (cases_order k n) [
  | inl same ↦ get_or_at (numbers_below n) n [] 0 k (length-numbers_below n ∙ sym same) ∙ sym same
  | inr (inl less) ↦ get_or_append_left (numbers_below n) (n ∷ []) 0 k (omega (arith, length-numbers_below n)) ∙ number_at n k less
  | inr (inr more) ↦ absurd (omega arith)
]

pub below_in : (n k : ℕ) → k < n → Contains (numbers_below n) k
below_in zero k lt = absurd (omega arith)
below_in (suc n) k lt = elim (cases_order k n) [
  | inl same ↦ subst (λ (m : ℕ). Contains (numbers_below n ++ n ∷ []) m) (sym same) (Contains-push (numbers_below n) n)
  | inr (inl less) ↦ Contains-append_left (numbers_below n) (n ∷ []) k (below_in n k less)
  | inr (inr more) ↦ absurd (omega arith)
]

pub in_below : (n k : ℕ) → Contains (numbers_below n) k → k < n
in_below zero k c = absurd (nothing_in_none k c)
in_below (suc n) k c = elim (Contains-push_cases (numbers_below n) n k c) [
  | inl old ↦ (let less = in_below n k old in omega arith)
  | inr same ↦ omega arith
]

pub all_mapped : {X Y : Type 0} (P : Y → Type 0) (f : X → Y) → ((x : X) → P (f x)) → (xs : List X) → AllByRecursion P (map f xs)
all_mapped P f each [] = tt
all_mapped P f each (x ∷ xs) = (each x, all_mapped P f each xs)

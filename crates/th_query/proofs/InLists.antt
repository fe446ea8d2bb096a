-- What stands in a list: after a map, a filter, an append, a take, and by tests.
use Rattle.std.proofs.Common.{◌≡◌, ◌⊎◌, inl, inr, ℕ, zero, suc, eqb, ◌+◌, ◌++◌, Bool, true, false, cond, List, [], ◌∷◌, take, drop, map, Option, None, Some, slice_get, refl, sym, ap, subst, arith, ◌∙◌}
use Rattle.std.specs.Prelude.{flat_map}
use Rattle.std.specs.List.{list_any, list_all, filter}
use Rattle.std.proofs.lemmas.Bool.{eqb-true, eq-eqb, or_cases, or_left, or_right, and_parts, and_from, both_ways}
use Rattle.std.proofs.lemmas.List.{take-append-drop}
use Rattle.th_base.specs.IdSet.{has}
use Rattle.th_base.proofs.Membership.{has_append_cases, has_append_left, has_append_right}
use Rattle.th_ir.specs.Program.{Among}
use Rattle.th_ir.specs.WellFormed.{places_from}
use Rattle.th_ir.proofs.Plain.{some_is}
use Rattle.th_query.specs.Unified.{put_new, firsts, present}

-- ---- the same by recursion

abbrev pub In : {X : Type 0} → X → List X → Type 0
In x [] = ⊥
In x (y ∷ ys) = (x ≡ y) ⊎ In x ys

pub in_at : {X : Type 0} (x : X) (xs : List X) (k : ℕ) → slice_get xs k ≡ Some x → In x xs
in_at x [] k e = absurd cc
in_at x (y ∷ ys) zero e = inl (sym (some_is y x e))
in_at x (y ∷ ys) (suc k) e = inr (in_at x ys k e)

pub in_from : {X : Type 0} (x : X) (xs : List X) → Among xs x → In x xs
in_from x xs m = in_at x xs m.0 m.1

pub in_to : {X : Type 0} (x : X) (xs : List X) → In x xs → Among xs x
in_to x [] m = absurd m
in_to x (y ∷ ys) (inl e) = (0, ap (λ z. Some z) (sym e))
in_to x (y ∷ ys) (inr m) = let r = in_to x ys m in (suc r.0, r.1)

-- ---- maps

pub in_map : {X Y : Type 0} (f : X → Y) (x : X) (xs : List X) → In x xs → In (f x) (map f xs)
in_map f x [] m = absurd m
in_map f x (y ∷ ys) (inl e) = inl (ap f e)
in_map f x (y ∷ ys) (inr m) = inr (in_map f x ys m)

pub in_unmap : {X Y : Type 0} (f : X → Y) (y : Y) (xs : List X) → In y (map f xs) → (x : X) × In x xs × (y ≡ f x)
in_unmap f y [] m = absurd m
in_unmap f y (x ∷ xs) (inl e) = (x, inl refl, e)
in_unmap f y (x ∷ xs) (inr m) = let r = in_unmap f y xs m in (r.0, inr r.1, r.2)

pub among_map : {X Y : Type 0} (f : X → Y) (x : X) (xs : List X) → Among xs x → Among (map f xs) (f x)
among_map f x xs m = in_to (f x) (map f xs) (in_map f x xs (in_from x xs m))

pub among_unmap : {X Y : Type 0} (f : X → Y) (y : Y) (xs : List X) → Among (map f xs) y → (x : X) × Among xs x × (y ≡ f x)
among_unmap f y xs m = let r = in_unmap f y xs (in_from y (map f xs) m) in (r.0, in_to r.0 xs r.1, r.2)

-- ---- two lists

pub in_left : {X : Type 0} (x : X) (xs ys : List X) → In x xs → In x (xs ++ ys)
in_left x [] ys m = absurd m
in_left x (y ∷ xs) ys (inl e) = inl e
in_left x (y ∷ xs) ys (inr m) = inr (in_left x xs ys m)

pub in_right : {X : Type 0} (x : X) (xs ys : List X) → In x ys → In x (xs ++ ys)
in_right x [] ys m = m
in_right x (y ∷ xs) ys m = inr (in_right x xs ys m)

pub in_either : {X : Type 0} (x : X) (xs ys : List X) → In x (xs ++ ys) → In x xs ⊎ In x ys
in_either x [] ys m = inr m
in_either x (y ∷ xs) ys (inl e) = inl (inl e)
in_either x (y ∷ xs) ys (inr m) = elim (in_either x xs ys m) [ inl l ↦ inl (inr l) | inr r ↦ inr r ]

pub among_left : {X : Type 0} (x : X) (xs ys : List X) → Among xs x → Among (xs ++ ys) x
among_left x xs ys m = in_to x (xs ++ ys) (in_left x xs ys (in_from x xs m))

pub among_right : {X : Type 0} (x : X) (xs ys : List X) → Among ys x → Among (xs ++ ys) x
among_right x xs ys m = in_to x (xs ++ ys) (in_right x xs ys (in_from x ys m))

pub among_either : {X : Type 0} (x : X) (xs ys : List X) → Among (xs ++ ys) x → Among xs x ⊎ Among ys x
among_either x xs ys m = elim (in_either x xs ys (in_from x (xs ++ ys) m)) [
  | inl l ↦ inl (in_to x xs l)
  | inr r ↦ inr (in_to x ys r)
]

pub among_take : {X : Type 0} (n : ℕ) (xs : List X) (x : X) → Among (take n xs) x → Among xs x
among_take n xs x m = subst (λ ys. Among ys x) (take-append-drop n xs) (among_left x (take n xs) (drop n xs) m)

-- ---- what stays

pub in_filter : {X : Type 0} (p : X → Bool) (x : X) (xs : List X) → In x (filter p xs) → In x xs × (p x ≡ true)
in_filter p x [] m = absurd m
in_filter p x (y ∷ ys) m = go (p y) refl m (in_filter p x ys)
  where
    go : (b : Bool) → p y ≡ b → In x (cond b (y ∷ filter p ys) (filter p ys)) → (In x (filter p ys) → In x ys × (p x ≡ true)) → In x (y ∷ ys) × (p x ≡ true)
    go true e (inl s) f = (inl s, ap p s ∙ e)
    go true e (inr n) f = let r = f n in (inr r.0, r.1)
    go false e n f = let r = f n in (inr r.0, r.1)

pub among_filter : {X : Type 0} (p : X → Bool) (x : X) (xs : List X) → Among (filter p xs) x → Among xs x × (p x ≡ true)
among_filter p x xs m = let r = in_filter p x xs (in_from x (filter p xs) m) in (in_to x xs r.0, r.1)

pub in_put_new : {X : Type 0} (alike : X → X → Bool) (x : X) (kept xs : List X) → In x (put_new alike kept xs) → In x kept ⊎ In x xs
in_put_new alike x kept [] m = inl m
in_put_new {X = X} alike x kept (y ∷ ys) m = go (list_any (λ z. alike z y) kept) m (λ more n. in_put_new alike x more ys n)
  where
    go : (b : Bool) → In x (put_new alike (cond b kept (kept ++ y ∷ [])) ys) → ((more : List X) → In x (put_new alike more ys) → In x more ⊎ In x ys) → In x kept ⊎ In x (y ∷ ys)
    go true n f = elim (f kept n) [ inl l ↦ inl l | inr r ↦ inr (inr r) ]
    go false n f = elim (f (kept ++ y ∷ []) n) [
      | inl l ↦ elim (in_either x kept (y ∷ []) l) [ inl old ↦ inl old | inr new ↦ elim new [ inl e ↦ inr (inl e) | inr none ↦ absurd none ] ]
      | inr r ↦ inr (inr r)
    ]

pub among_firsts : {X : Type 0} (alike : X → X → Bool) (x : X) (xs : List X) → Among (firsts alike xs) x → Among xs x
among_firsts alike x xs m = elim (in_put_new alike x [] xs (in_from x (firsts alike xs) m)) [ inl none ↦ absurd none | inr r ↦ in_to x xs r ]

in_present : {X : Type 0} (x : X) (xs : List (Option X)) → In x (present xs) → In (Some x) xs
in_present x [] m = absurd m
in_present x (None ∷ xs) m = inr (in_present x xs m)
in_present x (Some y ∷ xs) (inl e) = inl (ap (λ z. Some z) e)
in_present x (Some y ∷ xs) (inr m) = inr (in_present x xs m)

pub among_present : {X : Type 0} (x : X) (xs : List (Option X)) → Among (present xs) x → Among xs (Some x)
among_present x xs m = in_to (Some x) xs (in_present x xs (in_from x (present xs) m))

-- ---- tests

pub any_among : {X : Type 0} (p : X → Bool) (xs : List X) → list_any p xs ≡ true → (x : X) × Among xs x × (p x ≡ true)
any_among {X = X} p xs h = let r = go xs h in (r.0, in_to r.0 xs r.1, r.2)
  where
    go : (ys : List X) → list_any p ys ≡ true → (x : X) × In x ys × (p x ≡ true)
    go [] h = absurd (both_ways _ refl h)
    go (y ∷ ys) h = elim (or_cases (p y) (list_any p ys) h) [
      | inl here ↦ (y, inl refl, here)
      | inr later ↦ let r = go ys later in (r.0, inr r.1, r.2)
    ]

in_any : {X : Type 0} (p : X → Bool) (x : X) (xs : List X) → In x xs → p x ≡ true → list_any p xs ≡ true
in_any p x [] m h = absurd m
in_any p x (y ∷ ys) (inl e) h = or_left (p y) (list_any p ys) (ap p (sym e) ∙ h)
in_any p x (y ∷ ys) (inr m) h = or_right (p y) (list_any p ys) (in_any p x ys m h)

pub among_any : {X : Type 0} (p : X → Bool) (x : X) (xs : List X) → Among xs x → p x ≡ true → list_any p xs ≡ true
among_any p x xs m h = in_any p x xs (in_from x xs m) h

in_all : {X : Type 0} (p : X → Bool) (x : X) (xs : List X) → list_all p xs ≡ true → In x xs → p x ≡ true
in_all p x [] h m = absurd m
in_all p x (y ∷ ys) h (inl e) = ap p e ∙ (and_parts (p y) (list_all p ys) h).0
in_all p x (y ∷ ys) h (inr m) = in_all p x ys (and_parts (p y) (list_all p ys) h).1 m

pub among_all : {X : Type 0} (p : X → Bool) (x : X) (xs : List X) → list_all p xs ≡ true → Among xs x → p x ≡ true
among_all p x xs h m = in_all p x xs h (in_from x xs m)

pub all_from : {X : Type 0} (p : X → Bool) (xs : List X) → ((x : X) → In x xs → p x ≡ true) → list_all p xs ≡ true
all_from p [] f = refl
all_from p (y ∷ ys) f = and_from (p y) (list_all p ys) (f y (inl refl)) (all_from p ys (λ x m. f x (inr m)))

-- ---- numbers

pub has_in : (x : ℕ) (xs : List ℕ) → has xs x ≡ true → In x xs
has_in x [] h = absurd (both_ways _ refl h)
has_in x (y ∷ ys) h = elim (or_cases (eqb y x) (has ys x) h) [ inl e ↦ inl (sym (eqb-true y x e)) | inr m ↦ inr (has_in x ys m) ]

pub in_has : (x : ℕ) (xs : List ℕ) → In x xs → has xs x ≡ true
in_has x [] m = absurd m
in_has x (y ∷ ys) (inl e) = or_left (eqb y x) (has ys x) (eq-eqb y x (sym e))
in_has x (y ∷ ys) (inr m) = or_right (eqb y x) (has ys x) (in_has x ys m)

pub has_map : {X : Type 0} (f : X → ℕ) (xs : List X) (s : ℕ) → has (map f xs) s ≡ true → (x : X) × Among xs x × (s ≡ f x)
has_map f xs s h = let r = in_unmap f s xs (has_in s (map f xs) h) in (r.0, in_to r.0 xs r.1, r.2)

pub map_has : {X : Type 0} (f : X → ℕ) (x : X) (xs : List X) → Among xs x → has (map f xs) (f x) ≡ true
map_has f x xs m = in_has (f x) (map f xs) (in_map f x xs (in_from x xs m))

pub has_flat_map : {X : Type 0} (f : X → List ℕ) (xs : List X) (s : ℕ) → has (flat_map f xs) s ≡ true → (x : X) × Among xs x × (has (f x) s ≡ true)
has_flat_map {X = X} f xs s h = let r = go xs h in (r.0, in_to r.0 xs r.1, r.2)
  where
    go : (ys : List X) → has (flat_map f ys) s ≡ true → (x : X) × In x ys × (has (f x) s ≡ true)
    go [] h = absurd (both_ways _ refl h)
    go (y ∷ ys) h = elim (has_append_cases (f y) (flat_map f ys) s h) [
      | inl here ↦ (y, inl refl, here)
      | inr later ↦ let r = go ys later in (r.0, inr r.1, r.2)
    ]

pub flat_map_has : {X : Type 0} (f : X → List ℕ) (x : X) (xs : List X) (s : ℕ) → Among xs x → has (f x) s ≡ true → has (flat_map f xs) s ≡ true
flat_map_has {X = X} f x xs s m h = go xs (in_from x xs m)
  where
    go : (ys : List X) → In x ys → has (flat_map f ys) s ≡ true
    go [] n = absurd n
    go (y ∷ ys) (inl e) = has_append_left (f y) (flat_map f ys) s (subst (λ z. has (f z) s ≡ true) e h)
    go (y ∷ ys) (inr n) = has_append_right (f y) (flat_map f ys) s (go ys n)

-- the places of what meets a test
pub place_meets : {X : Type 0} (p : X → Bool) (n : ℕ) (xs : List X) (u : ℕ) → In u (places_from p n xs) → (k : ℕ) × (x : X) × (u ≡ n + k) × (slice_get xs k ≡ Some x) × (p x ≡ true)
place_meets p n [] u m = absurd m
place_meets {X = X} p n (x ∷ xs) u m = go (p x) refl m (place_meets p (n + 1) xs u)
  where
    go : (b : Bool) → p x ≡ b → In u (cond b (n ∷ places_from p (n + 1) xs) (places_from p (n + 1) xs)) → (In u (places_from p (n + 1) xs) → (k : ℕ) × (y : X) × (u ≡ (n + 1) + k) × (slice_get xs k ≡ Some y) × (p y ≡ true))
        → (k : ℕ) × (y : X) × (u ≡ n + k) × (slice_get (x ∷ xs) k ≡ Some y) × (p y ≡ true)
    go true e (inl s) f = (0, x, omega (arith, s), refl, e)
    go true e (inr l) f = let r = f l in let s = r.2 in (suc r.0, r.1, omega (arith, s), r.3, r.4)
    go false e l f = let r = f l in let s = r.2 in (suc r.0, r.1, omega (arith, s), r.3, r.4)

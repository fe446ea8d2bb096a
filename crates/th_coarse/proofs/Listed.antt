-- Members of lists that are mapped, filtered and joined.
use Rattle.std.proofs.Common.{◌≡◌, ℕ, zero, suc, ◌+◌, ◌<◌, ◌==◌, ◌⊎◌, inl, inr, Bool, true, false, cond, List, [], ◌∷◌, ◌++◌, Option, None, Some, map, refl, sym, ap, subst, ◌∙◌, arith}
use Rattle.std.specs.Prelude.{slice_get, Contains, filter, filter_map, flat_map, find}
use Rattle.std.specs.List.{list_any, cons_option, range_with_len}
use Rattle.std.proofs.lemmas.Bool.{eq-eqb, or_left, or_right}
use Rattle.th_base.specs.IdSet.{has}
use Rattle.th_syntax.proofs.Inverting.{some_is}

-- a thing stands in a list
abbrev pub In : {A : Type 0} → A → List A → Type 0
In x [] = ⊥
In x (y ∷ ys) = (y ≡ x) ⊎ In x ys

pub in_at : {A : Type 0} (xs : List A) (k : ℕ) (x : A) → slice_get xs k ≡ Some x → In x xs
in_at [] k x e = absurd cc
in_at (y ∷ xs) zero x e = inl (some_is y x e)
in_at (y ∷ xs) (suc k) x e = inr (in_at xs k x e)

pub contained : {A : Type 0} (x : A) (xs : List A) → In x xs → Contains xs x
contained x [] there = absurd there
contained x (y ∷ xs) (inl e) = (0, omega arith, e)
contained x (y ∷ xs) (inr there) = let rest = contained x xs there in (suc rest.0, omega (arith, rest.1), rest.2)

pub in_left : {A : Type 0} (x : A) (xs ys : List A) → In x xs → In x (xs ++ ys)
in_left x [] ys there = absurd there
in_left x (y ∷ xs) ys (inl e) = inl e
in_left x (y ∷ xs) ys (inr there) = inr (in_left x xs ys there)

pub in_right : {A : Type 0} (x : A) (xs ys : List A) → In x ys → In x (xs ++ ys)
in_right x [] ys there = there
in_right x (y ∷ xs) ys there = inr (in_right x xs ys there)

pub in_map : {A B : Type 0} (f : A → B) (x : A) (xs : List A) → In x xs → In (f x) (map f xs)
in_map f x [] there = absurd there
in_map f x (y ∷ xs) (inl e) = inl (ap f e)
in_map f x (y ∷ xs) (inr there) = inr (in_map f x xs there)

pub in_flat : {A B : Type 0} (f : A → List B) (x : A) (y : B) (xs : List A) → In x xs → In y (f x) → In y (flat_map f xs)
in_flat f x y [] there inside = absurd there
in_flat f x y (z ∷ xs) (inl e) inside = in_left y (f z) (flat_map f xs) (subst (λ w. In y (f w)) (sym e) inside)
in_flat f x y (z ∷ xs) (inr there) inside = in_right y (f z) (flat_map f xs) (in_flat f x y xs there inside)

kept_first : {A : Type 0} (x : A) (xs : List A) (b : Bool) → b ≡ true → In x (cond b (x ∷ xs) xs)
kept_first x xs true e = inl refl
kept_first x xs false e = absurd cc

kept_later : {A : Type 0} (x y : A) (xs : List A) (b : Bool) → In x xs → In x (cond b (y ∷ xs) xs)
kept_later x y xs true there = inr there
kept_later x y xs false there = there

pub in_filter : {A : Type 0} (p : A → Bool) (x : A) (xs : List A) → In x xs → p x ≡ true → In x (filter p xs)
in_filter p x [] there e = absurd there
in_filter p x (y ∷ xs) (inl same) e = subst (λ z. In x (cond (p z) (z ∷ filter p xs) (filter p xs))) (sym same) (kept_first x (filter p xs) (p x) e)
in_filter p x (y ∷ xs) (inr there) e = kept_later x y (filter p xs) (p y) (in_filter p x xs there e)

put_first : {B : Type 0} (o : Option B) (y : B) (ys : List B) → o ≡ Some y → In y (cons_option o ys)
put_first None y ys e = absurd cc
put_first (Some z) y ys e = inl (some_is z y e)

put_later : {B : Type 0} (o : Option B) (y : B) (ys : List B) → In y ys → In y (cons_option o ys)
put_later None y ys there = there
put_later (Some z) y ys there = inr there

pub in_filter_map : {A B : Type 0} (f : A → Option B) (x : A) (y : B) (xs : List A) → In x xs → f x ≡ Some y → In y (filter_map f xs)
in_filter_map f x y [] there e = absurd there
in_filter_map f x y (z ∷ xs) (inl same) e = put_first (f z) y (filter_map f xs) (ap f same ∙ e)
in_filter_map f x y (z ∷ xs) (inr there) e = put_later (f z) y (filter_map f xs) (in_filter_map f x y xs there e)

same_number : (n : ℕ) → (n == n) ≡ true
same_number n = eq-eqb n n refl

-- the test of a list finds what stands in it
pub has_in : (n : ℕ) (xs : List ℕ) → In n xs → has xs n ≡ true
has_in n [] there = absurd there
has_in n (y ∷ xs) (inl same) = or_left (y == n) (list_any (λ z. z == n) xs) (ap (λ k. k == n) same ∙ same_number n)
has_in n (y ∷ xs) (inr there) = or_right (y == n) (list_any (λ z. z == n) xs) (has_in n xs there)

-- a number below a limit is among those from the first on
pub in_range : (a len n : ℕ) → n < len → In (a + n) (range_with_len a len)
in_range a zero n below = absurd (omega arith)
in_range a (suc len) zero below = inl (let e : a ≡ a + 0 = omega arith in e)
in_range a (suc len) (suc n) below =
    let e : (a + 1) + n ≡ a + suc n = omega arith in
    inr (subst (λ k. In k (range_with_len (a + 1) len)) e (in_range (a + 1) len n (omega arith)))

-- where a search finds
found_or : {A : Type 0} (p : A → Bool) (y : A) (ys : List A) (x : A) (b : Bool) → p y ≡ b → cond b (Some y) (find p ys) ≡ Some x → (find p ys ≡ Some x → In x ys × (p x ≡ true)) → In x (y ∷ ys) × (p x ≡ true)
found_or p y ys x true is e rest = let same = some_is y x e in (inl same, ap p (sym same) ∙ is)
found_or p y ys x false is e rest = let found = rest e in (inr found.0, found.1)

pub found_in : {A : Type 0} (p : A → Bool) (xs : List A) (x : A) → find p xs ≡ Some x → In x xs × (p x ≡ true)
found_in p [] x e = absurd cc
found_in p (y ∷ ys) x e = found_or p y ys x (p y) refl e (found_in p ys x)

-- Lists along which each search finds the same first.
use Rattle.std.proofs.Common.{◌≡◌, ℕ, ◌+◌, ◌<◌, zero, suc, Bool, true, false, cond, ◌||◌, eqb, List, [], ◌∷◌, ◌++◌, Option, Some, None, is_some, length, take, set, get_or, refl, sym, ap, ◌∙◌, inl, inr, arith}
use Rattle.std.specs.List.{find, flat_map, list_any, slice_get}
use Rattle.std.specs.Option.{option_or, option_map_or, option_to_list}
use Rattle.std.proofs.lemmas.Bool.{eqb-true, eq-eqb, cases_Bool, or_cases, or_right, both_ways}
use Rattle.std.proofs.lemmas.List.{append-nil, append_assoc, take_more}
use Rattle.th_base.specs.Ancestors.{FindAlike, IsListing, Adds}
use Rattle.th_base.specs.declared.ancestors.Listing.{Listing}
use Rattle.th_base.specs.IdSet.{has}

pub find-append : {X : Type 0} (p : X → Bool) (xs ys : List X) → find p (xs ++ ys) ≡ option_or (find p xs) (find p ys)
find-append p [] ys = refl
find-append p (x ∷ xs) ys =
    elim (p x) as (λ b. cond b (Some x) (find p (xs ++ ys)) ≡ option_or (cond b (Some x) (find p xs)) (find p ys)) [ true ↦ refl | false ↦ find-append p xs ys ]

pub alike_append : (xs xs' ys ys' : List ℕ) → FindAlike xs xs' → FindAlike ys ys' → FindAlike (xs ++ ys) (xs' ++ ys')
alike_append xs xs' ys ys' a b p = find-append p xs ys ∙ rw (a p, b p) (sym (find-append p xs' ys'))

-- what is found among listed classes is found at once
found_among : (p : ℕ → Bool) (xs : List ℕ) (x : ℕ) → has xs x ≡ true → p x ≡ true → is_some (find p xs) ≡ true
found_among p [] x h g = absurd (both_ways _ refl h)
found_among p (y ∷ ys) x h g =
    elim (p y) as (λ b. p y ≡ b → is_some (cond b (Some y) (find p ys)) ≡ true) [
      | true ↦ λ e. refl
      | false ↦ λ e. elim (or_cases (eqb y x) (has ys x) h) [
        | inl same ↦ absurd (both_ways _ e (ap p (eqb-true y x same) ∙ g))
        | inr later ↦ found_among p ys x later g
      ]
    ] refl

keeps_first : {X : Type 0} (o r : Option X) → is_some o ≡ true → option_or o r ≡ o
keeps_first (Some x) r h = refl
keeps_first None r h = cc

none_after : {X : Type 0} (o : Option X) → option_or o None ≡ o
none_after (Some x) = refl
none_after None = refl

-- a class that is listed needn't be listed again
pub alike_listed : (xs : List ℕ) (x : ℕ) → has xs x ≡ true → FindAlike xs (xs ++ x ∷ [])
alike_listed xs x h p =
    sym (find-append p xs (x ∷ []) ∙ elim (cases_Bool (p x)) [
      | inl passes ↦ keeps_first (find p xs) (find p (x ∷ [])) (found_among p xs x h passes)
      | inr fails ↦ rw fails (none_after (find p xs))
    ])

any_is_found : (p : ℕ → Bool) (xs : List ℕ) → list_any p xs ≡ is_some (find p xs)
any_is_found p [] = refl
any_is_found p (x ∷ xs) = elim (p x) as (λ b. (b || list_any p xs) ≡ is_some (cond b (Some x) (find p xs))) [ true ↦ refl | false ↦ any_is_found p xs ]

pub alike_any : (p : ℕ → Bool) (xs ys : List ℕ) → FindAlike xs ys → list_any p xs ≡ list_any p ys
alike_any p xs ys a = any_is_found p xs ∙ ap is_some (a p) ∙ sym (any_is_found p ys)

pub alike_flat_map : (f g : ℕ → List ℕ) (xs : List ℕ) → ((x : ℕ) → has xs x ≡ true → FindAlike (f x) (g x)) → FindAlike (flat_map f xs) (flat_map g xs)
alike_flat_map f g [] h = λ p. refl
alike_flat_map f g (x ∷ xs) h =
    alike_append (f x) (g x) (flat_map f xs) (flat_map g xs) (h x (rw (eq-eqb x x refl) refl))
    (alike_flat_map f g xs (λ y k. h y (or_right (eqb x y) (has xs y) k)))

pub alike_cons : (x : ℕ) (xs ys : List ℕ) → FindAlike xs ys → FindAlike (x ∷ xs) (x ∷ ys)
alike_cons x xs ys a p = ap (λ o. cond (p x) (Some x) o) (a p)

-- ---- listings

pub adds_none : (l : Listing) → IsListing l.seen.items l.items.items → Adds l l []
adds_none l h = record { listing = h; alike = λ p. ap (find p) (sym (append-nil l.items.items)); room = refl }

pub adds_both : (a b c : Listing) (xs ys : List ℕ) → Adds a b xs → Adds b c ys → Adds a c (xs ++ ys)
adds_both a b c xs ys f g = record {
  listing = g.listing;
  alike = λ p. g.alike p ∙ alike_append b.items.items (a.items.items ++ xs) ys ys f.alike (λ q. refl) p ∙ ap (find p) (append_assoc a.items.items xs ys);
  room = g.room ∙ f.room;
}

pub adds_more : (a b c : Listing) (more : List ℕ) (i : ℕ) → i < length more → Adds a b (take i more) → Adds b c (get_or more i 0 ∷ []) → Adds a c (take (i + 1) more)
adds_more a b c more i h f g = rw (take_more more i 0 h) (adds_both a b c (take i more) (get_or more i 0 ∷ []) f g)

pub adds_listed : (l : Listing) (x : ℕ) → IsListing l.seen.items l.items.items → has l.items.items x ≡ true → Adds l l (x ∷ [])
adds_listed l x h g = record { listing = h; alike = alike_listed l.items.items x g; room = refl }

-- what is added to an empty list is what is listed
pub alike_from_empty : (a b : Listing) (xs : List ℕ) → Adds a b xs → a.items.items ≡ [] → FindAlike b.items.items xs
alike_from_empty a b xs f e p = f.alike p ∙ ap (λ l. find p (l ++ xs)) e

-- ---- an element of a list after a write

pub slice_get-set_same : {X : Type 0} (xs : List X) (i : ℕ) (y : X) → i < length xs → slice_get (set xs i y) i ≡ Some y
slice_get-set_same [] i y h = absurd (omega arith)
slice_get-set_same (x ∷ xs) zero y h = refl
slice_get-set_same (x ∷ xs) (suc i) y h = slice_get-set_same xs i y (omega arith)

pub slice_get-set_other : {X : Type 0} (xs : List X) (i j : ℕ) (y : X) → (j ≡ i → ⊥) → slice_get (set xs i y) j ≡ slice_get xs j
slice_get-set_other [] i j y ne = refl
slice_get-set_other (x ∷ xs) zero zero y ne = absurd (ne refl)
slice_get-set_other (x ∷ xs) zero (suc j) y ne = refl
slice_get-set_other (x ∷ xs) (suc i) zero y ne = refl
slice_get-set_other (x ∷ xs) (suc i) (suc j) y ne = slice_get-set_other xs i j y (λ e. ne (ap (λ n. suc n) e))

-- at most one superclass, as a choice and as a list
pub at_most_one : (f : ℕ → List ℕ) (o : Option ℕ) → option_map_or f o [] ≡ flat_map f (option_to_list o)
at_most_one f None = refl
at_most_one f (Some x) = sym (append-nil (f x))

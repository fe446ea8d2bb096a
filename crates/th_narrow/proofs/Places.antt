-- Items of lists, by places.
use Rattle.std.proofs.Common.{◌≡◌, ℕ, ◌+◌, ◌<◌, zero, suc, List, [], ◌∷◌, length, take, get_or, ◌⊎◌, inl, inr, refl, sym, subst, arith}
use Rattle.std.proofs.lemmas.List.{take_more}
use Rattle.th_ir.specs.Program.{Among}
use Rattle.th_query.proofs.InLists.{In, in_from, in_to, among_either, among_left, among_right}

in_place : {X : Type 0} (xs : List X) (i : ℕ) (d : X) → i < length xs → In (get_or xs i d) xs
in_place [] i d h = absurd (omega (arith, h))
in_place (x ∷ xs) zero d h = inl refl
in_place (x ∷ xs) (suc i) d h = inr (in_place xs i d (omega (arith, h)))

-- an item of one more is an item of those before, or this one
pub among_more : {X : Type 0} (x : X) (xs : List X) (i : ℕ) (d : X) → i < length xs → Among (take (i + 1) xs) x → Among (take i xs) x ⊎ (x ≡ get_or xs i d)
among_more x xs i d h m = elim (among_either x (take i xs) (get_or xs i d ∷ []) (subst (λ ys. Among ys x) (take_more xs i d h) m)) [
  | inl old ↦ inl old
  | inr new ↦ elim (in_from x (get_or xs i d ∷ []) new) [ inl e ↦ inr e | inr none ↦ absurd none ]
]

-- what stands before a place stands before the next, and so does the item at the place
pub take_grows : {X : Type 0} (y : X) (xs : List X) (i : ℕ) (d : X) → i < length xs → Among (take i xs) y → Among (take (i + 1) xs) y
take_grows y xs i d h m = subst (λ ys. Among ys y) (sym (take_more xs i d h)) (among_left y (take i xs) (get_or xs i d ∷ []) m)

pub take_has : {X : Type 0} (xs : List X) (i : ℕ) (d : X) → i < length xs → Among (take (i + 1) xs) (get_or xs i d)
take_has xs i d h = subst (λ ys. Among ys (get_or xs i d)) (sym (take_more xs i d h)) (among_right (get_or xs i d) (take i xs) (get_or xs i d ∷ []) (in_to (get_or xs i d) (get_or xs i d ∷ []) (inl refl)))

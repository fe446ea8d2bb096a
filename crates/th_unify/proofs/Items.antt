-- Items of lists, by places.
use Rattle.std.proofs.Common.{◌≡◌, ℕ, ◌+◌, ◌<◌, ◌≤◌, zero, suc, List, [], ◌∷◌, length, take, get_or, ◌⊎◌, inl, inr, refl, sym, subst, arith}
use Rattle.std.proofs.lemmas.List.{take_more, take_all}
use Rattle.th_ir.specs.Program.{Among}
use Rattle.th_query.proofs.InLists.{In, in_from, in_to, among_either}

in_place : {X : Type 0} (xs : List X) (i : ℕ) (d : X) → i < length xs → In (get_or xs i d) xs
in_place [] i d h = absurd (omega (arith, h))
in_place (x ∷ xs) zero d h = inl refl
in_place (x ∷ xs) (suc i) d h = inr (in_place xs i d (omega (arith, h)))

pub among_at : {X : Type 0} (xs : List X) (i : ℕ) (d : X) → i < length xs → Among xs (get_or xs i d)
among_at xs i d h = in_to (get_or xs i d) xs (in_place xs i d h)

pub among_item : {X : Type 0} (xs : List X) (i : ℕ) (x : X) → i < length xs → x ≡ get_or xs i x → Among xs x
among_item xs i x h e = subst (λ y. Among xs y) (sym e) (among_at xs i x h)

-- an item of one more is an item of those before, or this one
pub among_more : {X : Type 0} (x : X) (xs : List X) (i : ℕ) (d : X) → i < length xs → Among (take (i + 1) xs) x → Among (take i xs) x ⊎ (x ≡ get_or xs i d)
among_more x xs i d h m = elim (among_either x (take i xs) (get_or xs i d ∷ []) (subst (λ ys. Among ys x) (take_more xs i d h) m)) [
  | inl old ↦ inl old
  | inr new ↦ elim (in_from x (get_or xs i d ∷ []) new) [ inl e ↦ inr e | inr none ↦ absurd none ]
]

-- what holds of the items before, and of this one, holds of one more
pub all_more : {X : Type 0} (P : X → Type 0) (xs : List X) (i : ℕ) (d : X) → i < length xs → ((x : X) → Among (take i xs) x → P x) → P (get_or xs i d)
    → (x : X) → Among (take (i + 1) xs) x → P x
all_more P xs i d h before here x m = elim (among_more x xs i d h m) [ inl old ↦ before x old | inr e ↦ subst P (sym e) here ]

-- where all were seen, it holds of all
pub all_seen : {X : Type 0} (P : X → Type 0) (xs : List X) (i : ℕ) → length xs ≤ i → ((x : X) → Among (take i xs) x → P x) → (x : X) → Among xs x → P x
all_seen P xs i h seen x m = seen x (subst (λ ys. Among ys x) (sym (take_all i xs h)) m)

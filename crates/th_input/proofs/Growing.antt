-- One more at the end of a list, of which something holds throughout, and a list cut at one of its items.
use Rattle.std.proofs.Common.{◌≡◌, zero, suc, ◌+◌, ◌<◌, ℕ, List, [], ◌∷◌, ◌++◌, length, take, drop, get_or, map, refl, ap, ◌∙◌, sym, arith, add-one}
use Rattle.std.specs.List.{AllByRecursion}

pub all_more : {X : Type 0} (P : X → Type 0) (xs : List X) (x : X) → AllByRecursion P xs → P x → AllByRecursion P (xs ++ x ∷ [])
all_more P [] x all last = (last, tt)
all_more P (y ∷ ys) x all last = (all.0, all_more P ys x all.1 last)

pub all_front : {X : Type 0} (P : X → Type 0) (xs ys : List X) → AllByRecursion P (xs ++ ys) → AllByRecursion P xs
all_front P [] ys all = tt
all_front P (x ∷ xs) ys all = (all.0, all_front P xs ys all.1)

pub all_behind : {X : Type 0} (P : X → Type 0) (xs ys : List X) → AllByRecursion P (xs ++ ys) → AllByRecursion P ys
all_behind P [] ys all = all
all_behind P (x ∷ xs) ys all = all_behind P xs ys all.1

cut_from : {X Y : Type 0} (f : X → Y) (xs : List X) (i : ℕ) (d : X) → i < length xs → map f xs ≡ map f (take i xs) ++ f (get_or xs i d) ∷ map f (drop (suc i) xs)
cut_from f [] i d within = absurd (let h : ⊥ = omega arith in h)
cut_from f (x ∷ xs) zero d within = refl
cut_from f (x ∷ xs) (suc i) d within = ap (λ ys. f x ∷ ys) (cut_from f xs i d (omega arith))

-- what stands before an item, the item, and what stands behind it
pub cut_at : {X Y : Type 0} (f : X → Y) (xs : List X) (i : ℕ) (d : X) → i < length xs → map f xs ≡ map f (take i xs) ++ f (get_or xs i d) ∷ map f (drop (i + 1) xs)
cut_at f xs i d within = cut_from f xs i d within ∙ ap (λ j. map f (take i xs) ++ f (get_or xs i d) ∷ map f (drop j xs)) (sym (add-one i))

-- Sets of numbers, as ascending lists.
use Rattle.std.specs.Prelude.{ℕ, ◌<◌, ◌==◌, nat_lt, Bool, not, List, [], ◌∷◌, ◌++◌, filter, ⊤}
use Rattle.std.specs.List.{list_any, AllByRecursion}

-- whether a number is in a list
abbrev pub has : List ℕ → ℕ → Bool
has xs x = list_any (λ y. y == x) xs

-- each number is below all that come after it
abbrev pub IsAscending : List ℕ → Type 0
IsAscending [] = ⊤
IsAscending (x ∷ xs) = AllByRecursion (λ y. x < y) xs × IsAscending xs

-- an ascending list with one number more: those below it, the number, those above it
abbrev pub inserted : ℕ → List ℕ → List ℕ
inserted x xs = filter (λ y. nat_lt y x) xs ++ x ∷ filter (λ y. nat_lt x y) xs

-- the numbers of either list: the second's, one after the other, inserted into the first
abbrev pub union_of : List ℕ → List ℕ → List ℕ
union_of xs [] = xs
union_of xs (y ∷ ys) = inserted y (union_of xs ys)

-- the numbers of the first list that are in the second
abbrev pub intersection_of : List ℕ → List ℕ → List ℕ
intersection_of xs ys = filter (has ys) xs

-- the numbers of the first list that are not in the second
abbrev pub difference_of : List ℕ → List ℕ → List ℕ
difference_of xs ys = filter (λ x. not (has ys x)) xs

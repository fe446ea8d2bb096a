-- Matches in turn, and the first that fits, from a place on.
use Rattle.std.specs.Prelude.{not}
use Rattle.std.specs.List.{list_all}
use Rattle.th_base.specs.IdSet.{has}
use Rattle.th_query.specs.Contradiction.{has_none}
use Rattle.std.proofs.Common.{true, ◌≡◌, ℕ, ◌+◌, ◌<◌, ◌≤◌, List, [], ◌∷◌, length, drop, get_or, Option, None, Some, refl, sym, ap, ◌∙◌}
use Rattle.std.specs.Option.{option_and_then, option_or}
use Rattle.th_base.specs.Hierarchy.{first_some}
use Rattle.th_query.specs.Subsumed.{matched_in_turn}
use Rattle.th_canonical.proofs.Ranging.{drop_at, drop_past}

from_here : {X : Type 0} (step : X → List (Option ℕ) → Option (List (Option ℕ))) (xs : List X) (i : ℕ) (x : X) (m : List (Option ℕ)) → i < length xs → x ≡ get_or xs i x
    → matched_in_turn step (drop i xs) m ≡ option_and_then (matched_in_turn step (drop (i + 1) xs)) (step x m)
from_here step xs i x m h is =
    ap (λ ys. matched_in_turn step ys m) (drop_at xs i x h) ∙ ap (λ y. option_and_then (matched_in_turn step (drop (i + 1) xs)) (step y m)) (sym is)

pub turn_more : {X : Type 0} (step : X → List (Option ℕ) → Option (List (Option ℕ))) (xs : List X) (i : ℕ) (x : X) (m n : List (Option ℕ)) (all : Option (List (Option ℕ))) → i < length xs → x ≡ get_or xs i x
    → step x m ≡ Some n → matched_in_turn step (drop i xs) m ≡ all → matched_in_turn step (drop (i + 1) xs) n ≡ all
turn_more step xs i x m n all h is e before = sym (from_here step xs i x m h is ∙ ap (option_and_then (matched_in_turn step (drop (i + 1) xs))) e) ∙ before

pub turn_none : {X : Type 0} (step : X → List (Option ℕ) → Option (List (Option ℕ))) (xs : List X) (i : ℕ) (x : X) (m : List (Option ℕ)) (all : Option (List (Option ℕ))) → i < length xs → x ≡ get_or xs i x
    → step x m ≡ None → matched_in_turn step (drop i xs) m ≡ all → all ≡ None
turn_none step xs i x m all h is e before = sym before ∙ from_here step xs i x m h is ∙ ap (option_and_then (matched_in_turn step (drop (i + 1) xs))) e

pub turn_end : {X : Type 0} (step : X → List (Option ℕ) → Option (List (Option ℕ))) (xs : List X) (i : ℕ) (m : List (Option ℕ)) (all : Option (List (Option ℕ))) → length xs ≤ i
    → matched_in_turn step (drop i xs) m ≡ all → all ≡ Some m
turn_end step xs i m all h before = sym before ∙ ap (λ ys. matched_in_turn step ys m) (drop_past xs i h)

first_here : {X Y : Type 0} (f : X → Option Y) (xs : List X) (i : ℕ) (x : X) → i < length xs → x ≡ get_or xs i x → first_some f (drop i xs) ≡ option_or (f x) (first_some f (drop (i + 1) xs))
first_here f xs i x h is = ap (first_some f) (drop_at xs i x h) ∙ ap (λ y. option_or (f y) (first_some f (drop (i + 1) xs))) (sym is)

pub first_more : {X Y : Type 0} (f : X → Option Y) (xs : List X) (i : ℕ) (x : X) (all : Option Y) → i < length xs → x ≡ get_or xs i x → f x ≡ None → first_some f (drop i xs) ≡ all → first_some f (drop (i + 1) xs) ≡ all
first_more f xs i x all h is e before = sym (first_here f xs i x h is ∙ ap (λ o. option_or o (first_some f (drop (i + 1) xs))) e) ∙ before

pub first_hit : {X Y : Type 0} (f : X → Option Y) (xs : List X) (i : ℕ) (x : X) (y : Y) (all : Option Y) → i < length xs → x ≡ get_or xs i x → f x ≡ Some y → first_some f (drop i xs) ≡ all → all ≡ Some y
first_hit f xs i x y all h is e before = sym before ∙ first_here f xs i x h is ∙ ap (λ o. option_or o (first_some f (drop (i + 1) xs))) e

pub first_end : {X Y : Type 0} (f : X → Option Y) (xs : List X) (i : ℕ) (all : Option Y) → length xs ≤ i → first_some f (drop i xs) ≡ all → all ≡ None
first_end f xs i all h before = sym before ∙ ap (first_some f) (drop_past xs i h)

pub first_more_at : {X Y : Type 0} (f : X → Option Y) (xs : List X) (i : ℕ) (d : X) (all : Option Y) → i < length xs → f (get_or xs i d) ≡ None → first_some f (drop i xs) ≡ all → first_some f (drop (i + 1) xs) ≡ all
first_more_at f xs i d all h e before = sym (ap (first_some f) (drop_at xs i d h) ∙ ap (λ o. option_or o (first_some f (drop (i + 1) xs))) e) ∙ before

-- ---- no sites

pub in_nothing : (xs : List ℕ) → list_all (has []) xs ≡ has_none xs
in_nothing [] = refl
in_nothing (x ∷ xs) = refl

pub none_in_nothing : (xs : List ℕ) → list_all (λ a. not (has [] a)) xs ≡ true
none_in_nothing [] = refl
none_in_nothing (x ∷ xs) = none_in_nothing xs

-- Private to the hierarchy: where the member of each number stands.
use Rattle.std.specs.Prelude.{ℕ, ◌≡◌, ◌+◌, ◌==◌, List, [], ◌∷◌, map, Option, None}
use Rattle.std.specs.List.{position_from}
use Rattle.std.specs.Option.{option_or, option_map}
use Rattle.std.specs.Ordering.{nat_cmp}
use Rattle.std.specs.BTreeMap as tree
use Rattle.th_base.specs.declared.class.ClassInfo.{ClassInfo}
use Rattle.th_base.specs.declared.numbered.Place.{Place}

-- the numbers of the members of each class
abbrev pub field_numbers : List ClassInfo → List (List ℕ)
field_numbers classes = map (λ k. map (λ f. f.id.0) k.fields) classes

abbrev pub method_numbers : List ClassInfo → List (List ℕ)
method_numbers classes = map (λ k. map (λ m. m.id.0) k.methods) classes

-- the first place of a number among a class's
abbrev pub own_place : ℕ → List ℕ → ℕ → Option Place
own_place class numbers n = option_map (λ at. record { class = class; at = at }) (position_from (λ x. x == n) 0 numbers)

-- the first place of a number in lists of numbers by class, from this class on
abbrev pub place_from : ℕ → List (List ℕ) → ℕ → Option Place
place_from class [] n = None
place_from class (own ∷ more) n = option_or (own_place class own n) (place_from (class + 1) more n)

-- what a table has for a number
abbrev pub place_in : tree.BTreeMap ℕ Place → ℕ → Option Place
place_in places n = tree.get nat_cmp places n

abbrev pub FindsPlaces : List (List ℕ) → tree.BTreeMap ℕ Place → Type 0
FindsPlaces numbers places = (n : ℕ) → place_in places n ≡ place_from 0 numbers n

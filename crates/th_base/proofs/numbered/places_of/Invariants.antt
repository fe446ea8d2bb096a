use Rattle.std.proofs.Common.{◌≡◌, ℕ, take}
use Rattle.th_base.specs.Numbered.{place_in, place_from}
use Rattle.th_base.proofs.numbered.places_of.Given as goal

-- the members of the classes so far stand in the table
abbrev pub invariant-loop-class : goal.invariant-loop-class
invariant-loop-class l = (n : ℕ) → place_in l.places n ≡ place_from 0 (take l.class l.numbers) n

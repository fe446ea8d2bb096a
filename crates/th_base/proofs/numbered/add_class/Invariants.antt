use Rattle.std.proofs.Common.{◌≡◌, ℕ, take}
use Rattle.std.specs.Option.{option_or}
use Rattle.th_base.specs.Numbered.{place_in, own_place}
use Rattle.th_base.proofs.numbered.add_class.Given as goal

-- the places of the members so far are added
abbrev pub invariant-loop-at : goal.invariant-loop-at
invariant-loop-at l = (n : ℕ) → place_in l.places n ≡ option_or (place_in l.fn.places n) (own_place l.class (take l.at l.numbers) n)

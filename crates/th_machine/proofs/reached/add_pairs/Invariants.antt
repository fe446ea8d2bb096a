use Rattle.std.proofs.Common.{◌≡◌, ◌++◌, map, take}
use Rattle.th_machine.specs.Reaching.{pair_of}
use Rattle.th_machine.proofs.reached.add_pairs.Given as goal

-- the pairs with the classes so far are added
abbrev pub invariant-loop-class : goal.invariant-loop-class
invariant-loop-class l = l.pairs.items ≡ l.initial.pairs.items ++ map (pair_of l.field.0) (take l.class-index l.classes)

use Rattle.std.proofs.Common.{◌≡◌, map, take}
use Rattle.th_kinds.proofs.walk.jumps.Given as goal

abbrev pub invariant-loop-pair : goal.invariant-loop-pair
invariant-loop-pair l = l.all.items ≡ map (λ pair. pair.1) (take l.pair-index l.pair-items)

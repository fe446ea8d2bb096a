use Rattle.std.proofs.Common.{take}
use Rattle.th_reach.specs.Visit.{Adds}
use Rattle.th_reach.proofs.visit.add_all.Given as goal

-- the offsets so far are added
abbrev pub invariant-loop-offset : goal.invariant-loop-offset
invariant-loop-offset l = Adds l.initial.found.keys l.found.keys (take l.offset-index l.offsets)

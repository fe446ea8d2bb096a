use Rattle.std.proofs.Common.{length}
use Rattle.th_code.proofs.Steps.{Passes}
use Rattle.th_code.proofs.code_array.read_instrs.Given as goal

abbrev pub invariant-loop-place : goal.invariant-loop-place
invariant-loop-place l = Passes l.pool l.max_locals l.at l.code l.instrs.items l.starts.items l.place.at l.place.rest.now

abbrev pub decreases-loop-place : goal.decreases-loop-place
decreases-loop-place l = length l.place.rest.now

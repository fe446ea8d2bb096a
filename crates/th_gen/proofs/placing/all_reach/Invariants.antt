use Rattle.std.proofs.Common.{◌≡◌, drop}
use Rattle.th_gen.specs.Placing as spec
use Rattle.th_gen.proofs.placing.all_reach.Given as goal

-- all reach where those that are left do
abbrev pub invariant-loop-place : goal.invariant-loop-place
invariant-loop-place l = spec.all_reach l.starts (drop l.place l.starts) (drop l.place l.instrs) ≡ spec.all_reach l.starts l.starts l.instrs

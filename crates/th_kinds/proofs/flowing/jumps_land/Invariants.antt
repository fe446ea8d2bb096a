use Rattle.std.proofs.Common.{ℕ, ◌<◌, All, Contains}
use Rattle.th_kinds.specs.Flowing.{line, jumps}
use Rattle.th_kinds.proofs.flowing.jumps_land.Given as goal

abbrev pub invariant-loop-place : goal.invariant-loop-place
invariant-loop-place l = (k : ℕ) → k < l.place → All (λ target. Contains l.offsets target) (jumps (line l.instrs k).1)

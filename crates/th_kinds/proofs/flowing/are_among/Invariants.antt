use Rattle.std.proofs.Common.{ℕ, ◌<◌, Contains, slice_index}
use Rattle.th_kinds.proofs.flowing.are_among.Given as goal

abbrev pub invariant-loop-target : goal.invariant-loop-target
invariant-loop-target l = (t : ℕ) → t < l.target-index → Contains l.offsets (slice_index l.targets t)

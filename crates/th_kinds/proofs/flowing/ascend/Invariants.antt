use Rattle.std.proofs.Common.{ℕ, ◌<◌, slice_index}
use Rattle.th_kinds.proofs.flowing.ascend.Given as goal

abbrev pub invariant-loop-at : goal.invariant-loop-at
invariant-loop-at l = (i j : ℕ) → i < j → j < l.at → slice_index l.offsets i < slice_index l.offsets j

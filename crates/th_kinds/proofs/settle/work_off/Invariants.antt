use Rattle.std.proofs.Common.{◌≡◌, ℕ, ◌≤◌}
use Rattle.th_syntax.specs.Kinds.{KindsAt}
use Rattle.th_kinds.specs.Kept.{seen_kept, kept_room, kept_places, work_left, IsUnder, IsStable}
use Rattle.th_kinds.proofs.settle.work_off.Given as goal

abbrev pub invariant-loop-place : goal.invariant-loop-place
invariant-loop-place l = record {
  under : (first : KindsAt) (u : ℕ → KindsAt) → IsStable first l.code.instrs.now l.code.offsets.items u → IsUnder (seen_kept l.initial.kept) u → IsUnder (seen_kept l.kept) u;
  places : kept_places l.kept ≡ kept_places l.initial.kept;
  most : kept_room l.kept ≤ kept_room l.initial.kept;
}

abbrev pub decreases-loop-place : goal.decreases-loop-place
decreases-loop-place l = work_left l.kept l.queue

use Rattle.std.proofs.Common.{◌≡◌, ℕ}
use Rattle.th_syntax.specs.Kinds.{KindsAt}
use Rattle.th_kinds.specs.States.{seen_state}
use Rattle.th_kinds.specs.Kept.{seen_kept, kept_room, kept_places, IsUnder, IsStable}
use Rattle.th_kinds.proofs.settle.settle.Given as goal

abbrev pub invariant-loop-queue : goal.invariant-loop-queue
invariant-loop-queue l = record {
  under : (u : ℕ → KindsAt) → IsStable (seen_state l.entry) l.code.instrs.now l.code.offsets.items u → IsUnder (seen_kept l.fn.kept) u → IsUnder (seen_kept l.kept) u;
  places : kept_places l.kept ≡ kept_places l.fn.kept;
}

abbrev pub decreases-loop-queue : goal.decreases-loop-queue
decreases-loop-queue l = kept_room l.kept

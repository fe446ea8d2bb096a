use Rattle.std.proofs.Common.{◌≡◌, ℕ, ◌-◌, ◌<◌, ◌≤◌, length}
use Rattle.th_syntax.specs.Kinds.{KindsAt}
use Rattle.th_syntax.specs.KindTable.{IsHeld}
use Rattle.th_kinds.specs.States.{seen_state}
use Rattle.th_kinds.specs.Kept.{seen_kept, kept_room, kept_places, work_left, IsUnder, IsStable}
use Rattle.th_kinds.proofs.settle.follow.Given as goal

abbrev pub invariant-loop-place : goal.invariant-loop-place
invariant-loop-place l = record {
  under : (first : KindsAt) (u : ℕ → KindsAt) → IsStable first l.code.instrs.now l.code.offsets.items u → IsHeld (seen_state l.initial.fallen) (u l.initial.place) → IsUnder (seen_kept l.initial.kept) u → IsUnder (seen_kept l.kept) u;
  fall : (first : KindsAt) (u : ℕ → KindsAt) → IsStable first l.code.instrs.now l.code.offsets.items u → IsHeld (seen_state l.initial.fallen) (u l.initial.place) → IsUnder (seen_kept l.initial.kept) u → l.place < length l.code.instrs.now → IsHeld (seen_state l.fallen) (u l.place);
  places : kept_places l.kept ≡ kept_places l.initial.kept;
  most : kept_room l.kept ≤ kept_room l.initial.kept;
  work : work_left l.kept l.queue ≤ work_left l.initial.kept l.initial.queue;
}

abbrev pub decreases-loop-place : goal.decreases-loop-place
decreases-loop-place l = length l.code.instrs.now - l.place

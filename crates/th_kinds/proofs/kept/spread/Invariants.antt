use Rattle.std.proofs.Common.{◌≡◌, ℕ, ◌<◌, ◌≤◌, true, false, slice_index}
use Rattle.th_syntax.specs.Kinds.{KindsAt}
use Rattle.th_kinds.specs.States.{seen_state}
use Rattle.th_kinds.specs.Kept.{seen_kept, kept_room, kept_places, work_left, IsUnder, IsUnderAt, IsHeldFor}
use Rattle.th_kinds.proofs.kept.spread.Given as goal

abbrev pub invariant-loop-target : goal.invariant-loop-target
invariant-loop-target l = record {
  under : (u : ℕ → KindsAt) → IsUnder (seen_kept l.initial.kept) u → IsUnderAt u l.offsets l.targets (seen_state l.brought) → IsUnder (seen_kept l.kept) u;
  places : kept_places l.kept ≡ kept_places l.initial.kept;
  same : l.changed ≡ false → seen_kept l.kept ≡ seen_kept l.initial.kept;
  held : l.changed ≡ false → (t : ℕ) → t < l.target-index → IsHeldFor (seen_kept l.initial.kept) l.offsets (slice_index l.targets t) (seen_state l.brought);
  less : l.changed ≡ true → kept_room l.kept < kept_room l.initial.kept;
  most : kept_room l.kept ≤ kept_room l.initial.kept;
  work : work_left l.kept l.queue ≤ work_left l.initial.kept l.initial.queue;
}

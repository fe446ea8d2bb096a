use Rattle.std.proofs.Common.{◌≡◌, ℕ, ◌<◌, ◌≤◌, true, false, length}
use Rattle.th_syntax.specs.Kinds.{KindsAt}
use Rattle.th_syntax.specs.KindTable.{IsHeld}
use Rattle.th_kinds.specs.States.{seen_state}
use Rattle.th_kinds.specs.Walk.{falls_in}
use Rattle.th_kinds.specs.Kept.{seen_kept, kept_room, kept_places, IsUnder, IsStable, IsStill}
use Rattle.th_kinds.proofs.walk.round.Given as goal

abbrev pub invariant-loop-place : goal.invariant-loop-place
invariant-loop-place l = record {
  under : (u : ℕ → KindsAt) → IsStable (seen_state l.entry) l.code.instrs.now l.code.offsets.items u → IsUnder (seen_kept l.initial.kept) u → IsUnder (seen_kept l.kept) u;
  fall : (u : ℕ → KindsAt) → IsStable (seen_state l.entry) l.code.instrs.now l.code.offsets.items u → IsUnder (seen_kept l.initial.kept) u → l.place < length l.code.instrs.now → IsHeld (seen_state l.fallen) (u l.place);
  places : kept_places l.kept ≡ kept_places l.initial.kept;
  same : l.changed ≡ false → seen_kept l.kept ≡ seen_kept l.initial.kept;
  state : l.changed ≡ false → seen_state l.fallen ≡ falls_in (seen_state l.entry) l.code.instrs.now (seen_kept l.initial.kept) l.place;
  still : l.changed ≡ false → (k : ℕ) → k < l.place → IsStill (seen_state l.entry) l.code.instrs.now l.code.offsets.items (seen_kept l.initial.kept) k;
  less : l.changed ≡ true → kept_room l.kept < kept_room l.initial.kept;
  most : kept_room l.kept ≤ kept_room l.initial.kept;
}

use Rattle.std.proofs.Common.{◌≡◌, ℕ, ◌<◌, false, true, length, Contains, slice_index, get_or}
use Rattle.th_kinds.specs.Flowing.{line, jumps}
use Rattle.th_kinds.specs.Kept.{seen_kept, kept_places, IsNothing}
use Rattle.th_kinds.proofs.first.mark_jumps.Given as goal

abbrev pub invariant-loop-place : goal.invariant-loop-place
invariant-loop-place l = record {
  nothing : IsNothing (seen_kept l.initial.kept) → IsNothing (seen_kept l.kept);
  marked : (k : ℕ) → k < l.place → (j : ℕ) → j < length l.code.offsets.items → Contains (jumps (line l.code.instrs.now k).1) (slice_index l.code.offsets.items j) → get_or (kept_places l.kept) j false ≡ true;
}

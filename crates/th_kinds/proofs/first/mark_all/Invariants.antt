use Rattle.std.proofs.Common.{◌≡◌, ℕ, ◌<◌, false, true, length, slice_index, get_or}
use Rattle.th_kinds.specs.Kept.{seen_kept, kept_places, IsNothing}
use Rattle.th_kinds.proofs.first.mark_all.Given as goal

abbrev pub invariant-loop-target : goal.invariant-loop-target
invariant-loop-target l = record {
  nothing : IsNothing (seen_kept l.initial.kept) → IsNothing (seen_kept l.kept);
  marked : (t : ℕ) → t < l.target-index → (j : ℕ) → j < length l.offsets → slice_index l.offsets j ≡ slice_index l.targets t → get_or (kept_places l.kept) j false ≡ true;
  more : (k : ℕ) → get_or (kept_places l.initial.kept) k false ≡ true → get_or (kept_places l.kept) k false ≡ true;
}

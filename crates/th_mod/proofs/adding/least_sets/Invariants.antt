use Rattle.std.proofs.Common.{◌≡◌, ◌≤◌, length, take}
use Rattle.th_mod.specs.Told.{system_of}
use Rattle.th_mod.proofs.adding.least_sets.Given as goal

abbrev pub invariant-loop-place : goal.invariant-loop-place
invariant-loop-place l = record {
  bases : l.bases_added ≤ length l.base;
  copies : l.copies_added ≤ length l.copies;
  added : l.solver.constraints ≡ system_of l.sets (take l.bases_added l.base) (take l.copies_added l.copies) l.fn.passing;
}

use Rattle.std.proofs.Common.{◌≡◌, ◌≤◌, ◌+◌, ℕ, take, drop, length}
use Rattle.th_incl.specs.Least.{set_at}
use Rattle.th_points_to.proofs.listing.take_sets.Given as goal

abbrev pub invariant-loop-at : goal.invariant-loop-at
invariant-loop-at l = record {
  within : l.at ≤ l.count;
  taken : l.taken ≡ take l.at (drop l.first l.fn.sets);
  left : (k : ℕ) → l.first + l.at ≤ k → set_at l.sets k ≡ set_at l.fn.sets k;
  len : length l.sets ≡ length l.fn.sets;
}

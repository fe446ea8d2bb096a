use Rattle.std.proofs.Common.{◌≡◌, ℕ, ◌<◌, length, take}
use Rattle.th_graph.specs.Searching.{row_at, row_of}
use Rattle.th_graph.proofs.targets.rows_by.Given as goal

-- the rows have the keys so far
abbrev pub invariant-loop-place : goal.invariant-loop-place
invariant-loop-place l = record {
  count : length l.rows.items ≡ l.count;
  rows : (r : ℕ) → r < l.count → row_at l.rows.items r ≡ row_of r (take l.place l.keys);
}

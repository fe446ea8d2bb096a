use Rattle.std.proofs.Common.{◌≡◌, ℕ, length, take}
use Rattle.th_paths.specs.Links.{row_at, row_of}
use Rattle.th_paths.proofs.links.rows_of.Given as goal

-- the rows of the edges so far
abbrev pub invariant-loop-number : goal.invariant-loop-number
invariant-loop-number l = record {
  count : length l.rows.items ≡ length l.edges;
  rows : (r : ℕ) → row_at l.rows.items r ≡ row_of l.edges r (take l.number l.edges);
}

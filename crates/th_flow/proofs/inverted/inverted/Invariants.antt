use Rattle.std.proofs.Common.{◌≡◌, ℕ, ◌<◌, length, take}
use Rattle.th_flow.specs.Inverted.{row_at, places_with}
use Rattle.th_flow.proofs.inverted.inverted.Given as goal

-- the rows have the lists so far
abbrev pub invariant-loop-place : goal.invariant-loop-place
invariant-loop-place l = record {
  count : length l.rows.items ≡ l.count;
  rows : (r : ℕ) → r < l.count → row_at l.rows.items r ≡ places_with r (take l.place l.lists);
}

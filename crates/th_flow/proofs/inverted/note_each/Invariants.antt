use Rattle.std.proofs.Common.{◌≡◌, ℕ, ◌<◌, ◌++◌, ◌∷◌, [], length, take, if◌then◌else◌}
use Rattle.th_base.specs.IdSet.{has}
use Rattle.th_flow.specs.Inverted.{row_at}
use Rattle.th_flow.proofs.inverted.note_each.Given as goal

-- the rows that the list's numbers so far name have the place
abbrev pub invariant-loop-row : goal.invariant-loop-row
invariant-loop-row l = record {
  count : length l.rows.items ≡ length l.fn.rows.items;
  rows : (r : ℕ) → r < length l.fn.rows.items
      → row_at l.rows.items r ≡ row_at l.fn.rows.items r ++ (if has (take l.row-index l.list) r then l.place ∷ [] else []);
}

use Rattle.std.proofs.Common.{◌≡◌, ◌+◌, ℕ, false, take, length, Some, slice_get}
use Rattle.std.specs.List.{list_any}
use Rattle.th_incl.specs.Least.{set_at}
use Rattle.th_points_to.specs.Listing.{cell_set, cells_of, is_pair}
use Rattle.th_points_to.proofs.listing.take_each.Given as goal

abbrev pub invariant-loop-cell : goal.invariant-loop-cell
invariant-loop-cell l = record {
  taken : l.list ≡ cells_of (cell_set l.cells.keys (λ place. set_at l.fn.sets (l.first + place))) (take l.cell-index l.ordered);
  left : (k : ℕ) (d : ℕ × ℕ) → slice_get l.cells.keys k ≡ Some d → list_any (is_pair d) (take l.cell-index l.ordered) ≡ false
      → set_at l.sets (l.first + k) ≡ set_at l.fn.sets (l.first + k);
  len : length l.sets ≡ length l.fn.sets;
}

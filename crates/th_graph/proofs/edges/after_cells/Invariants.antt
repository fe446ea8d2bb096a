use Rattle.std.proofs.Common.{◌≡◌, take, length}
use Rattle.std.specs.List.{flat_map}
use Rattle.th_graph.specs.Tables.{edges_of_cell, left_after}
use Rattle.th_graph.proofs.edges.after_cells.Given as goal

abbrev pub invariant-loop-cell : goal.invariant-loop-cell
invariant-loop-cell l = l.left ≡ left_after l.fn.left (length (flat_map edges_of_cell (take l.cell-index l.cells)))

use Rattle.std.proofs.Common.{◌≡◌, ◌++◌, take}
use Rattle.std.specs.List.{flat_map}
use Rattle.th_graph.specs.Tables.{edges_of_cell}
use Rattle.th_graph.proofs.edges.add_cells.Given as goal

abbrev pub invariant-loop-cell : goal.invariant-loop-cell
invariant-loop-cell l = l.edges.items ≡ l.fn.edges.items ++ flat_map edges_of_cell (take l.cell-index l.cells)

use Rattle.std.proofs.Common.{◌≡◌, ◌++◌, take}
use Rattle.th_graph.specs.Tables.{edges_of_cell}
use Rattle.th_graph.proofs.edges.add_cell.Given as goal

abbrev pub invariant-loop-site : goal.invariant-loop-site
invariant-loop-site l = l.edges.items ≡ l.fn.edges.items ++ edges_of_cell (l.from, l.field, take l.site-index l.sites)

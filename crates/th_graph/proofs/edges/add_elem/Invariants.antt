use Rattle.std.proofs.Common.{◌≡◌, ◌++◌, take}
use Rattle.th_graph.specs.Tables.{edges_of_elem}
use Rattle.th_graph.proofs.edges.add_elem.Given as goal

abbrev pub invariant-loop-site : goal.invariant-loop-site
invariant-loop-site l = l.edges.items ≡ l.fn.edges.items ++ edges_of_elem (l.from, take l.site-index l.sites)

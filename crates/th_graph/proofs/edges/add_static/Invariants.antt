use Rattle.std.proofs.Common.{◌≡◌, ◌++◌, take}
use Rattle.th_graph.specs.Tables.{edges_of_static}
use Rattle.th_graph.proofs.edges.add_static.Given as goal

abbrev pub invariant-loop-site : goal.invariant-loop-site
invariant-loop-site l = l.edges.items ≡ l.fn.edges.items ++ edges_of_static l.field (take l.site-index l.sites)

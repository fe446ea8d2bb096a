use Rattle.std.proofs.Common.{◌≡◌, ◌++◌, take}
use Rattle.std.specs.List.{flat_map}
use Rattle.th_graph.specs.Tables.{edges_of_elem}
use Rattle.th_graph.proofs.edges.add_elems.Given as goal

abbrev pub invariant-loop-elem : goal.invariant-loop-elem
invariant-loop-elem l = l.edges.items ≡ l.fn.edges.items ++ flat_map edges_of_elem (take l.elem-index l.elems)

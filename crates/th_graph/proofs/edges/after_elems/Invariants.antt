use Rattle.std.proofs.Common.{◌≡◌, take, length}
use Rattle.std.specs.List.{flat_map}
use Rattle.th_graph.specs.Tables.{edges_of_elem, left_after}
use Rattle.th_graph.proofs.edges.after_elems.Given as goal

abbrev pub invariant-loop-elem : goal.invariant-loop-elem
invariant-loop-elem l = l.left ≡ left_after l.fn.left (length (flat_map edges_of_elem (take l.elem-index l.elems)))

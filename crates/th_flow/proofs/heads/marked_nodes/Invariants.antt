use Rattle.std.proofs.Common.{◌≡◌, take}
use Rattle.th_ir.specs.WellFormed.{places_from}
use Rattle.th_flow.proofs.heads.marked_nodes.Given as goal

abbrev pub invariant-loop-place : goal.invariant-loop-place
invariant-loop-place l = l.marked.items ≡ places_from (λ n. n.loop_head) 0 (take l.place l.nodes)

use Rattle.std.proofs.Common.{◌≡◌, map, take}
use Rattle.th_flow.specs.Inverted.{successor_numbers}
use Rattle.th_flow.proofs.sources.successor_lists.Given as goal

abbrev pub invariant-loop-node : goal.invariant-loop-node
invariant-loop-node l = l.lists.items ≡ map successor_numbers (take l.node-index l.nodes)

abbrev pub invariant-loop-next : goal.invariant-loop-next
invariant-loop-next l = l.list.items ≡ map (λ t. t.0) (take l.next-index l.next-items)

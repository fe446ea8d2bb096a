use Rattle.std.proofs.Common.{◌≡◌, map, take}
use Rattle.th_flow.specs.Inverted.{entered_by}
use Rattle.th_flow.proofs.initialising.entered_lists.Given as goal

abbrev pub invariant-loop-node : goal.invariant-loop-node
invariant-loop-node l = l.lists.items ≡ map (λ n. entered_by l.hierarchy n.stmt) (take l.node-index l.nodes)

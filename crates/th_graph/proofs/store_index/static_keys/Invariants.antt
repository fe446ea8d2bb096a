use Rattle.std.proofs.Common.{◌≡◌, map, take}
use Rattle.th_graph.specs.Stores.{static_key}
use Rattle.th_graph.proofs.store_index.static_keys.Given as goal

abbrev pub invariant-loop-node : goal.invariant-loop-node
invariant-loop-node l = l.keys.items ≡ map (static_key l.count) (take l.node-index l.nodes)

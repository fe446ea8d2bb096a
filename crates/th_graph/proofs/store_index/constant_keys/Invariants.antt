use Rattle.std.proofs.Common.{◌≡◌, map, take}
use Rattle.th_graph.specs.Stores.{constant_key}
use Rattle.th_graph.proofs.store_index.constant_keys.Given as goal

abbrev pub invariant-loop-held : goal.invariant-loop-held
invariant-loop-held l = l.keys.items ≡ map (constant_key l.count) (take l.held-index l.strings)

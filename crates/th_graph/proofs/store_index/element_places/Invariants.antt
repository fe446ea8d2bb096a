use Rattle.std.proofs.Common.{◌≡◌, take}
use Rattle.th_graph.specs.Stores.{element_places}
use Rattle.th_graph.proofs.store_index.element_places.Given as goal

abbrev pub invariant-loop-place : goal.invariant-loop-place
invariant-loop-place l = l.places.items ≡ element_places (take l.place l.nodes)

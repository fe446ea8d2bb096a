use Rattle.std.proofs.Common.{◌≡◌, ℕ, take}
use Rattle.std.specs.List.{list_any}
use Rattle.th_base.specs.IdSet.{has}
use Rattle.th_graph.specs.Searching.{is_root}
use Rattle.th_graph.proofs.alarm_search.roots_of.Given as goal

abbrev pub invariant-loop-edge : goal.invariant-loop-edge
invariant-loop-edge l = (f : ℕ) → has l.roots f ≡ list_any (is_root f) (take l.edge-index l.edges)

use Rattle.std.proofs.Common.{◌≡◌, take}
use Rattle.th_edge_table.specs.Core.{opening, AllAllowed, replayed}
use Rattle.th_edge_table.proofs.events.replay.Given as goal

abbrev pub invariant-loop-index : goal.invariant-loop-index
invariant-loop-index l = AllAllowed (opening l.n) (take l.index l.events) × (l.core ≡ replayed (opening l.n) (take l.index l.events))

use Rattle.std.proofs.Common.{◌≡◌, ◌++◌, take}
use Rattle.th_edge_table.proofs.state.CoreSeat.take_over.Given as goal

abbrev pub invariant-loop-entry : goal.invariant-loop-entry
invariant-loop-entry l = l.self ≡ record l.fn.self { done = l.fn.self.done ++ take l.entry-index l.done }

use Rattle.std.proofs.Common.{◌≡◌, ◌≤◌, take}
use Rattle.std.specs.Prelude.{sum_by}
use Rattle.th_syntax.specs.declared.limit.TheConstants.{MOST_PARAMETER_SLOTS}
use Rattle.th_pool.specs.Shapes.{slot_size}
use Rattle.th_pool.proofs.parse.have_room.Given as goal

abbrev pub invariant-loop-slot : goal.invariant-loop-slot
invariant-loop-slot l = (l.total ≡ sum_by slot_size (take l.slot-index l.slots)) × (l.total ≤ MOST_PARAMETER_SLOTS)

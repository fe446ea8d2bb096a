use Rattle.std.proofs.Common.{◌-◌, ◌^◌}
use Rattle.th_machine.specs.Leading.{IsSearch}
use Rattle.th_machine.proofs.leading.led_by.Given as goal

abbrev pub invariant-loop-at : goal.invariant-loop-at
invariant-loop-at l = IsSearch l.heap l.fn.value l.at l.found.keys

abbrev pub decreases-loop-at : goal.decreases-loop-at
decreases-loop-at l = 2 ^ 63 - l.at

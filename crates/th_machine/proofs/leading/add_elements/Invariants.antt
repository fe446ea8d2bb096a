use Rattle.std.proofs.Common.{take}
use Rattle.th_machine.specs.Leading.{Joins, addresses_in}
use Rattle.th_machine.proofs.leading.add_elements.Given as goal

-- the addresses among the elements so far are added
abbrev pub invariant-loop-value : goal.invariant-loop-value
invariant-loop-value l = Joins l.initial.found.keys l.found.keys (addresses_in (take l.value-index l.elements))

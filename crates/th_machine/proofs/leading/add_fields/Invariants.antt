use Rattle.std.proofs.Common.{take, map}
use Rattle.th_machine.specs.Leading.{Joins, addresses_in}
use Rattle.th_machine.proofs.leading.add_fields.Given as goal

-- the addresses among the values so far are added
abbrev pub invariant-loop-value : goal.invariant-loop-value
invariant-loop-value l = Joins l.initial.found.keys l.found.keys (addresses_in (map (λ f. f.1) (take l.value-index l.fields)))

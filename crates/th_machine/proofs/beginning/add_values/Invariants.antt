use Rattle.std.proofs.Common.{◌≡◌, ◌++◌, take}
use Rattle.th_machine.specs.Beginning.{values_of_fields}
use Rattle.th_machine.proofs.beginning.add_values.Given as goal

abbrev pub invariant-loop-member : goal.invariant-loop-member
invariant-loop-member l = l.into.items ≡ l.fn.into.items ++ values_of_fields (take l.member-index l.members)

use Rattle.std.proofs.Common.{◌≡◌, ◌++◌, take}
use Rattle.th_machine.specs.Making.{first_values}
use Rattle.th_machine.proofs.objects.add_fields.Given as goal

abbrev pub invariant-loop-field : goal.invariant-loop-field
invariant-loop-field l = l.into.items ≡ l.fn.into.items ++ first_values (take l.field-index l.fields)

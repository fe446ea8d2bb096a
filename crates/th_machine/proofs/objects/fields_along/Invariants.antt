use Rattle.std.proofs.Common.{◌≡◌, take}
use Rattle.th_machine.specs.Making.{fields_along}
use Rattle.th_machine.proofs.objects.fields_along.Given as goal

abbrev pub invariant-loop-number : goal.invariant-loop-number
invariant-loop-number l = l.fields.items ≡ fields_along l.classes (take l.number-index l.numbers)

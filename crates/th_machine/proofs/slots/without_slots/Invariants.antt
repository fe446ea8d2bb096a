use Rattle.std.proofs.Common.{◌≡◌, drop}
use Rattle.th_machine.proofs.slots.without_slots.Given as goal

abbrev pub invariant-loop : goal.invariant-loop
invariant-loop l = l.rest ≡ drop l.counter l.fn.stack

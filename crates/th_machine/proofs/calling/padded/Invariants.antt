use Rattle.std.proofs.Common.{◌≡◌, ◌++◌, replicate}
use Rattle.th_syntax.specs.declared.machine.Slot.TheVariants.{Holds}
use Rattle.th_syntax.specs.declared.machine.Value.TheVariants.{Null as NullValue}
use Rattle.th_machine.proofs.calling.padded.Given as goal

abbrev pub invariant-loop : goal.invariant-loop
invariant-loop l = l.longer.items ≡ l.fn.slots.items ++ replicate l.counter (Holds NullValue)

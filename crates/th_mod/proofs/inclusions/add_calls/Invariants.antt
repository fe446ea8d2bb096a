use Rattle.std.proofs.Common.{◌≡◌, ◌++◌, take}
use Rattle.th_mod.specs.Systems.{call_copies}
use Rattle.th_mod.proofs.inclusions.add_calls.Given as goal

abbrev pub invariant-loop-call : goal.invariant-loop-call
invariant-loop-call l = l.copies ≡ l.fn.copies ++ call_copies l.classes l.program (take l.call-index l.calls)

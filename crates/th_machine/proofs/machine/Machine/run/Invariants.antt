use Rattle.std.proofs.Common.{◌-◌}
use Rattle.th_runs.specs.Verified.{IsVerified}
use Rattle.th_machine.proofs.Ran.{IsOnTheWay}
use Rattle.th_machine.proofs.machine.Machine.run.Given as goal

-- what the machine leads to, the whole run leads to
abbrev pub invariant-loop-taken : goal.invariant-loop-taken
invariant-loop-taken l = IsVerified l.fn.self.files → IsOnTheWay l.fn.self l.machine l.fuel (l.fuel - l.taken)

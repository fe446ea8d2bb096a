use Rattle.std.proofs.Common.{◌≡◌, ◌++◌, ◌-◌, take}
use Rattle.std.specs.Prelude.{reverse}
use Rattle.th_machine.proofs.calling.arguments.Given as goal

-- what was found so far, and the slots above it
abbrev pub invariant-loop-place : goal.invariant-loop-place
invariant-loop-place l = reverse (take l.slots l.stack) ≡ l.found.items ++ reverse (take (l.slots - l.place) l.stack)

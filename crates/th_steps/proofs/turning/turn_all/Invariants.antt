use Rattle.std.proofs.Common.{◌≡◌, map}
use Rattle.th_steps.proofs.turning.turn_all.Given as goal

-- those so far are turned
abbrev pub invariant-loop-item : goal.invariant-loop-item
invariant-loop-item g l = l.all.items ≡ map (g.M.Turn.turned l.with) l.yielded

use Rattle.std.proofs.Common.{◌≡◌, map, take, drop}
use Rattle.th_steps.proofs.turning.turn_each.Given as goal

-- those before are turned
abbrev pub invariant-loop-i : goal.invariant-loop-i
invariant-loop-i g l = (take l.i l.items ≡ map (g.M.Turn.turned l.with) (take l.i l.fn.items)) × (drop l.i l.items ≡ drop l.i l.fn.items)

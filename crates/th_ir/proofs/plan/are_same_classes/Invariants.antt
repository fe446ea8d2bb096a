use Rattle.std.proofs.Common.{◌≡◌, take}
use Rattle.th_ir.proofs.plan.are_same_classes.Given as goal

-- the classes before this place are equal
abbrev pub invariant-loop-i : goal.invariant-loop-i
invariant-loop-i l = take l.i l.left ≡ take l.i l.right

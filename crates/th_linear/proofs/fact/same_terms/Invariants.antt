use Rattle.std.proofs.Common.{◌≡◌, take}
use Rattle.th_linear.proofs.fact.same_terms.Given as goal

-- the terms before this place are equal
abbrev pub invariant-loop-i : goal.invariant-loop-i
invariant-loop-i l = take l.i l.left ≡ take l.i l.right

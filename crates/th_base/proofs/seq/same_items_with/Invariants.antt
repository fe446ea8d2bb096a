use Rattle.std.proofs.Common.{◌≡◌, take}
use Rattle.th_base.proofs.seq.same_items_with.Given as goal

-- the items before this place are equal
abbrev pub invariant-loop-i : goal.invariant-loop-i
invariant-loop-i g l = take l.i l.left ≡ take l.i l.right

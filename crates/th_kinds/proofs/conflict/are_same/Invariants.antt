use Rattle.std.proofs.Common.{◌≡◌, drop}
use Rattle.th_syntax.specs.Kinds.{are_same_kinds}
use Rattle.th_kinds.proofs.conflict.are_same.Given as goal

abbrev pub invariant-loop-at : goal.invariant-loop-at
invariant-loop-at l = are_same_kinds (drop l.at l.left) (drop l.at l.right) ≡ are_same_kinds l.left l.right

use Rattle.std.proofs.Common.{take}
use Rattle.std.specs.List.{AllByRecursion}
use Rattle.th_accept.specs.Accepted.{HasKindsOf}
use Rattle.th_accept.proofs.kinds.check_class.Given as goal

-- the methods so far have kinds
abbrev pub invariant-loop-method : goal.invariant-loop-method
invariant-loop-method l = AllByRecursion HasKindsOf (take l.method-index l.class.methods)

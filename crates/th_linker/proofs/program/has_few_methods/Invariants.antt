use Rattle.std.proofs.Common.{◌≡◌, ◌+◌, length, take, sum_by}
use Rattle.th_base.specs.declared.class.ClassInfo.{ClassInfo}
use Rattle.th_syntax.specs.declared.limit.TheConstants.{MOST_METHODS}
use Rattle.th_linker.proofs.program.has_few_methods.Given as goal

-- as many methods as are left and stood in the classes so far are allowed
abbrev pub invariant-loop-class : goal.invariant-loop-class
invariant-loop-class l = l.left + sum_by (λ (k : ClassInfo). length k.methods) (take l.class-index l.class-items) ≡ MOST_METHODS

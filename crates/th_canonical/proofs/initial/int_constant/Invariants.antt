use Rattle.std.proofs.Common.{◌≡◌, ◌==◌, cond, drop, Some, None}
use Rattle.th_base.specs.Hierarchy.{first_some}
use Rattle.th_canonical.proofs.initial.int_constant.Given as goal

-- it is looked for in what is left
abbrev pub invariant-loop-pair : goal.invariant-loop-pair
invariant-loop-pair l = first_some (λ i. cond (i.0.0 == l.field.0) (Some i.1) None) (drop l.pair-index l.program.ints) ≡ first_some (λ i. cond (i.0.0 == l.field.0) (Some i.1) None) l.program.ints

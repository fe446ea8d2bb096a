use Rattle.std.proofs.Common.{◌≡◌, ◌==◌, cond, drop, Some, None}
use Rattle.th_base.specs.Hierarchy.{first_some}
use Rattle.th_canonical.proofs.subsumption.symbol_of_static.Given as goal

-- it is looked for in what is left
abbrev pub invariant-loop-fact : goal.invariant-loop-fact
invariant-loop-fact l = first_some (λ y. cond (y.0.0 == l.field.0) (Some y.1) None) (drop l.fact-index l.facts) ≡ first_some (λ y. cond (y.0.0 == l.field.0) (Some y.1) None) l.facts

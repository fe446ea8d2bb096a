use Rattle.std.proofs.Common.{◌≡◌, drop}
use Rattle.th_linear.specs.Forms.{coef}
use Rattle.th_linear.proofs.fact.coefficient.Given as goal

abbrev pub invariant-loop-term : goal.invariant-loop-term
invariant-loop-term l = coef l.variable l.terms ≡ coef l.variable (drop l.term-index l.terms)

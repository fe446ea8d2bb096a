use Rattle.th_linear.proofs.Keeps.{normal-keeps}
use Rattle.th_linear.proofs.Normals.{only_normal}
use Rattle.th_linear.proofs.division.normal.Goals as goal

pub returns-clause-value : goal.returns-clause-value
returns-clause-value c = only_normal c.args.f c.normal_form.result (rw (← c.f.view_is) c.f.invariant) c.normal_form.ensures

pub returns-clause-keeps : goal.returns-clause-keeps
returns-clause-keeps c = λ s. normal-keeps c.args.f c.normal_form.result s (rw (← c.f.view_is) c.f.invariant.terms) c.normal_form.ensures

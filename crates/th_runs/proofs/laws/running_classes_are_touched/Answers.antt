use Rattle.th_runs.proofs.Entering.{all_entered}
use Rattle.th_runs.proofs.laws.running_classes_are_touched.Goals as goal

pub returns : goal.returns
returns c = λ lifecycle files s linked plain. all_entered lifecycle files linked plain (λ i. c.what_is_named_stands.ensures files i linked) s

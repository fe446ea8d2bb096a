use Rattle.th_ir.specs.FactSets.{sets_of}
use Rattle.th_query.proofs.Determined as determined
use Rattle.th_query.proofs.laws.one_canonical.Goals as goal

pub returns : goal.returns
returns c plan q r s a b = determined.one_canonical plan.hierarchy plan.program (sets_of plan.facts) q r s a b

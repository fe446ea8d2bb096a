use Rattle.th_ir.specs.FactSets.{sets_of}
use Rattle.th_query.proofs.Composed.{canonical_formed}
use Rattle.th_query.proofs.Limiting.{canonical_limits}
use Rattle.th_query.proofs.laws.canonical_is_formed.Goals as goal

pub returns : goal.returns
returns c plan q r f k = record {
  formed = canonical_formed c.renaming_composes.ensures.composed c.steps_keep.ensures.division plan.hierarchy plan.program (sets_of plan.facts) q r f k;
  limits = canonical_limits plan.hierarchy plan.program (sets_of plan.facts) q r k;
}

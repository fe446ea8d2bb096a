use Rattle.th_ir.proofs.WorkedEffects.{related, related_to_zero, no_key}
use Rattle.th_ir.proofs.laws.effects.conditions_are_asked.Goals as goal

pub returns-clause-related : goal.returns-clause-related
returns-clause-related c = related

pub returns-clause-related_to_zero : goal.returns-clause-related_to_zero
returns-clause-related_to_zero c = related_to_zero

pub returns-clause-no_key : goal.returns-clause-no_key
returns-clause-no_key c = no_key

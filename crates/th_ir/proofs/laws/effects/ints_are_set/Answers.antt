use Rattle.th_ir.proofs.WorkedEffects.{operation, negation, constant, narrowing}
use Rattle.th_ir.proofs.laws.effects.ints_are_set.Goals as goal

pub returns-clause-operation : goal.returns-clause-operation
returns-clause-operation c = operation

pub returns-clause-negation : goal.returns-clause-negation
returns-clause-negation c = negation

pub returns-clause-constant : goal.returns-clause-constant
returns-clause-constant c = constant

pub returns-clause-narrowing : goal.returns-clause-narrowing
returns-clause-narrowing c = narrowing

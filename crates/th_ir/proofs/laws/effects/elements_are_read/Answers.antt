use Rattle.th_ir.proofs.WorkedEffects.{first, second, length_read}
use Rattle.th_ir.proofs.laws.effects.elements_are_read.Goals as goal

pub returns-clause-first : goal.returns-clause-first
returns-clause-first c = first

pub returns-clause-second : goal.returns-clause-second
returns-clause-second c = second

pub returns-clause-length : goal.returns-clause-length
returns-clause-length c = length_read

use Rattle.std.proofs.Common.{rules}
use Rattle.th_code.proofs.Opcodes.{no_conversion}
use Rattle.th_code.proofs.bare.conversion.Goals as goal

pub returns-in_default-clause-none : goal.returns-in_default-clause-none
returns-in_default-clause-none c = search (rules, no_conversion)

use Rattle.std.proofs.Common.{rules}
use Rattle.th_code.proofs.Opcodes.{no_array_access}
use Rattle.th_code.proofs.bare.array_access.Goals as goal

pub returns-in_default-clause-none : goal.returns-in_default-clause-none
returns-in_default-clause-none c = search (rules, no_array_access)

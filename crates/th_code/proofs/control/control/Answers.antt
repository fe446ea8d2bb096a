use Rattle.std.proofs.Common.{rules}
use Rattle.th_code.proofs.Branching.{others}
use Rattle.th_code.proofs.control.control.Goals as goal

pub returns-in_default : goal.returns-in_default
returns-in_default c = search (rules, others)

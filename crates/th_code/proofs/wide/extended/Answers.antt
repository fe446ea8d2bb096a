use Rattle.std.proofs.Common.{rules}
use Rattle.th_code.proofs.Widening.{others}
use Rattle.th_code.proofs.wide.extended.Goals as goal

pub returns-in_default : goal.returns-in_default
returns-in_default c = search (rules, others)

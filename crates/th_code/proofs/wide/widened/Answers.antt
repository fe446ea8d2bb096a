use Rattle.std.proofs.Common.{rules}
use Rattle.th_code.proofs.Widening.{not_widened}
use Rattle.th_code.proofs.wide.widened.Goals as goal

pub returns-in_default : goal.returns-in_default
returns-in_default c = search (rules, not_widened)

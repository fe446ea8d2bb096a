use Rattle.std.proofs.Common.{rules}
use Rattle.th_code.proofs.Constants.{others}
use Rattle.th_code.proofs.plain.constant.Goals as goal

pub returns-in_default-code : goal.returns-in_default-code
returns-in_default-code c = search (rules, others)

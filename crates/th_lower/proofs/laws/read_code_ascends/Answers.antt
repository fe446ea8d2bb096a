use Rattle.th_lower.proofs.ReadCode.{read_code_ascends}
use Rattle.th_lower.proofs.laws.read_code_ascends.Goals as goal

-- src/laws.rt
pub returns : goal.returns
returns c = read_code_ascends

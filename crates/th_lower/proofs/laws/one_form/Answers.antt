use Rattle.th_lower.proofs.OneForm as form
use Rattle.th_lower.proofs.ReadCode.{read_listed_once}
use Rattle.th_lower.proofs.laws.one_form.Goals as goal

-- src/laws.rt
pub returns : goal.returns
returns c = record { listed = form.one_form; read = λ x p q read. form.one_form x p q (read_listed_once x read) }

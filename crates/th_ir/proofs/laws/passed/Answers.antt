use Rattle.th_ir.proofs.WholeCalls.{passed as passed_call}
use Rattle.th_ir.proofs.laws.passed.Goals as goal

pub returns : goal.returns
returns c = λ h p t mods s before lower m wf rules sums run on. passed_call h p t mods m s before lower wf rules sums run on

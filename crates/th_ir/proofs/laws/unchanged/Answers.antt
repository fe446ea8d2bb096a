use Rattle.th_ir.proofs.WholeCalls.{whole_call}
use Rattle.th_ir.proofs.laws.unchanged.Goals as goal

pub returns : goal.returns
returns c = λ h p t mods since first earlier lower m wf rules sums call. whole_call h p t mods m since first earlier lower wf rules sums call

use Rattle.std.proofs.Common.{◌∙◌}
use Rattle.th_pure.proofs.Stopping.{pass_possible}
use Rattle.th_pure.proofs.products.pass.Goals as goal

pub returns-in-Possible-clause-value : goal.returns-in-Possible-clause-value
returns-in-Possible-clause-value c = λ o os vs e. pass_possible c.args.so_far o os vs c.requires (e ∙ c.in-Possible.is)

use Rattle.th_ir.proofs.Nests.{nested as nest_of}
use Rattle.th_ir.proofs.laws.nested.Goals as goal

pub returns : goal.returns
returns c = λ h p s before lower m run on. nest_of h p before s run lower m on

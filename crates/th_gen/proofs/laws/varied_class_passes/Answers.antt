use Rattle.th_gen.proofs.GeneratedPasses.{varied_passes}
use Rattle.th_gen.proofs.laws.varied_class_passes.Goals as goal

pub returns : goal.returns
returns c = varied_passes

use Rattle.std.proofs.Common.{refl}
use Rattle.th_gen.specs.Items.{pool_of}
use Rattle.th_gen.proofs.laws.entries_once.Goals as goal

pub returns : goal.returns
unfolding pool_of
returns c = refl

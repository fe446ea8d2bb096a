use Rattle.th_syntax.proofs.Origins.{on_paths}
use Rattle.th_syntax.proofs.laws.code_frames_are_on_paths.Goals as goal

pub returns : goal.returns
returns c = on_paths

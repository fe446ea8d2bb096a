use Rattle.th_syntax.proofs.Origins.{frames_all_stand}
use Rattle.th_syntax.proofs.laws.code_frames_stand.Goals as goal

pub returns : goal.returns
returns c lifecycle files s whole run = frames_all_stand lifecycle files s whole run

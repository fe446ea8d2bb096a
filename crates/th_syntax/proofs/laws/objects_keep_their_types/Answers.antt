use Rattle.th_syntax.proofs.Keeping.{types_kept}
use Rattle.th_syntax.proofs.laws.objects_keep_their_types.Goals as goal

pub returns : goal.returns
returns c = types_kept

use Rattle.th_syntax.proofs.LeastKinds.{comes_along, comes_only_along}
use Rattle.th_syntax.proofs.laws.kinds.kinds_come_along_paths.Goals as goal

pub returns : goal.returns
returns c m code t offset least = (comes_only_along m code t least offset, comes_along m code t least.closed offset)

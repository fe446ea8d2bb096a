use Rattle.th_paths.proofs.Orders.{before_itself, before_trans, same_or_before}
use Rattle.th_paths.proofs.laws.paths_are_ordered.Goals as goal

pub returns : goal.returns
returns c = record { itself = before_itself; passed = before_trans; total = same_or_before }

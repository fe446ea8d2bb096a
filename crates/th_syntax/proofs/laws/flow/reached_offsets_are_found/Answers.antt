use Rattle.th_syntax.proofs.Visiting.{found_from_path, path_from_found}
use Rattle.th_syntax.proofs.laws.flow.reached_offsets_are_found.Goals as goal

pub returns : goal.returns
returns c instrs offset = (path_from_found instrs offset, found_from_path instrs offset)

use Rattle.th_syntax.proofs.Ascending.{second_ascends, third_ascends, fourth_ascends, code_ascends}
use Rattle.th_syntax.proofs.FirstFlaws.{head_first}
use Rattle.th_syntax.proofs.laws.class_files.flaws_ascend.Goals as goal

pub returns : goal.returns
returns c = record { indices = second_ascends; names = third_ascends; content = fourth_ascends; code = code_ascends; first = head_first }

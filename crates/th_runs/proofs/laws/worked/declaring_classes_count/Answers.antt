use Rattle.th_runs.proofs.WorkedWays.{field_declared, method_declared, code_missed}
use Rattle.th_runs.proofs.laws.worked.declaring_classes_count.Goals as goal

pub returns : goal.returns
returns c = record { field = field_declared; method = method_declared; without_code = code_missed }

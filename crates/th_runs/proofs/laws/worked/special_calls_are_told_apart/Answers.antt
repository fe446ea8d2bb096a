use Rattle.th_runs.proofs.WorkedRows.{constructor_itself, no_superclass, without_code, on_object, on_array}
use Rattle.th_runs.proofs.laws.worked.special_calls_are_told_apart.Goals as goal

pub returns : goal.returns
returns c = record { constructor = constructor_itself; no_superclass = no_superclass; without_code = without_code; object = on_object; array = on_array }

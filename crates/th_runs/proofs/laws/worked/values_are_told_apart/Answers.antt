use Rattle.std.proofs.Common.{refl}
use Rattle.th_runs.specs.Worked.{int_field}
use Rattle.th_runs.proofs.laws.worked.values_are_told_apart.Goals as goal

pub returns-clause-other_value : goal.returns-clause-other_value
returns-clause-other_value c = λ shaped. let none = (shaped.1.0 (record { owner = 11; member = int_field }) refl).0.1 in cc

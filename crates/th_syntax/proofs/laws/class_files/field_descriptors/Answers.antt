use Rattle.th_syntax.proofs.Spelled.{field_spelled, field_again}
use Rattle.th_syntax.proofs.laws.class_files.field_descriptors.Goals as goal

pub returns : goal.returns
returns c = λ bytes type. (field_spelled bytes type, field_again bytes type)

use Rattle.th_syntax.proofs.Spelled.{method_spelled, method_again}
use Rattle.th_syntax.proofs.laws.class_files.method_descriptors.Goals as goal

pub returns : goal.returns
returns c = λ bytes type. (method_spelled bytes type, method_again bytes type)

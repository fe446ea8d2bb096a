use Rattle.th_gen.proofs.ClassSpelled.{class_spelled}
use Rattle.th_gen.proofs.laws.written_classes_stand.Goals as goal

pub returns : goal.returns
returns c = λ w bytes fits passes. class_spelled w fits passes bytes

use Rattle.th_base.proofs.BuiltIns.{built_ins_above_all}
use Rattle.th_base.proofs.laws.programs.built_in_classes_stand_above_arrays.Goals as goal

pub returns : goal.returns
returns c = built_ins_above_all

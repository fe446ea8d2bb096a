use Rattle.th_syntax.specs.Program.{class_infos}
use Rattle.th_syntax.proofs.laws.linking.array_supertypes_are_above_all.Goals as goal

pub returns : goal.returns
returns c files = c.built_in_classes_stand_above_arrays.ensures (class_infos files 0 17 files)

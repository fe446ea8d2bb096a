use Rattle.th_syntax.proofs.WorkedFiles.{field_types, floating_types, method_types, floating_methods}
use Rattle.th_syntax.proofs.laws.worked_files.descriptors_are_told_apart.Goals as goal

pub returns : goal.returns
returns c = record { fields = field_types; floating = floating_types; methods = method_types; floating_methods = floating_methods }

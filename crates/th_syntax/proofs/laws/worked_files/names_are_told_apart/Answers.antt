use Rattle.th_syntax.proofs.WorkedFiles.{class_names, field_names, method_names}
use Rattle.th_syntax.proofs.laws.worked_files.names_are_told_apart.Goals as goal

pub returns : goal.returns
returns c = record { classes = class_names; fields = field_names; methods = method_names }

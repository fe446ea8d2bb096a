use Rattle.std.proofs.Common.{◌≡◌, take}
use Rattle.th_machine.specs.Beginning.{first_statics}
use Rattle.th_machine.proofs.beginning.first_statics.Given as goal

abbrev pub invariant-loop-file : goal.invariant-loop-file
invariant-loop-file l = l.values.items ≡ first_statics (take l.file-index l.files)

use Rattle.std.proofs.Common.{◌≡◌, take}
use Rattle.th_syntax.specs.Program.{field_infos}
use Rattle.th_linker.proofs.infos.field_infos.Given as goal

abbrev pub invariant-loop-at : goal.invariant-loop-at
invariant-loop-at l = l.infos ≡ field_infos l.first (take l.at l.fields)

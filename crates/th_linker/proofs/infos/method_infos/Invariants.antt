use Rattle.std.proofs.Common.{◌≡◌, take}
use Rattle.th_syntax.specs.Program.{method_infos}
use Rattle.th_linker.proofs.infos.method_infos.Given as goal

abbrev pub invariant-loop-at : goal.invariant-loop-at
invariant-loop-at l = l.infos ≡ method_infos l.first (take l.at l.methods)

use Rattle.std.proofs.Common.{◌≡◌, ◌++◌, take}
use Rattle.th_mod.specs.Systems.{init_copies}
use Rattle.th_mod.proofs.inclusions.add_inits.Given as goal

abbrev pub invariant-loop-node : goal.invariant-loop-node
invariant-loop-node l = l.copies ≡ l.fn.copies ++ init_copies l.classes l.program (take l.node-index l.nodes)

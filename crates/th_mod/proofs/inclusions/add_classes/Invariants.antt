use Rattle.std.proofs.Common.{◌≡◌, ◌++◌}
use Rattle.th_mod.specs.Systems.{class_copies}
use Rattle.th_mod.proofs.inclusions.add_classes.Given as goal

abbrev pub invariant-loop-class : goal.invariant-loop-class
invariant-loop-class l = l.copies ≡ l.fn.copies ++ class_copies l.hierarchy l.program l.class

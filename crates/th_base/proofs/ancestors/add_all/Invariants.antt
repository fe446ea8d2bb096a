use Rattle.std.proofs.Common.{take}
use Rattle.th_base.specs.Ancestors.{Adds}
use Rattle.th_base.proofs.ancestors.add_all.Given as goal

abbrev pub invariant-loop-class : goal.invariant-loop-class
invariant-loop-class l = Adds l.fn.listing l.listing (take l.class-index l.more)

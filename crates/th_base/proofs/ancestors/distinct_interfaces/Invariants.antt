use Rattle.std.proofs.Common.{map, take}
use Rattle.th_base.specs.Ancestors.{Adds}
use Rattle.th_base.proofs.ancestors.distinct_interfaces.Given as goal

abbrev pub invariant-loop-interface : goal.invariant-loop-interface
invariant-loop-interface l = Adds l.fn.listing l.listing (take l.interface-index (map (λ i. i.0) l.class.interfaces))

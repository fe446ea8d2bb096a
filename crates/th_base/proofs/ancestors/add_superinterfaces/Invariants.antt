use Rattle.std.proofs.Common.{take}
use Rattle.std.specs.List.{flat_map}
use Rattle.th_base.specs.Ancestors.{Adds, with_superinterfaces}
use Rattle.th_base.proofs.ancestors.add_superinterfaces.Given as goal

abbrev pub invariant-loop-interface : goal.invariant-loop-interface
invariant-loop-interface l = Adds l.fn.listing l.listing (flat_map (with_superinterfaces l.rows) (take l.interface-index l.interfaces))

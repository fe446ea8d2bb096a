use Rattle.std.proofs.Common.{◌∷◌, take}
use Rattle.std.specs.List.{flat_map}
use Rattle.th_base.specs.Ancestors.{Adds, supertypes_listed}
use Rattle.th_base.proofs.ancestors.add_supertypes.Given as goal

abbrev pub invariant-loop-interface : goal.invariant-loop-interface
invariant-loop-interface l = Adds l.fn.listing l.listing (l.number ∷ flat_map (supertypes_listed l.rows) (take l.interface-index l.interfaces))

use Rattle.std.proofs.Common.{◌≡◌, ℕ, ◌++◌, take}
use Rattle.std.specs.List.{flat_map}
use Rattle.th_base.specs.Ancestors.{all_listed, superclass_in}
use Rattle.th_base.specs.IdSet.{has}
use Rattle.th_base.proofs.ancestors.all_above.Given as goal

-- what the interfaces so far have above them, and what the superclass has
abbrev pub invariant-loop-interface : goal.invariant-loop-interface
invariant-loop-interface l = (x : ℕ) → has l.all x ≡ has (flat_map (all_listed l.rows) (take l.interface-index l.interfaces) ++ flat_map (all_listed l.rows) (superclass_in l.class)) x

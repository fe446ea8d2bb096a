use Rattle.std.proofs.Common.{◌≡◌, length}
use Rattle.th_base.specs.Subtype.{is_type_subtype, described_type}
use Rattle.th_base.proofs.hierarchy.Hierarchy.is_component_subtype.Given as goal

-- what is left of both descriptors decides
abbrev pub invariant-loop-s : goal.invariant-loop-s
invariant-loop-s l = is_type_subtype l.self (described_type l.lower) (described_type l.upper) ≡ is_type_subtype l.self (described_type l.fn.left) (described_type l.fn.right)

abbrev pub decreases-loop-s : goal.decreases-loop-s
decreases-loop-s l = length l.lower

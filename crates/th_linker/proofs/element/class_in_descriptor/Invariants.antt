use Rattle.std.proofs.Common.{◌≡◌, length}
use Rattle.th_base.specs.Subtype.{described_type}
use Rattle.th_syntax.specs.LinkChecks.{class_in_type}
use Rattle.th_linker.proofs.element.class_in_descriptor.Given as goal

abbrev pub invariant-loop-rest : goal.invariant-loop-rest
invariant-loop-rest l = class_in_type (described_type l.rest) ≡ class_in_type (described_type l.descriptor)

abbrev pub decreases-loop-rest : goal.decreases-loop-rest
decreases-loop-rest l = length l.rest

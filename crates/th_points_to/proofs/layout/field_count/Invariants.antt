use Rattle.std.proofs.Common.{◌≡◌, take, length}
use Rattle.th_ir.specs.Fields.{owned_fields_from}
use Rattle.th_points_to.proofs.layout.field_count.Given as goal

abbrev pub invariant-loop-class : goal.invariant-loop-class
invariant-loop-class l = l.count ≡ length (owned_fields_from 0 (take l.class-index l.classes))

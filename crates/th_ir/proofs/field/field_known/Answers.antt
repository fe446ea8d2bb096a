use Rattle.std.proofs.Common.{rules, ◌≡◌, ◌==◌, Bool, true, false, Option, is_some, refl, ◌∙◌}
use Rattle.std.specs.Prelude.{◌||◌}
use Rattle.th_base.specs.Hierarchy.{numbered_field}
use Rattle.th_ir.specs.Fields.{stage_field, length_field}
use Rattle.th_ir.proofs.NumberedFields.{known_by}
use Rattle.th_ir.proofs.field.field_known.Goals as goal

pub returns-then-eq : goal.returns-then-eq
returns-then-eq c = λ n.
    let h = c.args.hierarchy.now in
    let f = c.args.field.0 in
    let is : c.if-is_some.value ≡ (is_some (numbered_field h f) || (f == stage_field || f == length_field)) = search rules in
    is ∙ known_by h f (numbered_field h f) n refl

pub returns-else-eq : goal.returns-else-eq
returns-else-eq c = λ n.
    let h = c.args.hierarchy.now in
    let f = c.args.field.0 in
    let is : c.eq-else-eq.result ≡ (is_some (numbered_field h f) || (f == stage_field || f == length_field)) = search rules in
    is ∙ known_by h f (numbered_field h f) n refl

use Rattle.std.proofs.Common.{rules, ◌≡◌, ◌==◌, true, false, Some, None, sym, ap, ◌∙◌}
use Rattle.std.specs.Prelude.{◌&&◌}
use Rattle.th_base.specs.Hierarchy.{is_subclass, numbered_field}
use Rattle.th_ir.specs.Fields.{stage_field, is_kept_instance}
use Rattle.th_ir.proofs.NumberedFields.{had_by, owner_within}
use Rattle.th_ir.proofs.field.class_has.Goals as goal

pub is_subclass-requires-clause-b : goal.is_subclass-requires-clause-b
is_subclass-requires-clause-b c =
    let h = c.args.hierarchy.now in
    let found : numbered_field h c.args.field.0 ≡ Some (c.in-Some.found.0.0, c.in-Some.found.1.now) = search rules in
    owner_within h c.args.field.0 (c.in-Some.found.0.0, c.in-Some.found.1.now) found

pub returns-then-is_kept_instance : goal.returns-then-is_kept_instance
returns-then-is_kept_instance c = λ n.
    let h = c.args.hierarchy.now in
    let f = c.args.field.0 in
    let stage : (f == stage_field) ≡ false = search rules in
    let found : numbered_field h f ≡ Some (c.in-Some.found.0.0, c.in-Some.found.1.now) = search rules in
    let kept : is_kept_instance c.in-Some.found.1.now ≡ true = search rules in
    c.is_subclass.ensures ∙ sym (ap (λ b. b && is_subclass h c.args.class.0 c.in-Some.found.0.0) kept)
    ∙ had_by h c.args.class.0 f (Some (c.in-Some.found.0.0, c.in-Some.found.1.now)) n found stage

pub returns-else-is_kept_instance : goal.returns-else-is_kept_instance
returns-else-is_kept_instance c = λ n.
    let h = c.args.hierarchy.now in
    let f = c.args.field.0 in
    let stage : (f == stage_field) ≡ false = search rules in
    let found : numbered_field h f ≡ Some (c.in-Some.found.0.0, c.in-Some.found.1.now) = search rules in
    let kept : is_kept_instance c.in-Some.found.1.now ≡ false = search rules in
    let is : c.is_kept_instance.result ≡ false = search rules in
    is ∙ sym (ap (λ b. b && is_subclass h c.args.class.0 c.in-Some.found.0.0) kept)
    ∙ had_by h c.args.class.0 f (Some (c.in-Some.found.0.0, c.in-Some.found.1.now)) n found stage

pub returns-in-None : goal.returns-in-None
returns-in-None c = λ n.
    let h = c.args.hierarchy.now in
    let f = c.args.field.0 in
    let stage : (f == stage_field) ≡ false = search rules in
    let found : numbered_field h f ≡ None = search rules in
    had_by h c.args.class.0 f None n found stage

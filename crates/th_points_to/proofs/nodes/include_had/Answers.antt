use Rattle.std.proofs.Common.{◌≡◌, true, sym, ◌∙◌}
use Rattle.th_ir.specs.Fields.{has_field}
use Rattle.th_points_to.specs.Places.{Includes}
use Rattle.th_points_to.proofs.Adding.{adds_as, keeps_of}
use Rattle.th_points_to.proofs.nodes.include_had.Goals as goal

pub returns-then-has_field-clause-keeps : goal.returns-then-has_field-clause-keeps
returns-then-has_field-clause-keeps c = keeps_of c.args.layout c.args.program.now c.args.found.now c.include.new.found _ (c.in_ok-include.ensures c.args.program.now)

pub returns-then-has_field-clause-adds : goal.returns-then-has_field-clause-adds
returns-then-has_field-clause-adds c = λ are.
    let h = c.args.hierarchy.now in
    let p = c.args.program.now in
    let had : has_field h p c.args.site.0 c.args.field.0 ≡ true = sym (c.has_field.ensures are) ∙ c.if-has_field.true in
    adds_as c.args.layout p c.args.found.now c.include.new.found (λ t. Includes c.args.layout t c.args.from c.args.to)
    (λ t. has_field h p c.args.site.0 c.args.field.0 ≡ true → Includes c.args.layout t c.args.from c.args.to)
    (λ t is. is had) (λ t range is e. is) (c.in_ok-include.ensures p)

use Rattle.std.proofs.Common.{None, Some, sym, ◌∙◌}
use Rattle.th_base.specs.Hierarchy.{resolved_field}
use Rattle.th_coarse.proofs.Resolving.{number_found}
use Rattle.th_coarse.proofs.fields.number_in.Goals as goal

pub returns-in-Some : goal.returns-in-Some
returns-in-Some c =
    number_found (resolved_field c.args.hierarchy.now c.args.class.0 c.args.field.now.name c.args.field.now.descriptor) (Some c.in-Some.id) (sym c.in-Some.is ∙ c.find_field.ensures)

pub returns-in-None : goal.returns-in-None
returns-in-None c =
    number_found (resolved_field c.args.hierarchy.now c.args.class.0 c.args.field.now.name c.args.field.now.descriptor) None (sym c.in-None.is ∙ c.find_field.ensures)

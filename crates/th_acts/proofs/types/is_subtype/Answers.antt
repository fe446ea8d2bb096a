use Rattle.std.proofs.Common.{ap, ◌∙◌}
use Rattle.th_base.specs.Subtype.{is_subtype}
use Rattle.th_syntax.specs.Program.{hierarchy_of}
use Rattle.th_acts.proofs.types.is_subtype.Goals as goal

pub returns : goal.returns
returns c =
    c.is_subtype_named.ensures
    ∙ ap (λ h. is_subtype h c.as_bytes.result.now c.args.name.now) c.hierarchy.ensures
    ∙ ap (λ own. is_subtype (hierarchy_of c.args.program.now) own c.args.name.now) c.as_bytes.ensures

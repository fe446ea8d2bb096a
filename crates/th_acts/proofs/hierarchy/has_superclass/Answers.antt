use Rattle.std.proofs.Common.{ap, ◌∙◌}
use Rattle.th_base.specs.Hierarchy.{is_subclass}
use Rattle.th_acts.proofs.hierarchy.has_superclass.Goals as goal

pub returns : goal.returns
returns c = c.is_subclass.ensures ∙ ap (λ h. is_subclass h c.args.class.0 c.args.above.0) c.hierarchy_in.ensures

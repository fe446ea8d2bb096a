use Rattle.std.proofs.Common.{ap, ◌∙◌}
use Rattle.th_syntax.specs.Calls.{selected_for}
use Rattle.th_acts.proofs.hierarchy.taken_on.Goals as goal

pub returns : goal.returns
returns c = c.selected_for.ensures ∙ ap (λ h. selected_for h c.args.method.now c.args.class.0) c.hierarchy_in.ensures

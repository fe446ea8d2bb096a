use Rattle.std.proofs.Common.{ap, ◌∙◌}
use Rattle.th_base.specs.Hierarchy.{supertypes_of}
use Rattle.th_base.specs.IdSet.{has}
use Rattle.th_acts.proofs.hierarchy.has_supertype.Goals as goal

pub returns : goal.returns
returns c = c.is_below.ensures ∙ ap (λ h. has (supertypes_of h c.args.class.0) c.args.above.0) c.hierarchy_in.ensures

use Rattle.std.proofs.Common.{subst}
use Rattle.std.specs.Prelude.{OnOk}
use Rattle.th_reach.specs.Visit.{Adds}
use Rattle.th_reach.proofs.Visits.{leads_here}
use Rattle.th_reach.proofs.visit.add_from.Goals as goal

pub returns : goal.returns
returns c =
    subst (λ xs. OnOk c.add_targets.result (Adds c.args.found.now.keys c.add_targets.new.found.keys xs))
    (leads_here c.args.instrs.now c.args.place c.index-instrs-place.result c.offset_behind-behind.result c.requires c.offset_behind-behind.ensures) c.add_targets.ensures

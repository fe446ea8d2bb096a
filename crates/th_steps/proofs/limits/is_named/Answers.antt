use Rattle.th_steps.proofs.Mentions.{named_first, named_second}
use Rattle.th_steps.proofs.limits.is_named.Goals as goal

pub returns-then-in_places : goal.returns-then-in_places
returns-then-in_places c = named_first c.args.frames.now c.args.statics.now c.args.cells.now c.args.elems.now c.args.symbol _ c.in_places.ensures c.if-in_places.true

pub returns-else-in_places : goal.returns-else-in_places
returns-else-in_places c =
    named_second c.args.frames.now c.args.statics.now c.args.cells.now c.args.elems.now c.args.symbol _ _ c.in_places.ensures c.if-in_places.false c.in_links.ensures

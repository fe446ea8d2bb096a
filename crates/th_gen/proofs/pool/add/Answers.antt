use Rattle.std.proofs.Common.{◌∙◌}
use Rattle.th_gen.proofs.Interning.{added_is}
use Rattle.th_gen.proofs.pool.add.Goals as goal

pub returns : goal.returns
returns c = c.in_ok-insert.ensures.keys ∙ added_is c.args.items.now.keys c.args.item

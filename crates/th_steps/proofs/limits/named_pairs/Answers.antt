use Rattle.std.proofs.Common.{◌&&◌, rules}
use Rattle.std.proofs.lemmas.Fn.{filter_same}
use Rattle.th_steps.specs.Named.{named_in}
use Rattle.th_steps.proofs.limits.named_pairs.Goals as goal

pub returns : goal.returns
returns c =
    filter_same _ (λ d. named_in c.args.frames.now c.args.statics.now c.args.cells.now c.args.elems.now d.0 && named_in c.args.frames.now c.args.statics.now c.args.cells.now c.args.elems.now d.1)
    _ (λ x b q k. search rules) _ _ c.retain.ensures.filtered

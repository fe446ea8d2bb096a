use Rattle.std.proofs.Common.{false, sym, ◌∙◌}
use Rattle.std.proofs.lemmas.List.{get_or_default}
use Rattle.th_base.proofs.Alike.{adds_listed}
use Rattle.th_base.proofs.ancestors.add.Goals as goal

pub returns-then-index : goal.returns-then-index
returns-then-index c =
    adds_listed c.args.listing.now c.args.class c.requires.listing
    (sym (c.requires.listing.marks c.args.class c.requires.inside) ∙ get_or_default c.args.listing.now.seen.items c.args.class false c.index.result.now c.requires.inside ∙ sym c.index.ensures ∙ c.if-index.true)

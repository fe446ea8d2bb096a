use Rattle.std.proofs.Common.{get_or, refl, sym, subst, ◌<◌}
use Rattle.th_base.proofs.Alike.{adds_none, adds_more}
use Rattle.th_base.proofs.Ascending.{has_at}
use Rattle.th_base.proofs.ancestors.add_all.Goals as goal

pub loop-class-init : goal.loop-class-init
loop-class-init c = adds_none c.args.listing.now c.requires.listing

pub add-requires-clause-inside : goal.add-requires-clause-inside
add-requires-clause-inside c =
    subst (λ n. get_or c.args.more.now c.loop-class.class-index 0 < n) (sym c.loop-class.invariant.room)
    (c.requires.inside (get_or c.args.more.now c.loop-class.class-index 0) (has_at c.args.more.now _ c.loop-class.class-index c.loop-class-test.true refl))

pub loop-class-preserved : goal.loop-class-preserved
loop-class-preserved c =
    adds_more c.args.listing.now c.loop-class.listing c.add.new.listing c.args.more.now c.loop-class.class-index c.loop-class-test.true c.loop-class.invariant c.in_ok-add.ensures

use Rattle.std.proofs.Common.{◌≡◌, get_or, arith, refl, sym, ap, ◌∙◌}
use Rattle.th_base.specs.IdSet.{has}
use Rattle.th_base.proofs.Ascending.{has_at}
use Rattle.th_base.proofs.ancestors.finish.Goals as goal

pub index_mut-requires : goal.index_mut-requires
index_mut-requires c =
    let list : c.deref-class-items.result.now ≡ c.args.listing.now.items.items = c.deref-class-items.ensures.value ∙ ap (λ v. v.items) c.replace-items.ensures.value in
    let listed = has_at c.deref-class-items.result.now (get_or c.deref-class-items.result.now c.loop-class.class-index 0) c.loop-class.class-index c.loop-class-test.true refl in
    let inside = c.requires.inside (get_or c.deref-class-items.result.now c.loop-class.class-index 0) (ap (λ l. has l (get_or c.deref-class-items.result.now c.loop-class.class-index 0)) (sym list) ∙ listed) in
    omega (arith, c.loop-class.listing.seen.ok.0, c.loop-class.invariant.room)

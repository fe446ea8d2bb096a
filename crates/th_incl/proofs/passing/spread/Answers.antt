use Rattle.std.proofs.Common.{◌<◌, get_or, sym, subst}
use Rattle.std.proofs.lemmas.List.{take_more}
use Rattle.std.proofs.lemmas.List.Elements.{Contains-get_or}
use Rattle.th_incl.proofs.Through.{spreads_more, delivers, no_inclusion}
use Rattle.th_incl.proofs.passing.spread.Goals as goal

pub deliver-requires-clause-news : goal.deliver-requires-clause-news
deliver-requires-clause-news c =
    subst (λ n. (get_or c.args.out.now c.loop-inclusion.inclusion-index no_inclusion).to < n) (sym c.loop-inclusion.invariant.news_len)
    (c.requires.news _ (Contains-get_or c.args.out.now c.loop-inclusion.inclusion-index no_inclusion c.loop-inclusion-test.true))

pub deliver-requires-clause-sets : goal.deliver-requires-clause-sets
deliver-requires-clause-sets c = c.requires.sets _ (Contains-get_or c.args.out.now c.loop-inclusion.inclusion-index no_inclusion c.loop-inclusion-test.true)

pub deliver-requires-clause-filter : goal.deliver-requires-clause-filter
deliver-requires-clause-filter c = c.requires.filter _ (Contains-get_or c.args.out.now c.loop-inclusion.inclusion-index no_inclusion c.loop-inclusion-test.true)

pub loop-inclusion-preserved : goal.loop-inclusion-preserved
loop-inclusion-preserved c =
    rw (take_more c.args.out.now c.loop-inclusion.inclusion-index no_inclusion c.loop-inclusion-test.true)
    (spreads_more c.args.sets.now c.args.filters.now _ _ c.args.fresh.now _ c.loop-inclusion.news _ _ c.loop-inclusion.queue.items _ c.loop-inclusion.invariant
    (delivers c.args.sets.now c.args.filters.now _ c.args.fresh.now c.loop-inclusion.news _ c.loop-inclusion.queue.items _ (subst (λ n. (get_or c.args.out.now c.loop-inclusion.inclusion-index no_inclusion).to < n) (sym c.loop-inclusion.invariant.news_len)
    (c.requires.news _ (Contains-get_or c.args.out.now c.loop-inclusion.inclusion-index no_inclusion c.loop-inclusion-test.true))) c.in_ok-deliver.ensures))

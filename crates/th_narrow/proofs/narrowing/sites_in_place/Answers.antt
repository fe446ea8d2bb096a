use Rattle.std.proofs.Common.{◌∙◌, sym}
use Rattle.th_base.specs.IdSet.{has}
use Rattle.th_ir.specs.FactSets.{set_at}
use Rattle.th_narrow.proofs.Members.{filter_none, filter_like, set_past, set_there}
use Rattle.th_narrow.proofs.narrowing.sites_in_place.Goals as goal

pub returns-then-at-sets : goal.returns-then-at-sets
returns-then-at-sets c =
    c.of.ensures ∙ c.new.ensures ∙ sym (filter_none (set_at c.args.sets.now c.args.place) c.args.sites (λ x. set_past c.args.sets.now c.args.place x c.if-at-sets.true))

pub returns : goal.returns
returns c =
    let set = c.index-sets-at.result in
    c.in_ok-keep_in.ensures.ok
    ∙ sym (filter_like (set_at c.args.sets.now c.args.place) (has set) c.args.sites (λ x. set_there c.args.sets.now c.args.place set x c.if-at-sets.false c.index-sets-at.is))

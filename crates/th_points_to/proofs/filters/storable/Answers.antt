use Rattle.std.proofs.Common.{List, take, ap, sym, subst, arith, ◌∙◌}
use Rattle.th_base.specs.IdSet.{IsAscending}
use Rattle.th_ir.specs.declared.program.Site.{Site}
use Rattle.th_points_to.specs.Storing.{storable}
use Rattle.th_points_to.proofs.Above.{whole_take}
use Rattle.th_points_to.proofs.StoringLemmas.{places_ascend, storable_next}
use Rattle.th_points_to.proofs.filters.storable.Goals as goal

pub loop-at-preserved : goal.loop-at-preserved
loop-at-preserved c =
    storable_next c.args.hierarchy.now c.args.array.now c.args.sites.now c.loop-at.at c.index-sites-at.result c.in_ok-stands.stands c.loop-at.ids.items c.push_where.new.ids.items
    c.loop-at-test.true c.index-sites-at.is c.loop-at.invariant c.in_ok-stands.ensures c.in_ok-push_where.ensures

pub from_ascending-requires : goal.from_ascending-requires
from_ascending-requires c = subst IsAscending (sym c.loop-at.invariant) (places_ascend _ 0 (take c.loop-at.at c.args.sites.now))

pub returns : goal.returns
returns c =
    c.from_ascending.ensures ∙ c.loop-at.invariant
    ∙ ap (λ (l : List Site). storable c.args.hierarchy.now c.args.array.now l) (whole_take c.args.sites.now c.loop-at.at (omega (arith, c.loop-at-test.false)))

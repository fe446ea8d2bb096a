use Rattle.std.proofs.Common.{ap, arith, ◌∙◌}
use Rattle.th_points_to.specs.Rows.{launched_by}
use Rattle.th_points_to.proofs.RowLemmas.{rows_none, rows_next, rows_whole}
use Rattle.th_points_to.proofs.rows.launched_by_class.Goals as goal

pub loop-at-init : goal.loop-at-init
loop-at-init c = rows_none c.args.count c.in_ok-rows.rows.items c.in_ok-rows.ensures

pub loop-at-preserved : goal.loop-at-preserved
loop-at-preserved c =
    rows_next launched_by c.args.count c.args.sites.now c.loop-at.at c.index-sites-at.result c.loop-at.rows.items c.put.new.rows.items _ c.loop-at-test.true c.loop-at.invariant
    c.in_ok-put.ensures (c.launched_by.ensures ∙ ap (launched_by c.loop-at.at) c.index-sites-at.is)

pub returns : goal.returns
returns c = rows_whole launched_by c.args.count c.args.sites.now c.loop-at.at c.loop-at.rows.items (omega (arith, c.loop-at-test.false)) c.loop-at.invariant

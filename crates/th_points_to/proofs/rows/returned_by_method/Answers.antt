use Rattle.std.proofs.Common.{ap, arith, ◌∙◌}
use Rattle.th_points_to.specs.Rows.{returned_by}
use Rattle.th_points_to.proofs.RowLemmas.{rows_none, rows_next, rows_whole}
use Rattle.th_points_to.proofs.rows.returned_by_method.Goals as goal

pub loop-node-init : goal.loop-node-init
loop-node-init c = rows_none c.args.count c.in_ok-rows.rows.items c.in_ok-rows.ensures

pub loop-node-preserved : goal.loop-node-preserved
loop-node-preserved c =
    rows_next returned_by c.args.count c.args.nodes.now c.loop-node.node-index c.node-item.result c.loop-node.rows.items c.put.new.rows.items _ c.loop-node-test.true c.loop-node.invariant
    c.in_ok-put.ensures (c.returned_by.ensures ∙ ap (returned_by 0) c.node-item.is)

pub returns : goal.returns
returns c = rows_whole returned_by c.args.count c.args.nodes.now c.loop-node.node-index c.loop-node.rows.items (omega (arith, c.loop-node-test.false)) c.loop-node.invariant

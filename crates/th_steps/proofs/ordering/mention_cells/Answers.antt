use Rattle.std.proofs.Common.{◌==◌}
use Rattle.th_query.specs.declared.query.Cell.{Cell}
use Rattle.th_steps.proofs.Mentioned.{chosen_more, chosen_end}
use Rattle.th_steps.proofs.ordering.mention_cells.Goals as goal

pub loop-cell-preserved : goal.loop-cell-preserved
loop-cell-preserved c =
    let none : Cell = record { base = 0; field = record { 0 = 0 }; value = 0 } in
    chosen_more (λ (x : Cell). x.base == c.args.symbol) (λ (x : Cell). x.value) c.args.cells.now c.loop-cell.cell-index none c.loop-cell.order.items c.mention_if.new.order.items _ c.loop-cell-test.true c.in_ok-mention_if.ensures c.loop-cell.invariant

pub returns : goal.returns
returns c = chosen_end (λ (x : Cell). x.base == c.args.symbol) (λ (x : Cell). x.value) c.args.cells.now c.loop-cell.cell-index c.loop-cell.order.items _ c.loop-cell-test.false c.loop-cell.invariant

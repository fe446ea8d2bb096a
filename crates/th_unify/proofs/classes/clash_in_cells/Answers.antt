use Rattle.std.proofs.Common.{refl}
use Rattle.th_linear.specs.Gathered.{name_of}
use Rattle.th_unify.specs.Classes.{AgreeCell}
use Rattle.th_unify.proofs.Items.{among_at, all_more}
use Rattle.th_unify.proofs.classes.clash_in_cells.Goals as goal

pub returns-in-Some : goal.returns-in-Some
returns-in-Some c = (_, among_at c.args.cells.now c.loop-cell.cell-index _ c.loop-cell-test.true, refl, c.in-Some.ensures)

pub loop-cell-preserved : goal.loop-cell-preserved
loop-cell-preserved c =
    all_more (λ d. AgreeCell d c.args.cells.now (name_of c.args.names.now)) c.args.cells.now c.loop-cell.cell-index _ c.loop-cell-test.true c.loop-cell.invariant c.in_default.ensures

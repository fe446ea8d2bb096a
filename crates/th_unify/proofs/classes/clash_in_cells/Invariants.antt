use Rattle.std.proofs.Common.{take}
use Rattle.th_query.specs.declared.query.Cell.{Cell}
use Rattle.th_ir.specs.Program.{Among}
use Rattle.th_linear.specs.Gathered.{name_of}
use Rattle.th_unify.specs.Classes.{AgreeCell}
use Rattle.th_unify.proofs.classes.clash_in_cells.Given as goal

abbrev pub invariant-loop-cell : goal.invariant-loop-cell
invariant-loop-cell l = (c : Cell) → Among (take l.cell-index l.cells) c → AgreeCell c l.cells (name_of l.names)

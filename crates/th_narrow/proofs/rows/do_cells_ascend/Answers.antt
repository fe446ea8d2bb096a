use Rattle.std.proofs.Common.{rules}
use Rattle.std.proofs.lemmas.Fn.{always_returns_same}
use Rattle.th_narrow.specs.Rows.{cell_before}
use Rattle.th_narrow.proofs.Ordered.{cells_ordered}
use Rattle.th_narrow.proofs.rows.do_cells_ascend.Goals as goal

pub returns : goal.returns
returns c = cells_ordered c.args.cells.now _ (c.is_sorted_by.ensures.cases (λ x y. cell_before y.0.0 y.1.0 x) (always_returns_same _ _ _ (λ a r q k. search rules)))

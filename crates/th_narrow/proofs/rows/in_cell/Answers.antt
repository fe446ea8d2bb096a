use Rattle.std.proofs.Common.{◌∙◌, sym, rules}
use Rattle.std.proofs.lemmas.List.Sorted.{IsPartitionPoint-from_clause}
use Rattle.th_narrow.specs.Rows.{cell_before}
use Rattle.th_narrow.proofs.Rowing.{cells_parted, cell_past, cell_here}
use Rattle.th_narrow.proofs.rows.in_cell.Goals as goal

pub returns-then-at-cells : goal.returns-then-at-cells
returns-then-at-cells c =
    let point = IsPartitionPoint-from_clause (cell_before c.args.site c.args.field) c.args.cells.now c.partition_point-at.result c.partition_point-at.ensures.partitioned (cells_parted c.args.site c.args.field c.args.cells.now c.requires) (λ a r q k. search rules) in
    sym (cell_past c.args.site c.args.field c.args.target c.args.cells.now c.partition_point-at.result c.requires point c.if-at-cells.true)

pub returns : goal.returns
returns c =
    let point = IsPartitionPoint-from_clause (cell_before c.args.site c.args.field) c.args.cells.now c.partition_point-at.result c.partition_point-at.ensures.partitioned (cells_parted c.args.site c.args.field c.args.cells.now c.requires) (λ a r q k. search rules) in
    c.cell_has.ensures ∙ sym (cell_here c.args.site c.args.field c.args.target c.args.cells.now c.partition_point-at.result c.index-cells-at.result c.requires point c.if-at-cells.false c.index-cells-at.is)

use Rattle.std.proofs.Common.{◌∙◌, sym, rules}
use Rattle.std.proofs.lemmas.List.Sorted.{IsPartitionPoint-from_clause}
use Rattle.th_narrow.specs.Rows.{elem_before}
use Rattle.th_narrow.proofs.Rowing.{elems_parted, elem_past, elem_here}
use Rattle.th_narrow.proofs.rows.in_elements.Goals as goal

pub returns-then-at-elems : goal.returns-then-at-elems
returns-then-at-elems c =
    let point = IsPartitionPoint-from_clause (elem_before c.args.site) c.args.elems.now c.partition_point-at.result c.partition_point-at.ensures.partitioned (elems_parted c.args.site c.args.elems.now c.requires) (λ a r q k. search rules) in
    sym (elem_past c.args.site c.args.target c.args.elems.now c.partition_point-at.result c.requires point c.if-at-elems.true)

pub returns : goal.returns
returns c =
    let point = IsPartitionPoint-from_clause (elem_before c.args.site) c.args.elems.now c.partition_point-at.result c.partition_point-at.ensures.partitioned (elems_parted c.args.site c.args.elems.now c.requires) (λ a r q k. search rules) in
    c.elem_has.ensures ∙ sym (elem_here c.args.site c.args.target c.args.elems.now c.partition_point-at.result c.index-elems-at.result c.requires point c.if-at-elems.false c.index-elems-at.is)

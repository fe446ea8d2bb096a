use Rattle.std.proofs.Common.{◌∙◌, ◌++◌, ap, map, sym}
use Rattle.std.proofs.lemmas.List.{append-nil, take_all}
use Rattle.th_narrow.specs.Rounds.{sure_cell, sure_element}
use Rattle.th_narrow.proofs.Greatest.{links_flagged}
use Rattle.th_narrow.proofs.narrowing.all_links.Goals as goal

pub loop-element-init : goal.loop-element-init
loop-element-init c =
    let f = sure_cell c.as_slice-syms.result.now in
    let cells = take_all c.loop-cell.cell-index c.as_slice-cell-items.result.now c.loop-cell-test.false ∙ c.as_slice-cell-items.ensures in
    c.loop-cell.invariant ∙ ap (map f) cells ∙ sym (append-nil _)

pub returns : goal.returns
returns c =
    let elems = take_all c.loop-element.element-index c.as_slice-element-items.result.now c.loop-element-test.false ∙ c.as_slice-element-items.ensures in
    c.loop-element.invariant ∙ (λ i. map (sure_cell (c.as_slice-syms.ensures i)) c.args.query.now.cells ++ map (sure_element (c.as_slice-syms.ensures i)) (elems i)) ∙ links_flagged c.args.query.now

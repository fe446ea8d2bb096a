use Rattle.std.proofs.Common.{◌≡◌, ◌∙◌, sym, refl}
use Rattle.th_query.specs.declared.query.Cell.{Cell}
use Rattle.th_linear.specs.Gathered.{name_of}
use Rattle.th_unify.proofs.Items.{among_at, all_more}
use Rattle.th_unify.proofs.Tables.{cell_agrees}
use Rattle.th_unify.proofs.classes.other_value.Goals as goal

pub returns-then-is_clash : goal.returns-then-is_clash
returns-then-is_clash c =
    let w = c.is_clash.ensures.0 c.if-is_clash.true in
    (_, among_at c.args.cells.now c.loop-other.other-index _ c.loop-other-test.true, w.0, w.1 ∙ c.name-base.ensures, (λ e. w.2 (e ∙ sym c.name-value.ensures)), refl)

pub loop-other-preserved : goal.loop-other-preserved
loop-other-preserved c =
    all_more (λ (d : Cell). d.field ≡ c.args.cell.field → name_of c.args.names.now d.base ≡ name_of c.args.names.now c.args.cell.base → name_of c.args.names.now d.value ≡ name_of c.args.names.now c.args.cell.value)
    c.args.cells.now c.loop-other.other-index _ c.loop-other-test.true c.loop-other.invariant
    (cell_agrees _ c.args.cell (name_of c.args.names.now) c.name-base.result c.name-value.result c.is_clash.result c.name-base.ensures c.name-value.ensures c.if-is_clash.false c.is_clash.ensures)

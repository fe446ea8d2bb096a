use Rattle.std.proofs.Common.{sym, subst, map}
use Rattle.th_base.specs.declared.number.FieldId.{FieldId}
use Rattle.th_machine.specs.Reaching.{AreStaticReferences}
use Rattle.th_machine.proofs.Joinings.{field_on, joined_all, joined_none}
use Rattle.th_machine.proofs.reached.joined_pairs.Goals as goal

pub loop-field-init : goal.loop-field-init
loop-field-init c =
    joined_none c.args.program.now c.args.state.now (map (λ (f : FieldId). f.0) c.as_slice-field-items.result.now) c.new-pairs.result.items c.new-pairs.ensures.items

pub loop-field-preserved : goal.loop-field-preserved
loop-field-preserved c =
    field_on c.args.program.now c.args.state.now c.as_slice-field-items.result.now c.loop-field.field-index _ c.loop-field.pairs.items c.add_joined.new.pairs.items
    (subst (λ ids. AreStaticReferences c.args.program.now (map (λ (f : FieldId). f.0) ids)) (sym c.as_slice-field-items.ensures.value) c.in_ok-fields.ensures)
    c.loop-field-test.true c.loop-field.invariant c.in_ok-add_joined.ensures

pub returns : goal.returns
returns c =
    joined_all c.args.program.now c.args.state.now c.as_slice-field-items.result.now c.loop-field.field-index c.loop-field.pairs.items
    (subst (λ ids. AreStaticReferences c.args.program.now (map (λ (f : FieldId). f.0) ids)) (sym c.as_slice-field-items.ensures.value) c.in_ok-fields.ensures)
    c.loop-field-test.false c.loop-field.invariant

use Rattle.std.proofs.Common.{◌≡◌, List, [], inl, sym, ap, subst, ◌∙◌}
use Rattle.th_base.specs.declared.class.ClassInfo.{ClassInfo}
use Rattle.th_base.specs.declared.number.FieldId.{FieldId}
use Rattle.th_ir.specs.declared.graph.Alarm.{Alarm}
use Rattle.th_graph.specs.Searching.{AreAlarmsOf}
use Rattle.th_graph.specs.Tables.{file_statics_from}
use Rattle.th_graph.proofs.Alarming.{alarms_none, alarms_step, alarms_whole}
use Rattle.th_graph.proofs.alarm_search.alarms_by.Goals as goal

pub loop-field-init : goal.loop-field-init
loop-field-init c = λ numbered. subst (AreAlarmsOf c.args.hierarchy.now c.args.program.now c.args.index.now []) (sym c.new-alarms.ensures.items) (alarms_none c.args.hierarchy.now c.args.program.now c.args.index.now)

pub loop-field-preserved : goal.loop-field-preserved
loop-field-preserved c = λ numbered.
    let h = c.args.hierarchy.now in
    let p = c.args.program.now in
    let edges = c.args.index.now in
    let fields : List FieldId = c.deref-field-items.result.now in
    let are : fields ≡ file_statics_from 0 h = c.deref-field-items.ensures.value ∙ c.in_ok-fields.ensures ∙ ap (λ (l : List ClassInfo). file_statics_from 0 l) c.classes.ensures.value in
    let adds = c.in_ok-add_alarms.ensures in
    let old : List Alarm = c.loop-field.alarms.items in
    let new : List Alarm = c.add_alarms.new.alarms.items in
    alarms_step h p edges fields c.loop-field.field-index (record { 0 = 0 }) old new numbered.fields are c.loop-field-test.true (c.loop-field.invariant numbered)
    (record { more = adds.more; is = adds.is; of_more = λ static. adds.of_more numbered static })

pub returns : goal.returns
returns c = λ numbered.
    let h = c.args.hierarchy.now in
    let fields : List FieldId = c.deref-field-items.result.now in
    let are : fields ≡ file_statics_from 0 h = c.deref-field-items.ensures.value ∙ c.in_ok-fields.ensures ∙ ap (λ (l : List ClassInfo). file_statics_from 0 l) c.classes.ensures.value in
    inl (alarms_whole h c.args.program.now c.args.index.now fields c.loop-field.field-index c.loop-field.alarms.items numbered.fields are c.loop-field-test.false (c.loop-field.invariant numbered))

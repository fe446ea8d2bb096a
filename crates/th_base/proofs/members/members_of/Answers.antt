use Rattle.std.proofs.Common.{◌+◌, take, sym, ap, subst, ◌∙◌}
use Rattle.th_base.specs.MemberIndex.{IsIndex, AreIndexed, field_entries, method_entries, overriding_entries}
use Rattle.th_base.proofs.MemberPlaces.{indexed_more}
use Rattle.th_base.proofs.members.members_of.Goals as goal

pub loop-class-preserved : goal.loop-class-preserved
loop-class-preserved c =
    let k = c.class-item.result in
    let fields : IsIndex (field_entries k.fields) c.in_ok-fields.fields.entries.items =
    subst (λ es. IsIndex es c.in_ok-fields.fields.entries.items) (c.in_ok-field_entries.ensures ∙ ap field_entries c.as_slice.ensures) c.in_ok-fields.ensures in
    let methods : IsIndex (method_entries k.methods) c.in_ok-methods.methods.entries.items =
    subst (λ es. IsIndex es c.in_ok-methods.methods.entries.items) (c.in_ok-method_entries.ensures ∙ ap method_entries c.as_slice-in-loop-class.ensures) c.in_ok-methods.ensures in
    let overriding : IsIndex (overriding_entries k.methods) c.in_ok-overriding.overriding.entries.items =
    subst (λ es. IsIndex es c.in_ok-overriding.overriding.entries.items) (c.in_ok-overriding_entries.ensures ∙ ap overriding_entries c.as_slice-in-loop-class-2.ensures) c.in_ok-overriding.ensures in
    subst (AreIndexed (take (c.loop-class.class-index + 1) c.args.classes.now)) (sym c.in_ok-push.ensures.items)
    (indexed_more c.args.classes.now c.loop-class.members.items c.loop-class.class-index k record { fields = c.in_ok-fields.fields; methods = c.in_ok-methods.methods; overriding = c.in_ok-overriding.overriding }
    c.loop-class-test.true c.class-item.is c.loop-class.invariant record { fields = fields; methods = methods; overriding = overriding })

use Rattle.std.proofs.Common.{take, ◌++◌, ◌∷◌, [], true, refl, sym, ap, ◌∙◌}
use Rattle.th_base.specs.declared.class.FieldInfo.{FieldInfo}
use Rattle.th_base.specs.MemberIndex.{field_entries}
use Rattle.th_base.proofs.MemberPlaces.{entries_kept}
use Rattle.th_base.proofs.members.field_entries.Goals as goal

pub loop-place-preserved : goal.loop-place-preserved
loop-place-preserved c =
    let x = c.index-fields-place.result in
    let more = entries_kept (λ (f : FieldInfo). true) (λ f. f.name) (λ f. f.descriptor) c.args.fields.now c.loop-place.place x c.loop-place-test.true c.index-fields-place.is refl in
    c.in_ok-push.ensures.items ∙ ap (λ l. l ++ c.in_ok-entry.entry ∷ []) c.loop-place.invariant
    ∙ ap (λ e. field_entries (take c.loop-place.place c.args.fields.now) ++ e ∷ []) c.in_ok-entry.ensures ∙ sym more

use Rattle.std.proofs.Common.{take, ◌++◌, ◌∷◌, [], true, refl, sym, ap, ◌∙◌}
use Rattle.th_base.specs.declared.class.MethodInfo.{MethodInfo}
use Rattle.th_base.specs.MemberIndex.{method_entries}
use Rattle.th_base.proofs.MemberPlaces.{entries_kept}
use Rattle.th_base.proofs.members.method_entries.Goals as goal

pub loop-place-preserved : goal.loop-place-preserved
loop-place-preserved c =
    let x = c.index-methods-place.result in
    let more = entries_kept (λ (f : MethodInfo). true) (λ f. f.name) (λ f. f.descriptor) c.args.methods.now c.loop-place.place x c.loop-place-test.true c.index-methods-place.is refl in
    c.in_ok-push.ensures.items ∙ ap (λ l. l ++ c.in_ok-entry.entry ∷ []) c.loop-place.invariant
    ∙ ap (λ e. method_entries (take c.loop-place.place c.args.methods.now) ++ e ∷ []) c.in_ok-entry.ensures ∙ sym more

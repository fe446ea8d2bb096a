use Rattle.std.proofs.Common.{take, not, ◌&&◌, ◌++◌, ◌∷◌, [], sym, ap, ◌∙◌}
use Rattle.th_base.specs.declared.class.MethodInfo.{MethodInfo}
use Rattle.th_base.specs.MemberIndex.{overriding_entries}
use Rattle.th_base.proofs.MemberPlaces.{entries_kept, entries_left}
use Rattle.th_base.proofs.members.overriding_entries.Goals as goal
use Rattle.th_base.proofs.members.overriding_entries.Goals.{then-is_overriding+in_ok-entry+in_ok-push, else-is_overriding}

pub loop-place-preserved : goal.loop-place-preserved
loop-place-preserved c =
    let x = c.index-methods-place.result in
    let i = c.loop-place.place in
    elim c.if-is_overriding.branch [
      | then-is_overriding+in_ok-entry+in_ok-push w ↦
          let more = entries_kept (λ (m : MethodInfo). not m.is_static && not m.is_private) (λ m. m.name) (λ m. m.descriptor) c.args.methods.now i x c.loop-place-test.true c.index-methods-place.is
          (sym c.is_overriding.ensures ∙ w.if-is_overriding.true) in
          ap (λ v. v.items) w.entries-is ∙ w.in_ok-push.ensures.items ∙ ap (λ l. l ++ w.in_ok-entry.entry ∷ []) c.loop-place.invariant
          ∙ ap (λ e. overriding_entries (take i c.args.methods.now) ++ e ∷ []) w.in_ok-entry.ensures ∙ sym more
      | else-is_overriding w ↦
          let more = entries_left (λ (m : MethodInfo). not m.is_static && not m.is_private) (λ m. m.name) (λ m. m.descriptor) c.args.methods.now i x c.loop-place-test.true c.index-methods-place.is
          (sym c.is_overriding.ensures ∙ w.if-is_overriding.false) in
          ap (λ v. v.items) w.entries-is ∙ c.loop-place.invariant ∙ sym more
    ]

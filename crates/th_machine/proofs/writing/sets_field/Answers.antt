use Rattle.std.proofs.Common.{◌≡◌, sym, ◌∙◌, subst}
use Rattle.std.specs.Prelude.{IfOk}
use Rattle.th_syntax.specs.declared.machine.State.{State}
use Rattle.th_machine.proofs.Written.{field_written}
use Rattle.th_machine.proofs.writing.sets_field.Goals as goal

pub returns : goal.returns
returns c =
    subst (λ (x : State). IfOk c.with_frame.result (λ s. s ≡ x))
    (field_written c.args.program.now c.args.world c.args.frame c.with_field_at-heap.result c.args.object c.args.field c.args.taken c.args.value c.in-Some.at c.in-Some-next.offset c.without_slots.result
    (sym c.in-Some.is ∙ c.instance_place.ensures.place) c.with_field_at-heap.ensures (sym c.in-Some-next.is ∙ c.requires) c.without_slots.ensures)
    c.with_frame.ensures

use Rattle.std.proofs.Common.{◌≡◌, sym, ◌∙◌, subst}
use Rattle.std.specs.Prelude.{IfOk}
use Rattle.th_syntax.specs.declared.machine.State.{State}
use Rattle.th_machine.proofs.Written.{element_written}
use Rattle.th_machine.proofs.writing.sets_element.Goals as goal

pub returns : goal.returns
returns c =
    subst (λ (x : State). IfOk c.with_frame.result (λ s. s ≡ x))
    (element_written c.args.program.now c.args.world c.args.frame c.with_element_at-heap.result c.args.array c.args.index c.args.taken c.args.value c.in-Some.at c.in-Some-next.offset c.without_slots.result
    (sym c.in-Some.is ∙ c.array_place.ensures.place) c.with_element_at-heap.ensures (sym c.in-Some-next.is ∙ c.requires) c.without_slots.ensures)
    c.with_frame.ensures

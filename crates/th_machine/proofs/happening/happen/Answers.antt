use Rattle.std.proofs.Common.{sym, ap, ◌∙◌, subst, Option}
use Rattle.std.specs.Prelude.{IfOk}
use Rattle.th_syntax.specs.declared.event.Event.TheVariants.{Launch, Handler}
use Rattle.th_syntax.specs.declared.machine.State.{State}
use Rattle.th_syntax.specs.Harness.{event}
use Rattle.th_machine.specs.Happening.{IsLed}
use Rattle.th_machine.proofs.Happened.{event_is}
use Rattle.th_machine.proofs.happening.happen.Goals as goal

pub returns-in-Launch : goal.returns-in-Launch
returns-in-Launch c =
    let files = c.args.resolved.now in
    let s = c.args.state in
    subst (λ (o : Option State). IfOk c.launch.result (IsLed files s o))
    (event_is c.args.lifecycle files s (Launch c.in-Launch.class) c.requires.runs c.requires.idle ∙ ap (event c.args.lifecycle files s) (sym c.in-Launch.is))
    c.launch.ensures

pub returns-in-Handler : goal.returns-in-Handler
returns-in-Handler c =
    let files = c.args.resolved.now in
    let s = c.args.state in
    subst (λ (o : Option State). IfOk c.call_on.result (IsLed files s o))
    (event_is c.args.lifecycle files s (Handler c.in-Handler.object c.in-Handler.handler c.in-Handler.bundle) c.requires.runs c.requires.idle
    ∙ ap (event c.args.lifecycle files s) (sym c.in-Handler.is))
    c.call_on.ensures

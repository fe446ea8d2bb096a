use Rattle.std.proofs.Common.{◌≡◌, ◌-◌, suc, ℕ, List, arith, sym, ap, ◌∙◌, subst, Option, Some}
use Rattle.std.specs.Prelude.{IfOk, slice_get}
use Rattle.th_base.specs.Handlers.{Handler, handlers}
use Rattle.th_syntax.specs.declared.machine.State.{State}
use Rattle.th_machine.specs.Happening.{IsLed}
use Rattle.th_machine.proofs.Happened.{call_is, no_stage, led_nothing}
use Rattle.th_machine.proofs.happening.call_on.Goals as goal

pub returns-in-Some-stage_led : goal.returns-in-Some-stage_led
returns-in-Some-stage_led c =
    let files = c.args.resolved.now in
    let s = c.args.state in
    let at : ℕ = c.args.object - 1 in
    let number : c.args.object ≡ suc at = omega arith in
    let h : Handler = record { name = c.as_bytes.result.now; descriptor = c.as_bytes-in-Some-stage_led.result.now } in
    let named : Some h ≡ slice_get handlers c.args.handler =
    ap (λ (n : List ℕ). Some record { name = n; descriptor = c.as_bytes-in-Some-stage_led.result.now }) c.as_bytes.ensures.value
    ∙ ap (λ (d : List ℕ). Some record { name = c.in-Some-handler_at.name.now; descriptor = d }) c.as_bytes-in-Some-stage_led.ensures.value
    ∙ c.in-Some-handler_at.ensures in
    subst (λ (o : Option State). IfOk c.call.result (IsLed files s o))
    (call_is c.args.lifecycle files s c.args.object c.args.handler at c.args.fresh c.in-Some.launched h c.in-Some-stage_led.stage number
    (sym c.in-Some.is ∙ c.launched_at.ensures) named (sym c.in-Some-stage_led.is ∙ c.stage_led.ensures))
    c.call.ensures

pub returns-in-None-stage_led : goal.returns-in-None-stage_led
returns-in-None-stage_led c =
    let files = c.args.resolved.now in
    let s = c.args.state in
    let at : ℕ = c.args.object - 1 in
    let number : c.args.object ≡ suc at = omega arith in
    let h : Handler = record { name = c.in-Some-handler_at.name.now; descriptor = c.in-Some-handler_at.descriptor.now } in
    let done = c.nothing-in-None-stage_led in
    subst (λ (o : Option State). IsLed files s o done.result)
    (no_stage c.args.lifecycle files s c.args.object c.args.handler at c.args.fresh c.in-Some.launched h number
    (sym c.in-Some.is ∙ c.launched_at.ensures) c.in-Some-handler_at.ensures (sym c.in-None-stage_led.is ∙ c.stage_led.ensures))
    (led_nothing files s done.result c.args.held c.requires.held done.ensures.came done.ensures.state done.ensures.held)

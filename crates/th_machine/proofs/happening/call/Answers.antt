use Rattle.std.proofs.Common.{◌≡◌, ◌&&◌, Bool, ℕ, [], ◌∷◌, length, sym, ap, ◌∙◌, subst, Some, if◌then◌else◌}
use Rattle.std.specs.Prelude.{IfOk}
use Rattle.std.specs.Option.{option_map}
use Rattle.th_base.specs.declared.number.MethodId.{MethodId}
use Rattle.th_base.specs.Handlers.{Handler, takes_bundle}
use Rattle.th_syntax.specs.declared.machine.Slot.TheVariants.{Holds}
use Rattle.th_syntax.specs.declared.machine.State.{State}
use Rattle.th_syntax.specs.declared.machine.Value.{Value}
use Rattle.th_syntax.specs.declared.machine.Value.TheVariants.{Address, Null as NullValue}
use Rattle.th_syntax.specs.Harness.{bundle_argument}
use Rattle.th_machine.specs.Happening.{IsLed, begun}
use Rattle.th_machine.proofs.Happened.{new_size, begun_is}
use Rattle.th_machine.proofs.happening.call.Goals as goal

pub begins_where-requires-clause-size : goal.begins_where-requires-clause-size
begins_where-requires-clause-size c =
    new_size c.args.resolved.now c.in-Some.method.0 c.in_ok-arguments-in-Some.arguments.items c.in-Some-2.frame (sym c.in-Some-2.is ∙ c.in_ok-frame-in-Some.ensures)

pub returns-in-Some-2 : goal.returns-in-Some-2
returns-in-Some-2 c =
    let files = c.args.resolved.now in
    let s = c.args.state in
    let h : Handler = record { name = c.args.name.now; descriptor = c.args.descriptor.now } in
    let takes : c.takes_bundle-takes.result ≡ takes_bundle h = c.takes_bundle-takes.ensures in
    let given : c.in_ok-arguments-in-Some.arguments.items ≡ Holds (Address c.args.launched.object) ∷ bundle_argument h c.args.fresh (length s.heap) =
    c.in_ok-arguments-in-Some.ensures
    ∙ ap (λ (b : Bool). Holds (Address c.args.launched.object) ∷ (if b then Holds c.bundle_value-bundle.result ∷ [] else [])) takes
    ∙ ap (λ (v : Value). Holds (Address c.args.launched.object) ∷ (if takes_bundle h then Holds v ∷ [] else []))
    (c.bundle_value-bundle.ensures ∙ ap (λ (a : ℕ). if c.args.fresh then Address a else NullValue) c.len-address.ensures) in
    subst (λ (t : State). IfOk c.begins_where.result (IsLed files s (Some t)))
    (ap (λ (b : Bool). begun files s c.args.place record { object = c.args.launched.object; stage = c.args.stage } b c.in-Some-2.frame)
    (c.makes_bundle-makes.ensures ∙ ap (λ (b : Bool). b && c.args.fresh) takes)
    ∙ begun_is files s c.args.place c.args.launched h c.args.fresh c.args.stage c.in-Some.method.0 c.in-Some-2.frame c.in_ok-arguments-in-Some.arguments.items
    (sym (ap (option_map (λ (id : MethodId). id.0)) c.in-Some.is) ∙ c.in_ok-method.ensures) given (sym c.in-Some-2.is ∙ c.in_ok-frame-in-Some.ensures))
    c.begins_where.ensures

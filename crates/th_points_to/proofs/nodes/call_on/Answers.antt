use Rattle.std.proofs.Common.{◌≡◌, ℕ, Some, sym, ap, subst, ◌∙◌}
use Rattle.std.specs.Option.{option_map}
use Rattle.th_base.specs.declared.number.MethodId.{MethodId}
use Rattle.th_ir.specs.Calls.{site_target}
use Rattle.th_ir.proofs.Plain.{some_is}
use Rattle.th_points_to.specs.Asked.{Calls, CallsOn, ReceiverGoes}
use Rattle.th_points_to.proofs.Adding.{adds_as, adds_both, keeps_of, keeps_both}
use Rattle.th_points_to.proofs.nodes.call_on.Goals as goal

pub returns-in_ok-give_receiver-in-Some-clause-keeps : goal.returns-in_ok-give_receiver-in-Some-clause-keeps
returns-in_ok-give_receiver-in-Some-clause-keeps c =
    keeps_both c.args.layout c.args.found.now c.call.new.found c.give_receiver.new.found c.in_ok-call-in-Some.ensures.keeps
    (keeps_of c.args.layout c.args.program.now c.call.new.found c.give_receiver.new.found _ c.in_ok-give_receiver-in-Some.ensures)

pub returns-in_ok-give_receiver-in-Some-clause-adds : goal.returns-in_ok-give_receiver-in-Some-clause-adds
returns-in_ok-give_receiver-in-Some-clause-adds c = λ are go.
    let l = c.args.layout in
    let p = c.args.program.now in
    let h = c.args.hierarchy.now in
    let n = c.args.number in
    let stmt = c.args.node.now.stmt in
    let m = c.args.method.0 in
    let a = c.args.site.0 in
    let to : MethodId = c.in-Some.to in
    let found : site_target h p c.args.kind m a ≡ Some to.0 = sym (c.site_target.ensures are) ∙ ap (option_map (λ (id : MethodId). id.0)) c.in-Some.is in
    adds_as l p c.args.found.now c.give_receiver.new.found (λ t. Calls l p t n stmt to.0 × ReceiverGoes l p t to.0 a) (λ t. (k : ℕ) → site_target h p c.args.kind m a ≡ Some k → CallsOn l p t n stmt k a)
    (λ t asks. (let on = asks to.0 found in (on.calls, on.receiver)))
    (λ t range is k e. subst (λ (i : ℕ). CallsOn l p t n stmt i a) (some_is to.0 k (sym found ∙ e)) record { calls = is.0; receiver = is.1 })
    (adds_both l p c.args.found.now c.call.new.found c.give_receiver.new.found (λ t. Calls l p t n stmt to.0) (λ t. ReceiverGoes l p t to.0 a)
    (c.in_ok-call-in-Some.ensures.adds go) c.in_ok-give_receiver-in-Some.ensures)

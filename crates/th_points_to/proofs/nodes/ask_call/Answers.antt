use Rattle.std.proofs.Common.{◌≡◌, ℕ, Some, sym, ap, subst, ◌∙◌}
use Rattle.std.specs.Option.{option_map}
use Rattle.th_base.specs.declared.number.MethodId.{MethodId}
use Rattle.th_ir.specs.declared.stmt.CallKind.{CallKind}
use Rattle.th_ir.specs.Calls.{static_target}
use Rattle.th_ir.proofs.Plain.{some_is}
use Rattle.th_points_to.specs.Asked.{Calls, CallAsks}
use Rattle.th_points_to.specs.Found.{Adds}
use Rattle.th_points_to.proofs.Adding.{adds_as}
use Rattle.th_points_to.proofs.nodes.ask_call.Goals as goal

pub returns-in_ok-call-in-Some-clause-adds : goal.returns-in_ok-call-in-Some-clause-adds
returns-in_ok-call-in-Some-clause-adds c = λ are go.
    let l = c.args.layout in
    let p = c.args.program.now in
    let h = c.args.hierarchy.now in
    let n = c.args.number in
    let stmt = c.args.node.now.stmt in
    let m = c.args.method.0 in
    let to : MethodId = c.in-Some.to in
    let found : static_target h m ≡ Some to.0 = sym (c.static_target.ensures are) ∙ ap (option_map (λ (id : MethodId). id.0)) c.in-Some.is in
    subst (λ (k : CallKind). Adds l p c.args.found.now c.call.new.found (λ t. CallAsks h l p t n k m stmt)) (sym c.in-Static.is)
    (adds_as l p c.args.found.now c.call.new.found (λ t. Calls l p t n stmt to.0) (λ t. (k : ℕ) → static_target h m ≡ Some k → Calls l p t n stmt k)
    (λ t asks. asks to.0 found)
    (λ t range calls k e. subst (λ (i : ℕ). Calls l p t n stmt i) (some_is to.0 k (sym found ∙ e)) calls)
    (c.in_ok-call-in-Some.ensures.adds go))

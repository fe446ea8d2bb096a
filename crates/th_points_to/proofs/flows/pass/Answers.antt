use Rattle.std.proofs.Common.{rules, ◌≡◌, Some, slice_get, sym, ap, subst, ◌∙◌}
use Rattle.std.specs.Prelude.{zip}
use Rattle.th_ir.specs.declared.program.Method.{Method}
use Rattle.th_ir.proofs.Plain.{same_found}
use Rattle.th_points_to.specs.Asked.{ArgumentsGo, FlowAll, passed}
use Rattle.th_points_to.proofs.Adding.{adds_as}
use Rattle.th_points_to.proofs.flows.pass.Goals as goal

pub returns-in_ok-flow_all-in-Some : goal.returns-in_ok-flow_all-in-Some
returns-in_ok-flow_all-in-Some c =
    let l = c.args.layout in
    let p = c.args.program.now in
    let k = c.args.kind in
    let method : Method = c.in-Some.method.now in
    let found : slice_get p.methods c.args.to.0 ≡ Some method = search rules in
    let params : c.passed-params.result.now ≡ passed k method.params = c.passed-params.ensures ∙ ap (passed k) c.as_slice.ensures in
    let pairs : zip c.passed.result.now c.passed-params.result.now ≡ zip (passed k c.args.args.now) (passed k method.params) =
    ap (λ xs. zip xs c.passed-params.result.now) c.passed.ensures ∙ ap (λ ys. zip (passed k c.args.args.now) ys) params in
    adds_as l p c.args.found.now c.flow_all.new.found (λ t. FlowAll l t (zip c.passed.result.now c.passed-params.result.now)) (λ t. ArgumentsGo l p t k c.args.args.now c.args.to.0)
    (λ t is. subst (FlowAll l t) (sym pairs) (is method found))
    (λ t range is other at. subst (λ (m : Method). FlowAll l t (zip (passed k c.args.args.now) (passed k m.params))) (same_found _ method other found at) (subst (FlowAll l t) pairs is))
    (c.in_ok-flow_all-in-Some.ensures p)

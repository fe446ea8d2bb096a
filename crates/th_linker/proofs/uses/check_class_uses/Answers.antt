use Rattle.std.proofs.Common.{◌≡◌, [], ◌++◌, List, ℕ, subst, sym, ap, ◌∙◌}
use Rattle.std.specs.List.{flat_map}
use Rattle.std.proofs.lemmas.Result.{err_from_is_err_and}
use Rattle.th_syntax.specs.LinkChecks.{code_refusals}
use Rattle.th_linker.specs.Checking.{Refuses}
use Rattle.th_linker.proofs.InOrder.{none_more, none_found, stops_at}
use Rattle.th_linker.proofs.uses.check_class_uses.Goals as goal

pub returns-in_err-check_method_uses : goal.returns-in_err-check_method_uses
returns-in_err-check_method_uses c =
    let p = err_from_is_err_and c.from_residual.result c.from_residual.ensures.1 in
    let found = code_refusals c.args.program.now c.args.class.now in
    rw (p.1, p.2)
    (subst (λ xs. Refuses c.in_err-check_method_uses.field-0.0 (flat_map found xs)) c.as_slice-method-items.ensures
    (stops_at found c.in_err-check_method_uses.field-0.0 c.as_slice-method-items.result.now c.loop-method.method-index c.method-item.result c.loop-method-test.true c.method-item.is c.loop-method.invariant c.in_err-check_method_uses.ensures))

pub loop-method-preserved : goal.loop-method-preserved
loop-method-preserved c =
    none_more (code_refusals c.args.program.now c.args.class.now) c.as_slice-method-items.result.now c.loop-method.method-index c.method-item.result c.loop-method-test.true c.method-item.is c.loop-method.invariant c.in_ok-check_method_uses.ensures

pub returns : goal.returns
returns c =
    let found = code_refusals c.args.program.now c.args.class.now in
    subst (λ xs. flat_map found xs ≡ []) c.as_slice-method-items.ensures (none_found found c.as_slice-method-items.result.now c.loop-method.method-index c.loop-method-test.false c.loop-method.invariant)

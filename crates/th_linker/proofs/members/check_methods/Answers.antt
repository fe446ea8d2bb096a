use Rattle.std.proofs.Common.{◌≡◌, ◌&&◌, List, [], ◌∷◌, ◌++◌, Bool, take, subst, sym, ap, ◌∙◌}
use Rattle.std.specs.Prelude.{codes}
use Rattle.std.proofs.lemmas.Result.{err_from_is_err_and}
use Rattle.th_syntax.specs.declared.cause.TheConstants as causes
use Rattle.th_syntax.specs.Flaws.{unless}
use Rattle.th_syntax.specs.LinkChecks.{found_along, method_refusals, is_code_fit, is_initialiser_fit, refusal_at}
use Rattle.th_linker.specs.Checking.{Refuses}
use Rattle.th_linker.proofs.InOrder.{along_more_in, along_stops_in, along_found, here_at}
use Rattle.th_linker.proofs.members.check_methods.Goals as goal

pub is_new_method-is_new-requires-clause-method : goal.is_new_method-is_new-requires-clause-method
is_new_method-is_new-requires-clause-method c = here_at c.as_slice-method-items.result.now c.args.class.now.methods c.loop-at.at c.method-item.result c.as_slice-method-items.ensures c.loop-at-test.true c.method-item.is

pub returns-in_err-check_method : goal.returns-in_err-check_method
returns-in_err-check_method c =
    let p = err_from_is_err_and c.from_residual.result c.from_residual.ensures.1 in
    let x = c.method-item.result in
    let fail = c.in_err-check_method.field-0.0 in
    rw (p.1, p.2)
    (along_stops_in (method_refusals c.args.class.now) fail c.as_slice-method-items.result.now c.args.class.now.methods c.loop-at.at x c.as_slice-method-items.ensures c.loop-at-test.true c.method-item.is c.loop-at.invariant
    (subst (λ b. Refuses fail (unless (b && is_code_fit x && is_initialiser_fit x) (refusal_at causes.MEMBER c.args.class.now (x.name ++ x.descriptor)))) c.is_new_method-is_new.ensures c.in_err-check_method.ensures))

pub loop-at-preserved : goal.loop-at-preserved
loop-at-preserved c =
    let x = c.method-item.result in
    along_more_in (method_refusals c.args.class.now) c.as_slice-method-items.result.now c.args.class.now.methods c.loop-at.at x c.as_slice-method-items.ensures c.loop-at-test.true c.method-item.is c.loop-at.invariant
    (sym (ap (λ b. unless (b && is_code_fit x && is_initialiser_fit x) (refusal_at causes.MEMBER c.args.class.now (x.name ++ x.descriptor))) c.is_new_method-is_new.ensures) ∙ c.in_ok-check_method.ensures)

pub returns : goal.returns
returns c =
    subst (λ xs. found_along (method_refusals c.args.class.now) [] xs ≡ []) c.as_slice-method-items.ensures
    (along_found (method_refusals c.args.class.now) c.as_slice-method-items.result.now c.loop-at.at c.loop-at-test.false c.loop-at.invariant)

use Rattle.std.proofs.Common.{◌≡◌, ◌&&◌, List, [], ◌∷◌, ◌++◌, Bool, take, subst, sym, ap, ◌∙◌}
use Rattle.std.specs.Prelude.{codes}
use Rattle.std.proofs.lemmas.Result.{err_from_is_err_and}
use Rattle.th_syntax.specs.declared.cause.TheConstants as causes
use Rattle.th_syntax.specs.Flaws.{unless}
use Rattle.th_syntax.specs.LinkChecks.{found_along, field_refusals, is_code_fit, is_initialiser_fit, refusal_at}
use Rattle.th_linker.specs.Checking.{Refuses}
use Rattle.th_linker.proofs.InOrder.{along_more_in, along_stops_in, along_found, here_at}
use Rattle.th_linker.proofs.members.check_fields.Goals as goal

pub is_new_field-is_new-requires-clause-field : goal.is_new_field-is_new-requires-clause-field
is_new_field-is_new-requires-clause-field c = here_at c.as_slice-field-items.result.now c.args.class.now.fields c.loop-at.at c.field-item.result c.as_slice-field-items.ensures c.loop-at-test.true c.field-item.is

pub returns-in_err-check_field : goal.returns-in_err-check_field
returns-in_err-check_field c =
    let p = err_from_is_err_and c.from_residual.result c.from_residual.ensures.1 in
    let x = c.field-item.result in
    let fail = c.in_err-check_field.field-0.0 in
    rw (p.1, p.2)
    (along_stops_in (field_refusals c.args.class.now) fail c.as_slice-field-items.result.now c.args.class.now.fields c.loop-at.at x c.as_slice-field-items.ensures c.loop-at-test.true c.field-item.is c.loop-at.invariant
    (subst (λ b. Refuses fail (unless b (refusal_at causes.MEMBER c.args.class.now (x.name ++ codes ":" ++ x.descriptor)))) c.is_new_field-is_new.ensures c.in_err-check_field.ensures))

pub loop-at-preserved : goal.loop-at-preserved
loop-at-preserved c =
    let x = c.field-item.result in
    along_more_in (field_refusals c.args.class.now) c.as_slice-field-items.result.now c.args.class.now.fields c.loop-at.at x c.as_slice-field-items.ensures c.loop-at-test.true c.field-item.is c.loop-at.invariant
    (sym (ap (λ b. unless b (refusal_at causes.MEMBER c.args.class.now (x.name ++ codes ":" ++ x.descriptor))) c.is_new_field-is_new.ensures) ∙ c.in_ok-check_field.ensures)

pub returns : goal.returns
returns c =
    subst (λ xs. found_along (field_refusals c.args.class.now) [] xs ≡ []) c.as_slice-field-items.ensures
    (along_found (field_refusals c.args.class.now) c.as_slice-field-items.result.now c.loop-at.at c.loop-at-test.false c.loop-at.invariant)

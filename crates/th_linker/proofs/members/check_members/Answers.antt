use Rattle.std.proofs.Common.{◌≡◌, [], ◌++◌, List, ℕ, subst, sym, ap, ◌∙◌}
use Rattle.std.specs.List.{flat_map}
use Rattle.std.proofs.lemmas.Result.{err_from_is_err_and}
use Rattle.th_syntax.specs.declared.class_file.ClassFile.{ClassFile}
use Rattle.th_syntax.specs.LinkChecks.{found_along, field_refusals, method_refusals}
use Rattle.th_linker.specs.Checking.{Refuses}
use Rattle.th_linker.proofs.InOrder.{none_more, none_found, stops_at}
use Rattle.th_linker.proofs.members.check_members.Goals as goal

pub returns-in_err-check_class_members : goal.returns-in_err-check_class_members
returns-in_err-check_class_members c =
    let p = err_from_is_err_and c.from_residual.result c.from_residual.ensures.1 in
    let found = λ (k : ClassFile). found_along (field_refusals k) [] k.fields ++ found_along (method_refusals k) [] k.methods in
    rw (p.1, p.2)
    (subst (λ xs. Refuses c.in_err-check_class_members.field-0.0 (flat_map found xs)) c.files-class-items.ensures
    (stops_at found c.in_err-check_class_members.field-0.0 c.files-class-items.result.now c.loop-at.at c.class-item.result c.loop-at-test.true c.class-item.is c.loop-at.invariant c.in_err-check_class_members.ensures))

pub loop-at-preserved : goal.loop-at-preserved
loop-at-preserved c =
    none_more (λ (k : ClassFile). found_along (field_refusals k) [] k.fields ++ found_along (method_refusals k) [] k.methods) c.files-class-items.result.now c.loop-at.at c.class-item.result c.loop-at-test.true c.class-item.is c.loop-at.invariant c.in_ok-check_class_members.ensures

pub returns : goal.returns
returns c =
    let found = λ (k : ClassFile). found_along (field_refusals k) [] k.fields ++ found_along (method_refusals k) [] k.methods in
    subst (λ xs. flat_map found xs ≡ []) c.files-class-items.ensures (none_found found c.files-class-items.result.now c.loop-at.at c.loop-at-test.false c.loop-at.invariant)

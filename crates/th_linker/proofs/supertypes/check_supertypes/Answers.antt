use Rattle.std.proofs.Common.{◌≡◌, [], ◌++◌, List, ℕ, subst, sym, ap, ◌∙◌}
use Rattle.std.specs.List.{flat_map}
use Rattle.std.proofs.lemmas.Result.{err_from_is_err_and}
use Rattle.th_syntax.specs.declared.class_file.ClassFile.{ClassFile}
use Rattle.th_syntax.specs.LinkChecks.{superclass_refusals, interface_refusals}
use Rattle.th_linker.specs.Checking.{Refuses}
use Rattle.th_linker.proofs.InOrder.{none_more, none_found, stops_at}
use Rattle.th_linker.proofs.supertypes.check_supertypes.Goals as goal

pub returns-in_err-check_class_supertypes : goal.returns-in_err-check_class_supertypes
returns-in_err-check_class_supertypes c =
    let p = err_from_is_err_and c.from_residual.result c.from_residual.ensures.1 in
    let found = λ (k : ClassFile). superclass_refusals c.args.classes.now k ++ interface_refusals c.args.classes.now k in
    rw (p.1, p.2)
    (subst (λ xs. Refuses c.in_err-check_class_supertypes.field-0.0 (flat_map found xs)) c.files-class-items.ensures
    (stops_at found c.in_err-check_class_supertypes.field-0.0 c.files-class-items.result.now c.loop-class.class-index c.class-item.result c.loop-class-test.true c.class-item.is c.loop-class.invariant c.in_err-check_class_supertypes.ensures))

pub loop-class-preserved : goal.loop-class-preserved
loop-class-preserved c =
    none_more (λ (k : ClassFile). superclass_refusals c.args.classes.now k ++ interface_refusals c.args.classes.now k) c.files-class-items.result.now c.loop-class.class-index c.class-item.result c.loop-class-test.true c.class-item.is c.loop-class.invariant c.in_ok-check_class_supertypes.ensures

pub returns : goal.returns
returns c =
    let found = λ (k : ClassFile). superclass_refusals c.args.classes.now k ++ interface_refusals c.args.classes.now k in
    subst (λ xs. flat_map found xs ≡ []) c.files-class-items.ensures (none_found found c.files-class-items.result.now c.loop-class.class-index c.loop-class-test.false c.loop-class.invariant)

use Rattle.std.proofs.Common.{◌≡◌, [], ◌++◌, List, ℕ, subst, sym, ap, ◌∙◌}
use Rattle.std.specs.List.{flat_map}
use Rattle.std.proofs.lemmas.Result.{err_from_is_err_and}
use Rattle.th_syntax.specs.Flags.{is_interface}
use Rattle.th_syntax.specs.LinkChecks.{supertype_name_refusals}
use Rattle.th_linker.specs.Checking.{Refuses}
use Rattle.th_linker.proofs.InOrder.{none_more, none_found, stops_at}
use Rattle.th_linker.proofs.supertypes.check_interfaces.Goals as goal

pub returns-in_err-check_interface : goal.returns-in_err-check_interface
returns-in_err-check_interface c =
    let p = err_from_is_err_and c.from_residual.result c.from_residual.ensures.1 in
    let found = supertype_name_refusals c.args.classes.now c.args.class.now is_interface in
    rw (p.1, p.2)
    (subst (λ xs. Refuses c.in_err-check_interface.field-0.0 (flat_map found xs)) c.as_slice-name-items.ensures
    (stops_at found c.in_err-check_interface.field-0.0 c.as_slice-name-items.result.now c.loop-name.name-index c.name-item.result c.loop-name-test.true c.name-item.is c.loop-name.invariant c.in_err-check_interface.ensures))

pub loop-name-preserved : goal.loop-name-preserved
loop-name-preserved c =
    none_more (supertype_name_refusals c.args.classes.now c.args.class.now is_interface) c.as_slice-name-items.result.now c.loop-name.name-index c.name-item.result c.loop-name-test.true c.name-item.is c.loop-name.invariant c.in_ok-check_interface.ensures

pub returns : goal.returns
returns c =
    let found = supertype_name_refusals c.args.classes.now c.args.class.now is_interface in
    subst (λ xs. flat_map found xs ≡ []) c.as_slice-name-items.ensures (none_found found c.as_slice-name-items.result.now c.loop-name.name-index c.loop-name-test.false c.loop-name.invariant)

use Rattle.std.proofs.Common.{map}
use Rattle.std.specs.List.{flat_map}
use Rattle.std.proofs.lemmas.Result.{err_from_is_err_and}
use Rattle.th_syntax.specs.Checks as checks
use Rattle.th_reader.specs.Passes.{front_flaw}
use Rattle.th_reader.specs.RawView.{member_view}
use Rattle.th_reader.proofs.Walking.{item_on, item_ends}
use Rattle.th_reader.proofs.names.check_methods.Goals as goal

pub returns-in_err-check_method : goal.returns-in_err-check_method
returns-in_err-check_method c =
    let p = err_from_is_err_and c.from_residual.result c.from_residual.ensures.1 in
    rw (p.1, p.2)
    (item_ends (checks.method_name_flaws c.args.pool.now) member_view c.args.methods.now c.loop-method.method-index c.method-item.result c.in_err-check_method.field-0.0 (front_flaw (flat_map (checks.method_name_flaws c.args.pool.now) (map member_view c.args.methods.now))) c.loop-method-test.true c.method-item.is c.in_err-check_method.ensures c.loop-method.invariant)

pub loop-method-preserved : goal.loop-method-preserved
loop-method-preserved c =
    item_on (checks.method_name_flaws c.args.pool.now) member_view c.args.methods.now c.loop-method.method-index c.method-item.result (front_flaw (flat_map (checks.method_name_flaws c.args.pool.now) (map member_view c.args.methods.now))) c.loop-method-test.true c.method-item.is c.in_ok-check_method.ensures c.loop-method.invariant

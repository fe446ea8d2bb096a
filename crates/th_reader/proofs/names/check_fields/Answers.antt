use Rattle.std.proofs.Common.{map}
use Rattle.std.specs.List.{flat_map}
use Rattle.std.proofs.lemmas.Result.{err_from_is_err_and}
use Rattle.th_syntax.specs.Checks as checks
use Rattle.th_reader.specs.Passes.{front_flaw}
use Rattle.th_reader.specs.RawView.{member_view}
use Rattle.th_reader.proofs.Walking.{item_on, item_ends}
use Rattle.th_reader.proofs.names.check_fields.Goals as goal

pub returns-in_err-check_field : goal.returns-in_err-check_field
returns-in_err-check_field c =
    let p = err_from_is_err_and c.from_residual.result c.from_residual.ensures.1 in
    rw (p.1, p.2)
    (item_ends (checks.field_name_flaws c.args.pool.now) member_view c.args.fields.now c.loop-field.field-index c.field-item.result c.in_err-check_field.field-0.0 (front_flaw (flat_map (checks.field_name_flaws c.args.pool.now) (map member_view c.args.fields.now))) c.loop-field-test.true c.field-item.is c.in_err-check_field.ensures c.loop-field.invariant)

pub loop-field-preserved : goal.loop-field-preserved
loop-field-preserved c =
    item_on (checks.field_name_flaws c.args.pool.now) member_view c.args.fields.now c.loop-field.field-index c.field-item.result (front_flaw (flat_map (checks.field_name_flaws c.args.pool.now) (map member_view c.args.fields.now))) c.loop-field-test.true c.field-item.is c.in_ok-check_field.ensures c.loop-field.invariant

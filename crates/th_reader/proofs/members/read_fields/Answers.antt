use Rattle.std.proofs.Common.{map}
use Rattle.std.proofs.lemmas.Result.{err_from_is_err_and}
use Rattle.th_syntax.specs.Checks as checks
use Rattle.th_syntax.specs.ClassGrammar as grammar
use Rattle.th_reader.specs.RawView.{member_view}
use Rattle.th_reader.proofs.Making.{begin, here, on, stop, done}
use Rattle.th_reader.proofs.members.read_fields.Goals as goal

pub loop-raw-init : goal.loop-raw-init
loop-raw-init c = rw c.new-read.ensures (begin (checks.constant_flaws c.args.pool.now) (checks.member_index_flaws c.args.pool.now) (grammar.field_value c.args.pool.now) member_view c.args.fields.now c.requires)

pub read_field-requires : goal.read_field-requires
read_field-requires c = here (checks.constant_flaws c.args.pool.now) (checks.member_index_flaws c.args.pool.now) (grammar.field_value c.args.pool.now) member_view c.args.fields.now c.loop-raw.raw-index c.loop-raw.read c.raw-item.result c.loop-raw-test.true c.raw-item.is c.loop-raw.invariant

pub returns-in_err-field : goal.returns-in_err-field
returns-in_err-field c =
    let p = err_from_is_err_and c.from_residual.result c.from_residual.ensures.1 in
    rw (p.1, p.2)
    (stop (checks.constant_flaws c.args.pool.now) (checks.member_index_flaws c.args.pool.now) (grammar.field_value c.args.pool.now) member_view c.args.fields.now c.loop-raw.raw-index c.loop-raw.read c.raw-item.result ((grammar.field_value c.args.pool.now) (member_view c.raw-item.result)) (grammar.all_there (map (grammar.field_value c.args.pool.now) (map member_view c.args.fields.now))) c.in_err-field.field-0.0 c.loop-raw-test.true c.raw-item.is c.in_err-field.ensures c.loop-raw.invariant)

pub loop-raw-preserved : goal.loop-raw-preserved
loop-raw-preserved c =
    rw c.in_ok-push.ensures.ok
    (on (checks.constant_flaws c.args.pool.now) (checks.member_index_flaws c.args.pool.now) (grammar.field_value c.args.pool.now) member_view c.args.fields.now c.loop-raw.raw-index c.loop-raw.read c.raw-item.result c.in_ok-field.field c.loop-raw-test.true c.raw-item.is c.in_ok-field.ensures.0 c.in_ok-field.ensures.1 c.loop-raw.invariant)

pub returns : goal.returns
returns c = done (checks.constant_flaws c.args.pool.now) (checks.member_index_flaws c.args.pool.now) (grammar.field_value c.args.pool.now) member_view c.args.fields.now c.loop-raw.raw-index c.loop-raw.read c.loop-raw-test.false c.loop-raw.invariant

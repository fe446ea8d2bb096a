use Rattle.std.proofs.Common.{map}
use Rattle.std.proofs.lemmas.Result.{err_from_is_err_and}
use Rattle.th_syntax.specs.Checks as checks
use Rattle.th_syntax.specs.ClassGrammar as grammar
use Rattle.th_reader.specs.RawView.{class_view, member_view}
use Rattle.th_reader.proofs.Making.{begin, here, on, stop, done}
use Rattle.th_reader.proofs.members.read_methods.Goals as goal

pub loop-raw-init : goal.loop-raw-init
loop-raw-init c = rw c.new-read.ensures (begin (checks.method_flaws (class_view c.args.class.now)) (checks.member_index_flaws c.args.class.now.pool) (grammar.method_value c.args.class.now.pool) member_view c.args.methods.now c.requires)

pub read_method-requires : goal.read_method-requires
read_method-requires c = here (checks.method_flaws (class_view c.args.class.now)) (checks.member_index_flaws c.args.class.now.pool) (grammar.method_value c.args.class.now.pool) member_view c.args.methods.now c.loop-raw.raw-index c.loop-raw.read c.raw-item.result c.loop-raw-test.true c.raw-item.is c.loop-raw.invariant

pub returns-in_err-method : goal.returns-in_err-method
returns-in_err-method c =
    let p = err_from_is_err_and c.from_residual.result c.from_residual.ensures.1 in
    rw (p.1, p.2)
    (stop (checks.method_flaws (class_view c.args.class.now)) (checks.member_index_flaws c.args.class.now.pool) (grammar.method_value c.args.class.now.pool) member_view c.args.methods.now c.loop-raw.raw-index c.loop-raw.read c.raw-item.result ((grammar.method_value c.args.class.now.pool) (member_view c.raw-item.result)) (grammar.all_there (map (grammar.method_value c.args.class.now.pool) (map member_view c.args.methods.now))) c.in_err-method.field-0.0 c.loop-raw-test.true c.raw-item.is c.in_err-method.ensures c.loop-raw.invariant)

pub loop-raw-preserved : goal.loop-raw-preserved
loop-raw-preserved c =
    rw c.in_ok-push.ensures.ok
    (on (checks.method_flaws (class_view c.args.class.now)) (checks.member_index_flaws c.args.class.now.pool) (grammar.method_value c.args.class.now.pool) member_view c.args.methods.now c.loop-raw.raw-index c.loop-raw.read c.raw-item.result c.in_ok-method.method c.loop-raw-test.true c.raw-item.is c.in_ok-method.ensures.0 c.in_ok-method.ensures.1 c.loop-raw.invariant)

pub returns : goal.returns
returns c = done (checks.method_flaws (class_view c.args.class.now)) (checks.member_index_flaws c.args.class.now.pool) (grammar.method_value c.args.class.now.pool) member_view c.args.methods.now c.loop-raw.raw-index c.loop-raw.read c.loop-raw-test.false c.loop-raw.invariant

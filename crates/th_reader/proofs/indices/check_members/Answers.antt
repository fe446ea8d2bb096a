use Rattle.std.proofs.Common.{map}
use Rattle.std.specs.List.{flat_map}
use Rattle.std.proofs.lemmas.Result.{err_from_is_err_and}
use Rattle.th_syntax.specs.Checks as checks
use Rattle.th_reader.specs.Passes.{front_flaw}
use Rattle.th_reader.specs.RawView.{member_view}
use Rattle.th_reader.proofs.Walking.{item_on, item_ends}
use Rattle.th_reader.proofs.indices.check_members.Goals as goal

pub returns-in_err-check_member : goal.returns-in_err-check_member
returns-in_err-check_member c =
    let p = err_from_is_err_and c.from_residual.result c.from_residual.ensures.1 in
    rw (p.1, p.2)
    (item_ends (checks.member_index_flaws c.args.pool.now) member_view c.args.members.now c.loop-member.member-index c.member-item.result c.in_err-check_member.field-0.0 (front_flaw (flat_map (checks.member_index_flaws c.args.pool.now) (map member_view c.args.members.now))) c.loop-member-test.true c.member-item.is c.in_err-check_member.ensures c.loop-member.invariant)

pub loop-member-preserved : goal.loop-member-preserved
loop-member-preserved c =
    item_on (checks.member_index_flaws c.args.pool.now) member_view c.args.members.now c.loop-member.member-index c.member-item.result (front_flaw (flat_map (checks.member_index_flaws c.args.pool.now) (map member_view c.args.members.now))) c.loop-member-test.true c.member-item.is c.in_ok-check_member.ensures c.loop-member.invariant

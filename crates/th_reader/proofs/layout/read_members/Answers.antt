use Rattle.std.proofs.Common.{map}
use Rattle.std.proofs.lemmas.List.{map-append}
use Rattle.std.proofs.lemmas.Result.{err_from_is_err_and}
use Rattle.th_syntax.specs.Forms.{read}
use Rattle.th_syntax.specs.ClassBytes as file
use Rattle.th_reader.specs.RawView.{member_view}
use Rattle.th_reader.specs.Reads.{found}
use Rattle.th_reader.proofs.Counted.{goes_on, ends_so, is_done, begins, no_count}
use Rattle.th_reader.proofs.layout.read_members.Goals as goal

pub returns-in-Err : goal.returns-in-Err
returns-in-Err c = no_count file.member c.args.from.at c.args.from.rest.now c.in-Err.flaw c.in-Err.ensures

pub loop-init : goal.loop-init
loop-init c =
    rw c.new-members.ensures.items
    (begins file.member c.args.from.at c.in-Ok.found.0 c.args.from.at c.in-Ok.found.1.at c.args.from.rest.now c.in-Ok.found.1.rest.now c.in-Ok.ensures)

pub returns-in_err-member : goal.returns-in_err-member
returns-in_err-member c =
    let p = err_from_is_err_and c.from_residual.result c.from_residual.ensures.1 in
    rw (p.1, p.2)
    (ends_so (found member_view) file.member c.in_err-member.field-0.0 (map member_view c.loop.members.items) c.in-Ok.found.0 c.loop.counter c.loop.place.at c.loop.place.rest.now (read (file.counted file.member) c.args.from.at c.args.from.rest.now) c.loop-test.true c.in_err-member.ensures c.loop.invariant)

pub loop-preserved : goal.loop-preserved
loop-preserved c =
    rw (c.in_ok-push.ensures.items, map-append)
    (goes_on file.member (map member_view c.loop.members.items) c.in-Ok.found.0 c.loop.counter c.loop.place.at c.loop.place.rest.now (member_view c.in_ok-member.member) c.in_ok-member.after.at c.in_ok-member.after.rest.now (read (file.counted file.member) c.args.from.at c.args.from.rest.now) c.loop-test.true c.in_ok-member.ensures c.loop.invariant)

pub returns : goal.returns
returns c = is_done file.member (map member_view c.loop.members.items) c.in-Ok.found.0 c.loop.counter c.loop.place.at c.loop.place.rest.now (read (file.counted file.member) c.args.from.at c.args.from.rest.now) c.loop-test.false c.loop.invariant

use Rattle.std.proofs.Common.{arith}
use Rattle.th_machine.specs.Opening.{fields_set}
use Rattle.th_machine.proofs.Opened.{fields_more, fields_done}
use Rattle.th_machine.proofs.opening.with_fields_set.Goals as goal

pub loop-member-preserved : goal.loop-member-preserved
loop-member-preserved c =
    let so_far = c.loop-member.invariant.place in
    record {
      place = omega (arith, so_far);
      same = fields_more c.args.resolved.now c.loop-member.at c.loop-member.member-index c.args.members.now c.member-item.result c.loop-member.changed c.with_field_set-changed.result
          (fields_set c.args.resolved.now c.args.first c.args.members.now c.args.statics) c.loop-member-test.true c.member-item.is c.with_field_set-changed.ensures c.loop-member.invariant.same;
    }

pub returns : goal.returns
returns c =
    fields_done c.args.resolved.now c.loop-member.at c.loop-member.member-index c.args.members.now c.loop-member.changed
    (fields_set c.args.resolved.now c.args.first c.args.members.now c.args.statics) c.loop-member-test.false c.loop-member.invariant.same

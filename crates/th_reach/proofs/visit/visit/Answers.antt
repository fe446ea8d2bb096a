use Rattle.std.proofs.Common.{◌∙◌, arith}
use Rattle.th_reach.proofs.Visits.{has_knows, nil_of, begins, looks_on, ends_whole}
use Rattle.th_reach.proofs.visit.visit.Goals as goal

pub loop-at-init : goal.loop-at-init
loop-at-init c = begins c.args.instrs.now c.new-found.result.keys c.add.new.found.keys c.in_ok-add.ensures (nil_of c.new-found.result.keys c.new-found.ensures.len)

pub loop-at-preserved : goal.loop-at-preserved
loop-at-preserved c =
    looks_on c.args.instrs.now c.loop-at.at c.offset_at-offset.result c.loop-at.found.keys c.add_successors.new.found.keys c.loop-at.invariant c.offset_at-offset.ensures c.in_ok-add_successors.ensures

pub returns : goal.returns
returns c = λ x. has_knows c.loop-at.found.keys x ∙ ends_whole c.args.instrs.now c.loop-at.at c.loop-at.found.keys c.loop-at.invariant (let size = c.len.ensures.len in let over = c.loop-at-test.false in omega (arith, size, over)) x

use Rattle.std.proofs.Common.{arith}
use Rattle.std.proofs.lemmas.List.{nil_from_length}
use Rattle.th_machine.proofs.Leadings.{begins, looks_on, ends_whole}
use Rattle.th_machine.proofs.leading.led_by.Goals as goal

pub loop-at-init : goal.loop-at-init
loop-at-init c = begins c.args.heap.now c.args.value c.new-found.result.keys c.add.new.found.keys c.in_ok-add.ensures (nil_from_length c.new-found.result.keys c.new-found.ensures.len)

pub loop-at-preserved : goal.loop-at-preserved
loop-at-preserved c =
    looks_on c.args.heap.now c.args.value c.loop-at.at c.address_at-address.result c.loop-at.found.keys c.add_next.new.found.keys c.loop-at.invariant c.address_at-address.ensures c.in_ok-add_next.ensures

pub returns : goal.returns
returns c = ends_whole c.args.heap.now c.args.value c.loop-at.at c.loop-at.found.keys c.loop-at.invariant (let size = c.len.ensures.len in let over = c.loop-at-test.false in omega (arith, size, over))

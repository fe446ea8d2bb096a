use Rattle.std.proofs.Common.{◌+◌, ◌<◌, ◌≤◌, arith}
use Rattle.th_gen.specs.Placing.{starts_from, code_end, starts_of, code_length}
use Rattle.th_gen.proofs.Loops.{too_long, next_start, all_started, sized}
use Rattle.th_gen.proofs.placing.starts_of.Goals as goal

pub returns-then-behind-gt-MOST_CODE_BYTES : goal.returns-then-behind-gt-MOST_CODE_BYTES
unfolding code_length
returns-then-behind-gt-MOST_CODE_BYTES c =
    let long : 65535 < c.loop-instr.pc + c.size.result = (let e = c.from.ensures in let t = c.if-behind-gt-MOST_CODE_BYTES.true in omega arith) in
    too_long c.args.pool.now.items.keys c.loop-instr.pc c.size.result (code_end c.args.pool.now.items.keys 0 c.args.instrs.now) c.args.instrs.now c.loop-instr.instr-index c.instr-item.result c.loop-instr-test.true c.instr-item.is c.loop-instr.invariant.1
    (sized c.args.pool.now.items.keys c.loop-instr.pc c.instr-item.result c.in_ok-spelling.spelling c.size.result c.in_ok-spelling.ensures c.size.ensures.value) long

pub loop-instr-preserved : goal.loop-instr-preserved
loop-instr-preserved c =
    let short : c.loop-instr.pc + c.size.result ≤ 65535 = (let e = c.from.ensures in let t = c.if-behind-gt-MOST_CODE_BYTES.false in omega arith) in
    let next = next_start c.args.pool.now.items.keys c.loop-instr.pc c.size.result c.args.instrs.now c.loop-instr.instr-index c.instr-item.result c.loop-instr.offsets.items (starts_from c.args.pool.now.items.keys 0 c.args.instrs.now) (code_end c.args.pool.now.items.keys 0 c.args.instrs.now)
    c.loop-instr-test.true c.instr-item.is c.loop-instr.invariant.0 c.loop-instr.invariant.1
    (sized c.args.pool.now.items.keys c.loop-instr.pc c.instr-item.result c.in_ok-spelling.spelling c.size.result c.in_ok-spelling.ensures c.size.ensures.value) short in
    rw (c.from.ensures, c.in_ok-push.ensures.items) (next.0, next.1, short)

pub returns : goal.returns
unfolding starts_of code_length
returns c =
    let all = all_started c.args.pool.now.items.keys c.loop-instr.pc c.args.instrs.now c.loop-instr.offsets.items (starts_from c.args.pool.now.items.keys 0 c.args.instrs.now) (code_end c.args.pool.now.items.keys 0 c.args.instrs.now) c.loop-instr.instr-index
    c.loop-instr-test.false c.loop-instr.invariant.0 c.loop-instr.invariant.1 in
    (all.0, all.1, c.loop-instr.invariant.2)

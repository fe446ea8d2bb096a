use Rattle.std.proofs.Common.{◌≡◌, ◌<◌, ◌++◌, length, get_or, refl, arith}
use Rattle.th_gen.specs.ClassText as text
use Rattle.th_gen.proofs.Loops.{code_step, code_all, room_at}
use Rattle.th_gen.proofs.code.put_code.Goals as goal

pub put_spelled-requires : goal.put_spelled-requires
put_spelled-requires c = room_at c.args.instrs.now c.loop-place.place c.index-instrs-place.result c.loop-place-test.true c.index-instrs-place.is c.requires.fits

pub loop-place-preserved : goal.loop-place-preserved
loop-place-preserved c =
    let room : c.loop-place.place < length c.args.starts.now = (let same : length c.args.starts.now ≡ length c.args.instrs.now = c.requires.same in let lt : c.loop-place.place < length c.args.instrs.now = c.loop-place-test.true in omega arith) in
    code_step c.args.pool.now.items.keys c.args.starts.now c.args.starts.now c.args.instrs.now c.loop-place.place c.index-instrs-place.result c.in_ok-spelling.spelling (get_or c.args.starts.now c.loop-place.place 0) c.loop-place.out.items c.put_spelled.new.out.items
    (c.args.out.now.items ++ text.code_from c.args.pool.now.items.keys c.args.starts.now c.args.starts.now c.args.instrs.now)
    room c.loop-place-test.true c.index-instrs-place.is refl c.in_ok-spelling.ensures c.loop-place.invariant c.in_ok-put_spelled.ensures

pub returns : goal.returns
returns c =
    code_all c.args.pool.now.items.keys c.args.starts.now c.args.starts.now c.args.instrs.now c.loop-place.place c.loop-place.out.items
    (c.args.out.now.items ++ text.code_from c.args.pool.now.items.keys c.args.starts.now c.args.starts.now c.args.instrs.now) c.loop-place-test.false c.requires.same c.loop-place.invariant

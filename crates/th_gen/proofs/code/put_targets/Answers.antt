use Rattle.th_gen.specs.ClassText.{far}
use Rattle.th_gen.specs.Placing.{start_at}
use Rattle.th_gen.proofs.Loops.{bytes_more_at}
use Rattle.th_gen.proofs.code.put_targets.Goals as goal

pub loop-place-preserved : goal.loop-place-preserved
loop-place-preserved c =
    bytes_more_at (λ place. far c.args.pc (start_at c.args.starts.now place)) c.args.places.now c.loop-place.place-index 0 c.args.out.now.items c.loop-place.out.items c.put_far.new.out.items c.loop-place-test.true c.loop-place.invariant c.in_ok-put_far.ensures

use Rattle.std.proofs.Common.{refl, take, get_or, ◌∷◌, []}
use Rattle.std.proofs.lemmas.List.{take_more}
use Rattle.th_reach.proofs.Visits.{adds_none, adds_then}
use Rattle.th_reach.proofs.visit.add_all.Goals as goal

pub loop-offset-init : goal.loop-offset-init
loop-offset-init c = adds_none c.args.found.now.keys c.args.found.now.keys refl

pub loop-offset-preserved : goal.loop-offset-preserved
loop-offset-preserved c =
    rw (take_more c.args.offsets.now c.loop-offset.offset-index 0 c.loop-offset-test.true)
    (adds_then c.args.found.now.keys c.loop-offset.found.keys c.add.new.found.keys (take c.loop-offset.offset-index c.args.offsets.now)
    (get_or c.args.offsets.now c.loop-offset.offset-index 0 ∷ []) c.loop-offset.invariant c.in_ok-add.ensures)

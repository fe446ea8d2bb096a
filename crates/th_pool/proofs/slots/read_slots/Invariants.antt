use Rattle.std.proofs.Common.{◌≡◌, false}
use Rattle.th_syntax.specs.Forms.{read}
use Rattle.th_syntax.specs.ClassBytes as file
use Rattle.th_pool.specs.Gives.{with_front}
use Rattle.th_pool.specs.PoolView.{slots_view}
use Rattle.th_pool.proofs.slots.read_slots.Given as goal

abbrev pub invariant-loop-left : goal.invariant-loop-left
invariant-loop-left l =
    with_front (slots_view l.slots.items) (read (file.slots l.second l.left) l.place.at l.place.rest.now)
    ≡ with_front (slots_view l.fn.slots.items) (read (file.slots false l.fn.count) l.fn.from.at l.fn.from.rest.now)

abbrev pub decreases-loop-left : goal.decreases-loop-left
decreases-loop-left l = l.left

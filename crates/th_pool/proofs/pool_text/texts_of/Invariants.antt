use Rattle.std.proofs.Common.{◌≡◌, take}
use Rattle.th_pool.specs.PoolView.{slots_view}
use Rattle.th_pool.specs.Texts.{texts_in}
use Rattle.th_pool.proofs.pool_text.texts_of.Given as goal

abbrev pub invariant-loop-slot : goal.invariant-loop-slot
invariant-loop-slot l = l.texts.items ≡ texts_in (slots_view (take l.slot-index l.slots))

use Rattle.std.proofs.Common.{◌≡◌, take}
use Rattle.th_base.proofs.seq.copy_items_with.Given as goal

-- the items before this one were copied
abbrev pub invariant-loop-item : goal.invariant-loop-item
invariant-loop-item g l = l.copies.items ≡ take l.item-index l.items

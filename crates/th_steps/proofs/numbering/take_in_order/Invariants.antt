use Rattle.std.proofs.Common.{◌≡◌, ◌++◌, drop, map, slice_get}
use Rattle.th_query.specs.Unified.{present}
use Rattle.th_steps.specs.Once.{IsOnce}
use Rattle.th_steps.proofs.numbering.take_in_order.Given as goal

-- what is left comes after, and none of it is taken
abbrev pub invariant-loop-symbol : goal.invariant-loop-symbol
invariant-loop-symbol l = (l.taken.items ++ present (map (slice_get l.syms) (drop l.symbol-index l.order)) ≡ present (map (slice_get l.fn.syms) l.order)) × IsOnce (drop l.symbol-index l.order)

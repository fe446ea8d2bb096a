use Rattle.std.proofs.Common.{take}
use Rattle.th_incl.specs.Run.{Spreads}
use Rattle.th_incl.proofs.passing.spread.Given as goal

abbrev pub invariant-loop-inclusion : goal.invariant-loop-inclusion
invariant-loop-inclusion l = Spreads l.sets l.filters (take l.inclusion-index l.out) l.fresh l.fn.news l.fn.queue.items l.news l.queue.items

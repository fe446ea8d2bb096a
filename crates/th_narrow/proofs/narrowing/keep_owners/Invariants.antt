use Rattle.std.proofs.Common.{take}
use Rattle.th_ir.specs.WellFormed.{AreNumbered}
use Rattle.th_query.specs.Narrowed.{has_slot}
use Rattle.th_narrow.specs.Rounds.{Enforces, Owners}
use Rattle.th_narrow.proofs.narrowing.keep_owners.Given as goal

-- the links so far
abbrev pub invariant-loop-link : goal.invariant-loop-link
invariant-loop-link l = AreNumbered l.plan.hierarchy → Enforces (Owners (has_slot l.plan.hierarchy l.plan.program) (take l.link-index l.links)) l.fn.syms l.syms

use Rattle.std.proofs.Common.{◌≡◌, ◌≤◌, ◌+◌, ◌-◌, ◌^◌, []}
use Rattle.th_incl.specs.Least.{pair_count}
use Rattle.th_ir.specs.WellFormed.{AreNumbered}
use Rattle.th_points_to.specs.Rounds.{IsRoundOf, IsState}
use Rattle.th_points_to.proofs.rounds.rounds.Given as goal

abbrev pub invariant-loop-within : goal.invariant-loop-within
invariant-loop-within l = record {
  state : IsState l.hierarchy l.layout l.program l.tables l.state;
  few : pair_count l.state.found.solver.sets ≤ l.limit;
  grown : l.state.found.solver.grown ≡ [];
  round : AreNumbered l.hierarchy → IsRoundOf l.hierarchy l.layout l.program [] l.fn.state → IsRoundOf l.hierarchy l.layout l.program [] l.state;
}

-- the pairs that there is still room for, and the methods that may still be opened
abbrev pub decreases-loop-within : goal.decreases-loop-within
decreases-loop-within l = (l.limit - pair_count l.state.found.solver.sets) + (2 ^ 64 - l.state.opened)

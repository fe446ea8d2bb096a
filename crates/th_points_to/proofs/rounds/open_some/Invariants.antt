use Rattle.std.proofs.Common.{[], ◌≡◌, ◌<◌, length}
use Rattle.th_ir.specs.WellFormed.{AreNumbered}
use Rattle.th_points_to.specs.Rounds.{IsRoundOf, IsState, KeepsSets}
use Rattle.th_points_to.proofs.rounds.open_some.Given as goal

abbrev pub invariant-loop-at : goal.invariant-loop-at
invariant-loop-at l = record {
  state : IsState l.hierarchy l.layout l.program l.tables l.state;
  round : AreNumbered l.hierarchy → IsRoundOf l.hierarchy l.layout l.program [] l.fn.state → IsRoundOf l.hierarchy l.layout l.program [] l.state;
  keeps : KeepsSets l.fn.state l.state;
  first : l._at ≡ 0 → l.state ≡ l.fn.state;
  opens : 0 < l._at → l.fn.state.opened < length l.fn.state.found.reached.keys → l.fn.state.opened < l.state.opened;
}

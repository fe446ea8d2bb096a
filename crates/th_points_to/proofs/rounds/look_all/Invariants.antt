use Rattle.std.proofs.Common.{◌≡◌, drop}
use Rattle.th_ir.specs.WellFormed.{AreNumbered}
use Rattle.th_points_to.specs.Rounds.{IsRoundOf, IsState, KeepsSets}
use Rattle.th_points_to.proofs.rounds.look_all.Given as goal

abbrev pub invariant-loop-register : goal.invariant-loop-register
invariant-loop-register l = record {
  state : IsState l.hierarchy l.layout l.program l.tables l.state;
  round : AreNumbered l.hierarchy → IsRoundOf l.hierarchy l.layout l.program l.registers l.fn.state → IsRoundOf l.hierarchy l.layout l.program (drop l.register-index l.registers) l.state;
  keeps : KeepsSets l.fn.state l.state;
  opened : l.state.opened ≡ l.fn.state.opened;
}

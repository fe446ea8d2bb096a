use Rattle.std.proofs.Common.{subst}
use Rattle.th_incl.specs.Least.{IsLeast}
use Rattle.th_points_to.proofs.Initialising.{inits_over}
use Rattle.th_points_to.proofs.RoundLemmas.{holds_over, round_ran, state_over}
use Rattle.th_points_to.proofs.rounds.run.Goals as goal

pub returns-clause-state : goal.returns-clause-state
returns-clause-state c =
    state_over c.args.hierarchy.now c.args.layout c.args.program.now c.args.tables.now c.args.state.now c.run_within.new.self c.in_ok-within.ensures.constraints c.requires

pub returns-clause-least : goal.returns-clause-least
returns-clause-least c = c.in_ok-within.ensures.least

pub returns-clause-more : goal.returns-clause-more
returns-clause-more c = c.in_ok-within.ensures.more

pub returns-clause-round : goal.returns-clause-round
returns-clause-round c = λ is done.
    let s = c.args.state.now in
    record {
      round = round_ran c.args.hierarchy.now c.args.layout c.args.program.now s.handled.items s.entered.items s.found c.run_within.new.self c.in_ok-within.ensures.constraints
          (subst (λ d. IsLeast d c.run_within.new.self.sets) c.in_ok-within.ensures.constraints (c.in_ok-within.ensures.least done)) c.in_ok-within.ensures.grows is.round;
      inits = inits_over c.args.hierarchy.now c.args.layout s.found c.run_within.new.self s.met.keys c.in_ok-within.ensures.constraints is.inits;
    }

pub returns-clause-sound : goal.returns-clause-sound
returns-clause-sound c = λ is u rules.
    holds_over c.args.layout c.args.state.now.found c.run_within.new.self u c.in_ok-within.ensures.constraints (is.round.sound u rules)

pub returns-clause-few : goal.returns-clause-few
returns-clause-few c = λ done.
    (c.in_ok-within.ensures.within c.run_within.new.self.sets
    (subst (λ d. IsLeast d c.run_within.new.self.sets) c.in_ok-within.ensures.constraints (c.in_ok-within.ensures.least done))).0 done

pub returns-clause-told : goal.returns-clause-told
returns-clause-told c = c.in_ok-within.ensures.told

use Rattle.std.proofs.Common.{◌≡◌, ◌⊎◌, true, List, ℕ, sym, ap, subst, ◌∙◌}
use Rattle.th_base.specs.IdSet.{has}
use Rattle.th_incl.specs.Least.{IsLeast, set_at}
use Rattle.th_points_to.proofs.Initialising.{inits_over}
use Rattle.th_points_to.proofs.RoundLemmas.{round_over, state_over}
use Rattle.th_points_to.proofs.rounds.take_grown.Goals as goal

pub returns-clause-state : goal.returns-clause-state
returns-clause-state c =
    state_over c.args.hierarchy.now c.args.layout c.args.program.now c.args.tables.now c.args.state.now c.take_grown.new.self (ap (λ v. v.constraints) c.take_grown.ensures.others) c.requires

pub returns-clause-round : goal.returns-clause-round
returns-clause-round c = λ waiting is.
    let s = c.args.state.now in
    let sets : c.take_grown.new.self.sets ≡ s.found.solver.sets = ap (λ v. v.sets) c.take_grown.ensures.others in
    record {
      round = round_over c.args.hierarchy.now c.args.layout c.args.program.now s.handled.items s.entered.items waiting waiting s.found c.take_grown.new.self (ap (λ v. v.constraints) c.take_grown.ensures.others) is.round
          (λ u rules r a inside there. is.round.sets_sound u rules r a inside (ap (λ (ss : List (List ℕ)). has (set_at ss r) a) (sym sets) ∙ there))
          (λ r inside. subst (λ (ss : List (List ℕ)). (has waiting r ≡ true) ⊎ (set_at s.handled.items r ≡ set_at ss r)) (sym sets) (is.round.seen r inside));
      inits = inits_over c.args.hierarchy.now c.args.layout s.found c.take_grown.new.self s.met.keys (ap (λ v. v.constraints) c.take_grown.ensures.others) is.inits;
    }

pub returns-clause-least : goal.returns-clause-least
returns-clause-least c = λ least. subst (λ v. IsLeast v.constraints v.sets) (sym c.take_grown.ensures.others) least

pub returns-clause-sets : goal.returns-clause-sets
returns-clause-sets c = ap (λ v. v.sets) c.take_grown.ensures.others

pub returns-clause-empty : goal.returns-clause-empty
returns-clause-empty c = ap (λ v. v.grown) c.take_grown.ensures.others

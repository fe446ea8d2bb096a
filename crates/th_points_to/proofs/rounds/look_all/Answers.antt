use Rattle.std.proofs.Common.{◌≡◌, ◌≤◌, ◌+◌, ℕ, zero, suc, List, [], ◌∷◌, length, drop, refl, subst, arith, ◌∙◌}
use Rattle.th_points_to.specs.Rounds.{IsRoundOf}
use Rattle.th_points_to.proofs.RoundLemmas.{drop_front}
use Rattle.th_points_to.proofs.rounds.look_all.Goals as goal

dropped : (xs : List ℕ) (i : ℕ) → length xs ≤ i → drop i xs ≡ []
dropped [] zero h = refl
dropped [] (suc i) h = refl
dropped (x ∷ xs) zero h = absurd (omega arith)
dropped (x ∷ xs) (suc i) h = dropped xs i (omega arith)

pub loop-register-init : goal.loop-register-init
loop-register-init c = record { state = c.requires; round = λ are is. is; keeps = record { pairs = refl; grown = refl; opened = omega arith; reached = omega arith }; opened = refl }

pub look-requires : goal.look-requires
look-requires c = c.loop-register.invariant.state

pub loop-register-preserved : goal.loop-register-preserved
loop-register-preserved c = record {
  state = c.in_ok-look.ensures.state;
  round = λ are is. c.in_ok-look.ensures.round are (drop c.loop-register.register-index c.args.registers.now) (drop (c.loop-register.register-index + 1) c.args.registers.now)
      (λ k e. drop_front c.args.registers.now c.loop-register.register-index k c.loop-register-test.true e) (c.loop-register.invariant.round are is);
  keeps = record {
    pairs = c.in_ok-look.ensures.keeps.pairs ∙ c.loop-register.invariant.keeps.pairs;
    grown = c.in_ok-look.ensures.keeps.grown ∙ c.loop-register.invariant.keeps.grown;
    opened = omega (arith, c.in_ok-look.ensures.keeps.opened, c.loop-register.invariant.keeps.opened);
    reached = omega (arith, c.in_ok-look.ensures.keeps.reached, c.loop-register.invariant.keeps.reached);
  };
  opened = c.in_ok-look.ensures.opened ∙ c.loop-register.invariant.opened;
}

pub returns-clause-state : goal.returns-clause-state
returns-clause-state c = c.loop-register.invariant.state

pub returns-clause-round : goal.returns-clause-round
returns-clause-round c = λ are is.
    subst (λ (w : List ℕ). IsRoundOf c.args.hierarchy.now c.args.layout c.args.program.now w c.loop-register.state)
    (dropped c.args.registers.now c.loop-register.register-index (omega (arith, c.loop-register-test.false))) (c.loop-register.invariant.round are is)

pub returns-clause-keeps : goal.returns-clause-keeps
returns-clause-keeps c = c.loop-register.invariant.keeps

use Rattle.std.proofs.Common.{inl, inr, ◌<◌, ◌∙◌, length, refl, sym, ap, subst, arith}
use Rattle.std.proofs.lemmas.Bool.{cases_eq}
use Rattle.th_points_to.specs.declared.rounds.State.{State}
use Rattle.th_points_to.proofs.rounds.open_some.Goals as goal

pub loop-at-init : goal.loop-at-init
loop-at-init c = record {
  state = c.requires;
  round = λ are is. is;
  keeps = record { pairs = refl; grown = refl; opened = omega arith; reached = omega arith };
  first = λ none. refl;
  opens = λ some. absurd (omega arith);
}

pub open_next-requires : goal.open_next-requires
open_next-requires c = c.loop-at.invariant.state

pub loop-at-preserved : goal.loop-at-preserved
loop-at-preserved c = record {
  state = c.in_ok-open_next.ensures.state;
  round = λ are is. c.in_ok-open_next.ensures.round are (c.loop-at.invariant.round are is);
  keeps = record {
    pairs = c.in_ok-open_next.ensures.keeps.pairs ∙ c.loop-at.invariant.keeps.pairs;
    grown = c.in_ok-open_next.ensures.keeps.grown ∙ c.loop-at.invariant.keeps.grown;
    opened = omega (arith, c.in_ok-open_next.ensures.keeps.opened, c.loop-at.invariant.keeps.opened);
    reached = omega (arith, c.in_ok-open_next.ensures.keeps.reached, c.loop-at.invariant.keeps.reached);
  };
  first = λ none. absurd (omega arith);
  opens = λ some there. elim (cases_eq c.loop-at._at 0) [
    | inl none ↦
        (let same = c.loop-at.invariant.first none in
        let now = c.in_ok-open_next.ensures.opens (subst (λ (s : State). s.opened < length s.found.reached.keys) (sym same) there) in
        omega (arith, now, ap (λ (s : State). s.opened) same))
    | inr apart ↦ omega (arith, c.loop-at.invariant.opens (omega (arith, apart)) there, c.in_ok-open_next.ensures.keeps.opened)
  ];
}

pub returns-clause-state : goal.returns-clause-state
returns-clause-state c = c.loop-at.invariant.state

pub returns-clause-round : goal.returns-clause-round
returns-clause-round c = c.loop-at.invariant.round

pub returns-clause-keeps : goal.returns-clause-keeps
returns-clause-keeps c = c.loop-at.invariant.keeps

pub returns-clause-opens : goal.returns-clause-opens
returns-clause-opens c = λ some there. c.loop-at.invariant.opens (omega arith) there

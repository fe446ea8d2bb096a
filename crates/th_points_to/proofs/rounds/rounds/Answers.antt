use Rattle.std.proofs.Common.{◌≡◌, inl, inr, ◌<◌, ◌≤◌, ℕ, List, [], length, sym, ap, subst, arith, ◌∙◌}
use Rattle.th_incl.specs.Least.{pair_count}
use Rattle.th_points_to.specs.Rounds.{IsRoundOf}
use Rattle.th_points_to.proofs.rounds.rounds.Goals as goal

pub run-requires : goal.run-requires
run-requires c = c.loop-within.invariant.state

pub returns-then-not-within-clause-sound : goal.returns-then-not-within-clause-sound
returns-then-not-within-clause-sound c = λ are is. c.in_ok-within.ensures.sound (c.loop-within.invariant.round are is)

pub returns-then-not-is_more-clause-round : goal.returns-then-not-is_more-clause-round
returns-then-not-is_more-clause-round c = λ are is done.
    let none : c.run.new.state.found.solver.grown ≡ [] = sym c.take_grown-grown.ensures.grown ∙ sym c.as_slice.ensures.value ∙ (c.is_more.ensures.none c.if-not-is_more.true).0 in
    subst (λ (w : List ℕ). IsRoundOf c.args.hierarchy.now c.args.layout c.args.program.now w c.take_grown-grown.new.state) none
    (c.take_grown-grown.ensures.round c.run.new.state.found.solver.grown (c.in_ok-within.ensures.round (c.loop-within.invariant.round are is) c.if-not-within.false))

pub returns-then-not-is_more-clause-sound : goal.returns-then-not-is_more-clause-sound
returns-then-not-is_more-clause-sound c = λ are is u rules.
    (c.take_grown-grown.ensures.round c.run.new.state.found.solver.grown (c.in_ok-within.ensures.round (c.loop-within.invariant.round are is) c.if-not-within.false)).round.sound u rules

pub returns-then-not-is_more-clause-few : goal.returns-then-not-is_more-clause-few
returns-then-not-is_more-clause-few c = λ done.
    subst (λ (ss : List (List ℕ)). pair_count ss ≤ c.args.limit) (sym c.take_grown-grown.ensures.sets) (c.in_ok-within.ensures.few c.if-not-within.false)

pub loop-within-preserved : goal.loop-within-preserved
loop-within-preserved c = record {
  state = c.in_ok-open_some.ensures.state;
  few =
      (let within = c.in_ok-within.ensures.few c.if-not-within.false in
      omega (arith, within, ap pair_count c.take_grown-grown.ensures.sets, c.in_ok-look_all.ensures.keeps.pairs, c.in_ok-open_some.ensures.keeps.pairs));
  grown = c.in_ok-open_some.ensures.keeps.grown ∙ c.in_ok-look_all.ensures.keeps.grown ∙ c.take_grown-grown.ensures.empty;
  round = λ are is.
      c.in_ok-open_some.ensures.round are (c.in_ok-look_all.ensures.round are
      (subst (λ (w : List ℕ). IsRoundOf c.args.hierarchy.now c.args.layout c.args.program.now w c.take_grown-grown.new.state) (sym (c.as_slice-in-loop-within.ensures.value ∙ c.take_grown-grown.ensures.grown))
      (c.take_grown-grown.ensures.round c.run.new.state.found.solver.grown (c.in_ok-within.ensures.round (c.loop-within.invariant.round are is) c.if-not-within.false))));
}

-- a set grew, or a method was opened
pub loop-within-smaller : goal.loop-within-smaller
loop-within-smaller c =
    let told = c.in_ok-within.ensures.told in
    let within = c.in_ok-within.ensures.few c.if-not-within.false in
    let pairs : pair_count c.open_some.new.state.found.solver.sets ≡ pair_count c.run.new.state.found.solver.sets =
    c.in_ok-open_some.ensures.keeps.pairs ∙ c.in_ok-look_all.ensures.keeps.pairs ∙ ap pair_count c.take_grown-grown.ensures.sets in
    let looked : c.look_all.new.state.opened ≡ c.loop-within.state.opened = c.in_ok-look_all.ensures.opened ∙ c.take_grown-grown.ensures.same ∙ c.in_ok-within.ensures.opened in
    let opened = c.in_ok-open_some.ensures.keeps.opened in
    elim (c.is_more.ensures.some c.if-not-is_more.false) [
      | inl grew ↦ elim told.told [
        | inl same ↦ absurd (let none = ap length (c.as_slice.ensures.value ∙ c.take_grown-grown.ensures.grown ∙ same ∙ c.loop-within.invariant.grown) in omega (arith, grew, none))
        | inr more ↦ omega (arith, more, within, pairs, looked, opened)
      ]
      | inr waits ↦ (let more : c.look_all.new.state.opened < length c.look_all.new.state.found.reached.keys =
          omega (arith, waits, c.saturating_sub-count.ensures, c.len.ensures.len, looked, c.take_grown-grown.ensures.same, c.in_ok-look_all.ensures.keeps.reached) in
          let opens = c.in_ok-open_some.ensures.opens waits more in
          omega (arith, opens, pairs, looked, within, told.more))
    ]

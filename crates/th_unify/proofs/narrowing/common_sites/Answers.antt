use Rattle.std.proofs.Common.{ℕ, Bool, ◌∙◌, ◌==◌}
use Rattle.std.proofs.lemmas.Bool.{eq-eqb, ne_eqb}
use Rattle.th_base.specs.IdSet.{has}
use Rattle.th_query.specs.Symbols.{sites_of}
use Rattle.th_unify.proofs.Narrowed.{had_taken, had_passed, had_end}
use Rattle.th_unify.proofs.narrowing.common_sites.Goals.{then-names-other+in_ok-common-2, else-names-other}
use Rattle.th_unify.proofs.narrowing.common_sites.Goals as goal

pub loop-other-preserved : goal.loop-other-preserved
loop-other-preserved c =
    let g : ℕ → ℕ → Bool = λ u a. has (sites_of c.args.query.now u) a in
    let m : ℕ → Bool = λ n. n == c.args.symbol in
    elim c.if-names-other.branch [
      | then-names-other+in_ok-common-2 w ↦ had_taken g m c.args.names.now c.loop-other.other 0 c.loop-other.common c.if-names-other.common _ c.loop-other-test.true
          (eq-eqb _ _ w.if-names-other.true) (w.common-is ∙ w.in_ok-common-2.ensures) c.loop-other.invariant
      | else-names-other w ↦ had_passed g m c.args.names.now c.loop-other.other 0 c.loop-other.common c.if-names-other.common _ c.loop-other-test.true
          (ne_eqb _ _ w.if-names-other.false) w.common-is c.loop-other.invariant
    ]

pub returns : goal.returns
returns c = had_end (λ (u a : ℕ). has (sites_of c.args.query.now u) a) (λ (n : ℕ). n == c.args.symbol) c.args.names.now c.loop-other.other c.loop-other.common _ c.loop-other-test.false c.loop-other.invariant

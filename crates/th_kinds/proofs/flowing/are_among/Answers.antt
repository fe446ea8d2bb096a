use Rattle.std.proofs.Common.{ℕ, Contains, slice_index, subst, refl, below_more, arith}
use Rattle.std.proofs.lemmas.List.{get_or_default}
use Rattle.th_kinds.proofs.flowing.are_among.Goals as goal

pub loop-target-preserved : goal.loop-target-preserved
loop-target-preserved c =
    below_more (λ (t : ℕ). Contains c.args.offsets.now (slice_index c.args.targets.now t)) c.loop-target.target-index c.loop-target.invariant (c.is_among.ensures.0 c.if-not-is_among.false)

pub returns-then-not-is_among : goal.returns-then-not-is_among
returns-then-not-is_among c = (
  λ e. absurd cc,
  λ all. absurd (let there = c.is_among.ensures.1 (all c.loop-target.target-index 0 c.loop-target-test.true) in let none = c.if-not-is_among.true in cc),
)

pub returns : goal.returns
returns c = (
  λ e t d inside. subst (λ (n : ℕ). Contains c.args.offsets.now n) (get_or_default c.args.targets.now t 0 d inside) (c.loop-target.invariant t (omega arith)),
  λ all. refl,
)

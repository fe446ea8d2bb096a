use Rattle.std.proofs.Common.{ℕ, ℤ, subst}
use Rattle.std.specs.Int.{w128}
use Rattle.std.proofs.lemmas.Int.{to_z-of_z}
use Rattle.th_linear.specs.Forms.{Holds}
use Rattle.th_linear.specs.Mixed.{IsMixed}
use Rattle.th_linear.specs.declared.fact.Rel.{Rel}
use Rattle.th_linear.proofs.Follows.{at_least_zero, combined-holds, each_form}
use Rattle.th_linear.proofs.mixture.combine.Goals as goal

pub returns-clause-follows : goal.returns-clause-follows
returns-clause-follows c =
    let e = rw (to_z-of_z w128 c.args.p c.ranges.p, to_z-of_z w128 c.args.q c.ranges.q) at c.mix_facts.ensures.exact in
    each_form c.mix_facts.result _ (λ r. IsMixed c.args.p c.args.a.now c.args.q c.args.b.now c.args.a.now.rel r)
    (λ r. (s : ℕ → ℤ) → Holds c.args.a.now s → Holds c.args.b.now s → Holds r s)
    (λ r m s x y. combined-holds c.args.p c.args.q c.args.a.now c.args.b.now r s c.requires.a c.requires.b (at_least_zero c.args.p c.requires.p_low) (at_least_zero c.args.q c.requires.q_low)
    (subst (λ (to : Rel). IsMixed c.args.p c.args.a.now c.args.q c.args.b.now to r) c.requires.a m) x y) e

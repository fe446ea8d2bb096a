use Rattle.std.proofs.Common.{◌↔◌, ℕ, ℤ, pos, rules}
use Rattle.std.specs.Int.{w128}
use Rattle.std.specs.Int.RustNames.{FitsSigned}
use Rattle.std.proofs.lemmas.Int.{to_z-of_z}
use Rattle.th_linear.specs.Forms.{Holds}
use Rattle.th_linear.specs.Mixed.{IsMixed}
use Rattle.th_linear.proofs.Follows.{substituted-keeps, each_form}
use Rattle.th_linear.proofs.mixture.substitute.Goals as goal

pub returns-clause-keeps : goal.returns-clause-keeps
returns-clause-keeps c =
    let f : FitsSigned w128 c.multiplier-m.result = search rules in
    let e = rw (to_z-of_z w128 c.multiplier-m.result f) at c.mix_facts.ensures.exact in
    each_form c.mix_facts.result _ (λ r. IsMixed (pos 1) c.args.f.now c.multiplier-m.result c.args.by.now c.args.f.now.rel r)
    (λ r. (s : ℕ → ℤ) → Holds c.args.by.now s → Holds c.args.f.now s ↔ Holds r s)
    (λ r m s h. substituted-keeps c.multiplier-m.result c.args.f.now c.args.by.now r s c.requires.by m h) e

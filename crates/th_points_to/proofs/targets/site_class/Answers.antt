use Rattle.std.proofs.Common.{ℕ, None, ap, arith, ◌∙◌}
use Rattle.std.specs.Option.{option_map}
use Rattle.th_base.specs.declared.number.ClassId.{ClassId}
use Rattle.th_points_to.proofs.TargetLemmas.{class_found}
use Rattle.th_points_to.proofs.targets.site_class.Goals as goal

pub returns-in-Some : goal.returns-in-Some
returns-in-Some c = λ h p are.
    let there = rw c.in-Some.is at (c.get.ensures.lookup.4 (omega arith) None) in
    ap (option_map {U = ℕ} (λ (class : ClassId). class.0)) there ∙ class_found h p c.args.classes.now c.args.site.0 are

pub returns-in-None : goal.returns-in-None
returns-in-None c = λ h p are.
    let there = rw c.in-None.is at (c.get.ensures.lookup.4 (omega arith) None) in
    ap (option_map {U = ℕ} (λ (class : ClassId). class.0)) there ∙ class_found h p c.args.classes.now c.args.site.0 are

use Rattle.std.proofs.Common.{List, refl, subst, arith}
use Rattle.th_ir.specs.declared.program.Site.{Site}
use Rattle.th_points_to.specs.Tables.{AreClasses}
use Rattle.th_points_to.proofs.Above.{whole_take}
use Rattle.th_points_to.proofs.TargetLemmas.{classes_next}
use Rattle.th_points_to.proofs.targets.classes_of.Goals as goal

pub loop-site-init : goal.loop-site-init
loop-site-init c = rw c.new-classes.ensures.items (record { len = refl; each = λ s site e. absurd cc })

pub loop-site-preserved : goal.loop-site-preserved
loop-site-preserved c =
    classes_next c.args.hierarchy.now c.args.sites.now c.loop-site.site-index c.site-item.result c.class_of.result c.loop-site.classes.items c.push.new.self.items c.loop-site-test.true c.site-item.is
    c.class_of.ensures c.in_ok-push.ensures.items c.loop-site.invariant

pub returns : goal.returns
returns c =
    subst (λ (l : List Site). AreClasses c.args.hierarchy.now l c.loop-site.classes.items) (whole_take c.args.sites.now c.loop-site.site-index (omega (arith, c.loop-site-test.false))) c.loop-site.invariant

use Rattle.std.proofs.Common.{rules, ◌≡◌, Some, None, true, codes, subst}
use Rattle.th_base.specs.declared.class.MethodInfo.{MethodInfo}
use Rattle.th_base.specs.Hierarchy.{declared_method}
use Rattle.th_ir.proofs.Plain.{same_found}
use Rattle.th_points_to.specs.Initialisers.{ReachesOwn}
use Rattle.th_points_to.proofs.Adding.{adds_as, adds_none}
use Rattle.th_points_to.proofs.initialisers.reach_own.Goals as goal

pub returns-in_ok-reach-in-Some : goal.returns-in_ok-reach-in-Some
returns-in_ok-reach-in-Some c = λ p.
    let h = c.args.hierarchy.now in
    let method : MethodInfo = c.in-Some.method.now in
    let found : declared_method h (codes "<clinit>") (codes "()V") c.args.class.0 ≡ Some method = search rules in
    adds_as c.args.layout p c.args.found.now c.reach.new.found (λ t. t.reached method.id.0 ≡ true) (λ t. ReachesOwn h t c.args.class.0)
    (λ t is. is method found)
    (λ t range is other at. subst (λ (m : MethodInfo). t.reached m.id.0 ≡ true) (same_found _ method other found at) is)
    (c.in_ok-reach-in-Some.ensures p)

pub returns-in-None : goal.returns-in-None
returns-in-None c = λ p.
    let h = c.args.hierarchy.now in
    let none : declared_method h (codes "<clinit>") (codes "()V") c.args.class.0 ≡ None = search rules in
    adds_none c.args.layout p c.args.found.now (λ t. ReachesOwn h t c.args.class.0) c.requires.laid (λ t range other at. absurd cc)

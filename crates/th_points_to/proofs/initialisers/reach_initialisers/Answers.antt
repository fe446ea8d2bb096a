use Rattle.std.proofs.Common.{◌≡◌, ◌⊎◌, ◌<◌, ℕ, List, length, true, sym, ap, subst, arith}
use Rattle.std.specs.List.{AllByRecursion, Contains}
use Rattle.th_base.specs.IdSet.{has}
use Rattle.th_ir.specs.Rules.{ReachesInitialisers}
use Rattle.th_points_to.specs.Found.{Adds}
use Rattle.th_points_to.specs.Initialisers.{ReachesOwn}
use Rattle.th_points_to.proofs.Adding.{no_program, adds_none, adds_held, keeps_of, keeps_nothing}
use Rattle.th_points_to.proofs.Initialising.{inits_more}
use Rattle.th_points_to.proofs.initialisers.reach_initialisers.Goals as goal

pub returns-then-class-classes-clause-keeps : goal.returns-then-class-classes-clause-keeps
returns-then-class-classes-clause-keeps c = keeps_nothing c.args.layout c.args.found.now c.requires

pub returns-then-class-classes-clause-adds : goal.returns-then-class-classes-clause-adds
returns-then-class-classes-clause-adds c = λ inits p.
    adds_none c.args.layout p c.args.found.now (λ t. c.args.class.0 < length c.args.hierarchy.now → ReachesInitialisers c.args.hierarchy.now t c.args.class.0) c.requires
    (λ t range less. absurd (omega (arith, less, c.if-class-classes.true, ap length c.classes.ensures.value)))

pub returns-then-class-classes-clause-inits : goal.returns-then-class-classes-clause-inits
returns-then-class-classes-clause-inits c = λ inits. inits

pub walk-requires : goal.walk-requires
walk-requires c = omega (arith, c.if-class-classes.false, ap length c.classes.ensures.value)

pub reach_each-requires-clause-laid : goal.reach_each-requires-clause-laid
reach_each-requires-clause-laid c = c.requires

pub reach_each-requires-clause-classes : goal.reach_each-requires-clause-classes
reach_each-requires-clause-classes c =
    subst (λ (ks : List ℕ). AllByRecursion (λ k. k < length c.args.hierarchy.now) ks) (sym c.as_slice.ensures.value) c.in_ok-walked.ensures.inside

pub returns-clause-keeps : goal.returns-clause-keeps
returns-clause-keeps c = keeps_of c.args.layout no_program c.args.found.now c.reach_each.new.found _ (c.in_ok-reach_each.ensures no_program)

pub returns-clause-adds : goal.returns-clause-adds
returns-clause-adds c = λ inits p.
    let h = c.args.hierarchy.now in
    let l = c.args.layout in
    let k = c.args.class.0 in
    let walked = c.in_ok-walked.walked.items in
    let walk = c.in_ok-walked.ensures in
    let inside : k < length h = omega (arith, c.if-class-classes.false, ap length c.classes.ensures.value) in
    adds_held l p c.args.found.now c.reach_each.new.found (λ t. AllByRecursion (ReachesOwn h t) walked) (λ t. k < length h → ReachesInitialisers h t k)
    (λ t is. walk.down t (is inside))
    (λ t range holds own less. (walk.up t (λ n one. inits t range holds n one) own).1)
    (subst (λ (ks : List ℕ). Adds l p c.args.found.now c.reach_each.new.found (λ t. AllByRecursion (ReachesOwn h t) ks)) c.as_slice.ensures.value (c.in_ok-reach_each.ensures p))

pub returns-clause-inits : goal.returns-clause-inits
returns-clause-inits c = λ inits.
    let h = c.args.hierarchy.now in
    let l = c.args.layout in
    let walked = c.in_ok-walked.walked.items in
    inits_more h l no_program c.args.found.now c.reach_each.new.found c.args.met.now.keys c.meet_each.new.met.keys walked c.args.class.0 c.in_ok-walked.ensures
    (subst (λ (ks : List ℕ). Adds l no_program c.args.found.now c.reach_each.new.found (λ t. AllByRecursion (ReachesOwn h t) ks)) c.as_slice.ensures.value (c.in_ok-reach_each.ensures no_program))
    (λ k one. subst (λ (ks : List ℕ). Contains c.args.met.now.keys k ⊎ (has ks k ≡ true)) c.as_slice-2.ensures.value (c.in_ok-meet_each.ensures k one))
    inits

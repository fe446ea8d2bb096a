use Rattle.std.proofs.Common.{◌<◌, ℕ, List, length, Option, Some, refl, sym, subst}
use Rattle.std.specs.Option.{option_map, option_map_or}
use Rattle.th_base.specs.declared.number.ClassId.{ClassId}
use Rattle.th_base.specs.Hierarchy.{lineage_of}
use Rattle.th_points_to.proofs.Initialising.{HasWalked, not_walked, walked_on, walked_up, walked_to, walk_falls}
use Rattle.th_points_to.proofs.initialisers.walk.Goals as goal

pub loop-next-init : goal.loop-next-init
loop-next-init c =
    let h = c.args.hierarchy.now in
    let met = c.args.met.now.keys in
    let k = c.args.class.0 in
    subst (λ (l : List ℕ). HasWalked h met k (Some k) l) (sym c.new-walked.ensures.items) (not_walked h met k c.requires)

pub returns-then-was_met : goal.returns-then-was_met
returns-then-was_met c =
    let h = c.args.hierarchy.now in
    let met = c.args.met.now.keys in
    let walked = c.loop-next.walked.items in
    let on = subst (λ (o : Option ClassId). HasWalked h met c.args.class.0 (option_map (λ k. k.0) o) walked) c.in-Some.is c.loop-next.invariant in
    walked_to h met c.args.class.0 c.in-Some.at.0 walked (c.was_met.ensures c.if-was_met.true) on

pub superclass_of-next-requires : goal.superclass_of-next-requires
superclass_of-next-requires c =
    let h = c.args.hierarchy.now in
    let on = subst (λ (o : Option ClassId). HasWalked h c.args.met.now.keys c.args.class.0 (option_map (λ k. k.0) o) c.loop-next.walked.items) c.in-Some.is c.loop-next.invariant in
    on.on c.in-Some.at.0 refl

pub loop-next-preserved : goal.loop-next-preserved
loop-next-preserved c =
    let h = c.args.hierarchy.now in
    let met = c.args.met.now.keys in
    let walked = c.loop-next.walked.items in
    let on = subst (λ (o : Option ClassId). HasWalked h met c.args.class.0 (option_map (λ k. k.0) o) walked) c.in-Some.is c.loop-next.invariant in
    subst (λ (l : List ℕ). HasWalked h met c.args.class.0 (option_map (λ k. k.0) c.superclass_of-next.result) l) (sym c.in_ok-push-in-Some.ensures.items)
    (walked_on h met c.args.class.0 c.in-Some.at.0 (option_map (λ k. k.0) c.superclass_of-next.result) walked c.classes-classes.ensures.acyclic (sym c.superclass_of-next.ensures) on)

pub loop-next-smaller : goal.loop-next-smaller
loop-next-smaller c =
    let h = c.args.hierarchy.now in
    let on = subst (λ (o : Option ClassId). HasWalked h c.args.met.now.keys c.args.class.0 (option_map (λ k. k.0) o) c.loop-next.walked.items) c.in-Some.is c.loop-next.invariant in
    subst (λ (o : Option ClassId). option_map_or (λ k. length (lineage_of h k.0)) c.superclass_of-next.result 0 < option_map_or (λ k. length (lineage_of h k.0)) o 0) (sym c.in-Some.is)
    (walk_falls h c.in-Some.at.0 c.superclass_of-next.result c.classes-classes.ensures.acyclic (on.on c.in-Some.at.0 refl) (sym c.superclass_of-next.ensures))

pub returns-in-None : goal.returns-in-None
returns-in-None c =
    let h = c.args.hierarchy.now in
    let met = c.args.met.now.keys in
    let walked = c.loop-next.walked.items in
    walked_up h met c.args.class.0 walked (subst (λ (o : Option ClassId). HasWalked h met c.args.class.0 (option_map (λ k. k.0) o) walked) c.in-None.is c.loop-next.invariant)

use Rattle.std.proofs.Common.{rules, ◌≡◌, ◌<◌, ◌++◌, ◌∷◌, [], false, length, refl, sym, ap, ◌∙◌, subst, arith}
use Rattle.std.proofs.lemmas.Bool.{both_ways}
use Rattle.th_base.specs.Climb.{Sees}
use Rattle.th_base.specs.IdSet.{has}
use Rattle.th_base.proofs.Climbing.{climb_on, climb_over}
use Rattle.th_base.proofs.DepthFirst.{supertypes_at}
use Rattle.th_base.proofs.Membership.{has_push}
use Rattle.th_base.proofs.climb.is_at_or_above.Goals as goal

pub offset_bounds-classes-class : goal.offset_bounds-classes-class
offset_bounds-classes-class c =
    let inside = c.loop-class.invariant.inside c.in-Some.class (ap (λ l. has l c.in-Some.class) c.in-Some.ensures.items ∙ has_push c.pop.new.self.items c.in-Some.class) in
    search rules

pub bounds-classes-class : goal.bounds-classes-class
bounds-classes-class c =
    c.loop-class.invariant.inside c.in-Some.class (ap (λ l. has l c.in-Some.class) c.in-Some.ensures.items ∙ has_push c.pop.new.self.items c.in-Some.class)

pub loop-class-preserved : goal.loop-class-preserved
loop-class-preserved c =
    let classes = c.args.classes.now in
    let class = c.in-Some.class in
    let inside = c.loop-class.invariant.inside class (ap (λ l. has l class) c.in-Some.ensures.items ∙ has_push c.pop.new.self.items class) in
    let supertypes = supertypes_at classes class c.index-classes-class.result inside c.index-classes-class.is in
    climb_on classes c.args.goal c.args.from class c.loop-class.climb.seen.items c.see_supertypes.new.climb.seen.items c.loop-class.climb.todo.items c.pop.new.self.items c.see_supertypes.new.climb.todo.items
    c.loop-class.invariant c.in-Some.ensures.items c.if-class-goal.false
    (subst (Sees c.loop-class.climb.seen.items c.see_supertypes.new.climb.seen.items c.pop.new.self.items c.see_supertypes.new.climb.todo.items) (sym supertypes) c.in_ok-see_supertypes.ensures)

pub returns : goal.returns
returns c = (
  λ h. absurd (both_ways false refl h),
  λ at. absurd (climb_over c.args.classes.now c.args.goal c.args.from c.loop-class.climb.seen.items c.loop-class.climb.todo.items c.requires c.loop-class.invariant
      (omega (arith, c.loop-class.climb.todo.ok.0, c.in_default.ensures.cases.0)) at),
)

use Rattle.std.proofs.Common.{rules}
use Rattle.std.specs.Int.{w128}
use Rattle.std.proofs.lemmas.Int.{to_z-of_z}
use Rattle.std.specs.Int.RustNames.{FitsSigned}
use Rattle.th_linear.specs.Forms.{coef}
use Rattle.th_pure.proofs.Parts.{apart_upper, apart_other, above, not_above, not_below}
use Rattle.th_pure.proofs.elimination.split.Goals as goal

pub loop-fact-preserved-in-Continue-1 : goal.loop-fact-preserved-in-Continue-1
loop-fact-preserved-in-Continue-1 c =
    let f : FitsSigned w128 c.coefficient-c.result = search rules in
    let h = above (coef c.args.variable c.in-Some.fact.coefs) (rw (to_z-of_z w128 c.coefficient-c.result f, c.coefficient-c.ensures.value) at c.if-c-gt0.true) in
    rw c.in_ok-push.ensures (apart_upper c.args.variable c.in-Some.fact c.args.facts c.loop-fact.uppers c.loop-fact.lowers c.loop-fact.without c.next.new.self.rest.items c.loop-fact.fact-iterator.rest.items c.in-Some.ensures.steps.0 h c.loop-fact.invariant)

pub loop-fact-preserved : goal.loop-fact-preserved
loop-fact-preserved c =
    let f : FitsSigned w128 c.coefficient-c.result = search rules in
    let k = not_above (coef c.args.variable c.in-Some.fact.coefs) (rw (to_z-of_z w128 c.coefficient-c.result f, c.coefficient-c.ensures.value) at c.if-c-gt0.false) in
    let h = not_below (coef c.args.variable c.in-Some.fact.coefs) (rw (to_z-of_z w128 c.coefficient-c.result f, c.coefficient-c.ensures.value) at c.if-c-lt0.false) in
    rw c.in_ok-push-3.ensures (apart_other c.args.variable c.in-Some.fact c.args.facts c.loop-fact.uppers c.loop-fact.lowers c.loop-fact.without c.next.new.self.rest.items c.loop-fact.fact-iterator.rest.items c.in-Some.ensures.steps.0 h k c.loop-fact.invariant)

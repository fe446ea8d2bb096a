use Rattle.std.proofs.Common.{◌≡◌, ◌+◌, rules, arith, false, true, refl}
use Rattle.std.specs.Int.{w128}
use Rattle.std.specs.Int.RustNames.{FitsSigned}
use Rattle.std.proofs.lemmas.Int.{to_z-of_z}
use Rattle.th_linear.proofs.Mixes.{lower}
use Rattle.th_linear.proofs.Rounds.{zero_bits}
use Rattle.th_linear.proofs.Going.{going_large, going_push, going_skip, going_end, nonzero}
use Rattle.th_linear.proofs.mixture.mix_terms.Goals as goal

pub next_step-requires-clause-left : goal.next_step-requires-clause-left
next_step-requires-clause-left c = lower 0 c.loop-next.invariant.0 _ (omega arith) c.loop-next.invariant.1.left

pub next_step-requires-clause-right : goal.next_step-requires-clause-right
next_step-requires-clause-right c = lower 0 c.loop-next.invariant.0 _ (omega arith) c.loop-next.invariant.1.right

pub returns-then-not-is_small : goal.returns-then-not-is_small
returns-then-not-is_small c =
    let f : FitsSigned w128 c.in-Some.next.coefficient = search rules in
    let e = rw (to_z-of_z w128 c.in-Some.next.coefficient f) at c.if-not-is_small.ensures.1 in
    let g = going_large _ _ _ _ _ _ _ _ _ _ _ _ c.loop-next.invariant.1 c.in-Some.ensures (λ s. let n : false ≡ true = e s in cc) in
    rw (to_z-of_z w128 c.args.p c.ranges.p, to_z-of_z w128 c.args.q c.ranges.q) at g

pub loop-next-preserved-in-Continue-branch-2 : goal.loop-next-preserved-in-Continue-branch-2
loop-next-preserved-in-Continue-branch-2 c =
    let f : FitsSigned w128 c.in-Some.next.coefficient = search rules in
    let same = to_z-of_z w128 c.in-Some.next.coefficient f in
    let small = rw same at (c.if-not-is_small.ensures.0 refl) in
    let some = nonzero c.in-Some.next.coefficient (λ z. c.if-next-ne0.true ((zero_bits c.in-Some.next.coefficient f).1 z)) in
    rw (c.in_ok-push.ensures.items, same)
    (c.in-Some.next.variable + 1, going_push _ _ _ _ _ _ _ _ _ _ _ _ c.loop-next.invariant.1 c.in-Some.ensures some small)

pub loop-next-preserved : goal.loop-next-preserved
loop-next-preserved c =
    let f : FitsSigned w128 c.in-Some.next.coefficient = search rules in
    (c.in-Some.next.variable + 1, going_skip _ _ _ _ _ _ _ _ _ _ _ _ c.loop-next.invariant.1 c.in-Some.ensures ((zero_bits c.in-Some.next.coefficient f).0 c.if-next-ne0.false))

pub returns : goal.returns
returns c =
    let g = going_end _ _ _ _ _ _ _ _ c.loop-next.invariant.1 c.in_default.ensures.0 c.in_default.ensures.1 in
    rw (to_z-of_z w128 c.args.p c.ranges.p, to_z-of_z w128 c.args.q c.ranges.q) at g

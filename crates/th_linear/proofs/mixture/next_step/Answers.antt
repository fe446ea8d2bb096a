use Rattle.std.proofs.Common.{pos, rules, arith}
use Rattle.std.specs.Int.{w128}
use Rattle.std.specs.Int.RustNames.{FitsSigned}
use Rattle.th_linear.proofs.Mixes.{clean, left_step, right_step, both_step, above_head, above_none}
use Rattle.th_linear.proofs.mixture.next_step.Goals as goal

pub returns-in-Some-None : goal.returns-in-Some-None
returns-in-Some-None c =
    let fr : FitsSigned w128 c.mix-in-Some-None.result = search rules in
    let fx : FitsSigned w128 c.in-Some-None.x.now.1 = search rules in
    let fy : FitsSigned w128 (pos 0) = search rules in
    let k = clean c.mix-in-Some-None.result c.args.p c.in-Some-None.x.now.1 c.args.q (pos 0) fr c.ranges.p fx c.ranges.q fy c.mix-in-Some-None.ensures in
    left_step c.args.p c.args.q c.in-Some-None.x.now c.in-Some-None.xs.now c.args.left.now c.args.right.now _ c.in-Some-None.ensures.cases.0 c.requires.left
    (above_none c.in-Some-None.x.now.0 c.args.right.now c.in-Some-None.ensures'.cases) k

pub returns-in-None-Some : goal.returns-in-None-Some
returns-in-None-Some c =
    let fr : FitsSigned w128 c.mix.result = search rules in
    let fx : FitsSigned w128 (pos 0) = search rules in
    let fy : FitsSigned w128 c.in-None-Some.y.now.1 = search rules in
    let k = clean c.mix.result c.args.p (pos 0) c.args.q c.in-None-Some.y.now.1 fr c.ranges.p fx c.ranges.q fy c.mix.ensures in
    right_step c.args.p c.args.q c.in-None-Some.y.now c.in-None-Some.ys.now c.args.left.now c.args.right.now _ c.in-None-Some.ensures'.cases.0 c.requires.right
    (above_none c.in-None-Some.y.now.0 c.args.left.now c.in-None-Some.ensures.cases) k

pub returns-then-x-y : goal.returns-then-x-y
returns-then-x-y c =
    let fr : FitsSigned w128 c.mix-then-x-y.result = search rules in
    let fx : FitsSigned w128 c.in-Some-Some.x.now.1 = search rules in
    let fy : FitsSigned w128 (pos 0) = search rules in
    let k = clean c.mix-then-x-y.result c.args.p c.in-Some-Some.x.now.1 c.args.q (pos 0) fr c.ranges.p fx c.ranges.q fy c.mix-then-x-y.ensures in
    left_step c.args.p c.args.q c.in-Some-Some.x.now c.in-Some-Some.xs.now c.args.left.now c.args.right.now _ c.in-Some-Some.ensures.cases.0 c.requires.left
    (above_head c.in-Some-Some.x.now.0 c.in-Some-Some.y.now c.in-Some-Some.ys.now c.args.right.now c.in-Some-Some.ensures'.cases.0 c.if-x-y.true c.requires.right) k

pub returns-then-y-x : goal.returns-then-y-x
returns-then-y-x c =
    let fr : FitsSigned w128 c.mix-then-y-x.result = search rules in
    let fx : FitsSigned w128 (pos 0) = search rules in
    let fy : FitsSigned w128 c.in-Some-Some.y.now.1 = search rules in
    let k = clean c.mix-then-y-x.result c.args.p (pos 0) c.args.q c.in-Some-Some.y.now.1 fr c.ranges.p fx c.ranges.q fy c.mix-then-y-x.ensures in
    right_step c.args.p c.args.q c.in-Some-Some.y.now c.in-Some-Some.ys.now c.args.left.now c.args.right.now _ c.in-Some-Some.ensures'.cases.0 c.requires.right
    (above_head c.in-Some-Some.y.now.0 c.in-Some-Some.x.now c.in-Some-Some.xs.now c.args.left.now c.in-Some-Some.ensures.cases.0 c.if-y-x.true c.requires.left) k

pub returns-else-y-x : goal.returns-else-y-x
returns-else-y-x c =
    let fr : FitsSigned w128 c.mix-else-y-x.result = search rules in
    let fx : FitsSigned w128 c.in-Some-Some.x.now.1 = search rules in
    let fy : FitsSigned w128 c.in-Some-Some.y.now.1 = search rules in
    let k = clean c.mix-else-y-x.result c.args.p c.in-Some-Some.x.now.1 c.args.q c.in-Some-Some.y.now.1 fr c.ranges.p fx c.ranges.q fy c.mix-else-y-x.ensures in
    both_step c.args.p c.args.q c.in-Some-Some.x.now c.in-Some-Some.y.now c.in-Some-Some.xs.now c.in-Some-Some.ys.now c.args.left.now c.args.right.now _ c.in-Some-Some.ensures.cases.0 c.in-Some-Some.ensures'.cases.0 c.requires.left c.requires.right
    (omega (arith, c.if-x-y.false, c.if-y-x.false)) k

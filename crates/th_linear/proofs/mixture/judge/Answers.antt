use Rattle.std.proofs.Common.{◌≡◌, rules, false, true, refl, to_z, of_z}
use Rattle.std.specs.Int.{w128}
use Rattle.std.specs.Int.RustNames.{FitsSigned}
use Rattle.std.proofs.lemmas.Int.{to_z-of_z}
use Rattle.th_linear.proofs.Mixes.{clean}
use Rattle.th_linear.proofs.Terms.{terms_ascend}
use Rattle.th_linear.proofs.Judging.{large_constant, large_terms, made_terms, made_alone}
use Rattle.th_linear.proofs.mixture.judge.Goals as goal

pub returns-then-not-is_small : goal.returns-then-not-is_small
returns-then-not-is_small c =
    let fr : FitsSigned w128 c.mix-constant.result = search rules in
    let fa : FitsSigned w128 c.a.inside.constant = search rules in
    let fb : FitsSigned w128 c.b.inside.constant = search rules in
    let k = clean c.mix-constant.result c.args.p c.a.inside.constant c.args.q c.b.inside.constant fr c.ranges.p fa c.ranges.q fb c.mix-constant.ensures in
    rw (← c.a.view_is, ← c.b.view_is) (large_constant _ c.args.p _ c.args.q (λ s. let n : false ≡ true = c.if-not-is_small.ensures.1 (rw k s) in cc))

pub returns-in-None : goal.returns-in-None
returns-in-None c =
    let m = rw (to_z-of_z w128 c.args.p c.ranges.p, to_z-of_z w128 c.args.q c.ranges.q, c.as_slice.ensures.value, c.as_slice-2.ensures.value) at c.in-None.ensures in
    rw (← c.a.view_is, ← c.b.view_is) (large_terms _ c.args.p _ c.args.q (terms_ascend 0 c.a.inside.coefs.items c.a.invariant.terms) (terms_ascend 0 c.b.inside.coefs.items c.b.invariant.terms) m)

pub returns-in-Some-true : goal.returns-in-Some-true
returns-in-Some-true c =
    let fr : FitsSigned w128 c.mix-constant.result = search rules in
    let fa : FitsSigned w128 c.a.inside.constant = search rules in
    let fb : FitsSigned w128 c.b.inside.constant = search rules in
    let k = clean c.mix-constant.result c.args.p c.a.inside.constant c.args.q c.b.inside.constant fr c.ranges.p fa c.ranges.q fb c.mix-constant.ensures in
    let m = rw (c.in-Some-true.field-0-test, to_z-of_z w128 c.args.p c.ranges.p, to_z-of_z w128 c.args.q c.ranges.q, c.as_slice.ensures.value, c.as_slice-2.ensures.value) at c.in-Some-true.ensures in
    rw (← c.a.view_is, ← c.b.view_is)
    (made_terms _ c.args.p _ c.args.q (to_z w128 (of_z w128 c.mix-constant.result)) (terms_ascend 0 c.a.inside.coefs.items c.a.invariant.terms) (terms_ascend 0 c.b.inside.coefs.items c.b.invariant.terms) m k (c.if-not-is_small.ensures.0 refl))

pub returns-in-Some-false : goal.returns-in-Some-false
returns-in-Some-false c =
    let fr : FitsSigned w128 c.mix-constant.result = search rules in
    let fa : FitsSigned w128 c.a.inside.constant = search rules in
    let fb : FitsSigned w128 c.b.inside.constant = search rules in
    let k = clean c.mix-constant.result c.args.p c.a.inside.constant c.args.q c.b.inside.constant fr c.ranges.p fa c.ranges.q fb c.mix-constant.ensures in
    let m = rw (c.in-Some-false.field-0-test, to_z-of_z w128 c.args.p c.ranges.p, to_z-of_z w128 c.args.q c.ranges.q, c.as_slice.ensures.value, c.as_slice-2.ensures.value) at c.in-Some-false.ensures in
    rw (← c.a.view_is, ← c.b.view_is)
    (made_alone _ c.args.p _ c.args.q (to_z w128 (of_z w128 c.mix-constant.result)) c.judge_alone.result (terms_ascend 0 c.a.inside.coefs.items c.a.invariant.terms) (terms_ascend 0 c.b.inside.coefs.items c.b.invariant.terms) m k (c.if-not-is_small.ensures.0 refl) c.judge_alone.ensures)

use Rattle.std.proofs.Common.{◌≡◌, rules, inl, inr, false, true, refl, sym}
use Rattle.std.specs.Int.{w128}
use Rattle.std.specs.Int.RustNames.{FitsSigned}
use Rattle.std.proofs.lemmas.Int.{to_z-of_z}
use Rattle.std.proofs.Common.{to_z, of_z}
use Rattle.th_linear.proofs.Mixes.{clean}
use Rattle.th_linear.proofs.Terms.{terms_ascend}
use Rattle.th_linear.proofs.Summing.{mixed_some, mixed_large_constant, mixed_large_terms}
use Rattle.th_linear.proofs.mixture.mix_facts.Goals as goal

pub returns-then-not-is_small-clause-exact : goal.returns-then-not-is_small-clause-exact
returns-then-not-is_small-clause-exact c =
    let fr : FitsSigned w128 c.mix-constant.result = search rules in
    let fa : FitsSigned w128 c.a.inside.constant = search rules in
    let fb : FitsSigned w128 c.b.inside.constant = search rules in
    let k = clean c.mix-constant.result c.args.p c.a.inside.constant c.args.q c.b.inside.constant fr c.ranges.p fa c.ranges.q fb c.mix-constant.ensures in
    rw (← c.a.view_is, ← c.b.view_is) (inl (λ s. let n : false ≡ true = c.if-not-is_small.ensures.1 (rw k s) in cc))

pub returns-in-Some-clause-exact : goal.returns-in-Some-clause-exact
returns-in-Some-clause-exact c =
    let fr : FitsSigned w128 c.mix-constant.result = search rules in
    let fa : FitsSigned w128 c.a.inside.constant = search rules in
    let fb : FitsSigned w128 c.b.inside.constant = search rules in
    let k = clean c.mix-constant.result c.args.p c.a.inside.constant c.args.q c.b.inside.constant fr c.ranges.p fa c.ranges.q fb c.mix-constant.ensures in
    let m = rw (c.in-Some.is, to_z-of_z w128 c.args.p c.ranges.p, to_z-of_z w128 c.args.q c.ranges.q, c.as_slice.ensures.value, c.as_slice-2.ensures.value) at c.in_ok-coefs.ensures in
    rw (← c.a.view_is, ← c.b.view_is) (record {
      value = m.value;
      coef = m.coef;
      constant = k;
      rel = refl;
    })

pub returns-in-None-clause-exact : goal.returns-in-None-clause-exact
returns-in-None-clause-exact c =
    let m = rw (c.in-None.is, to_z-of_z w128 c.args.p c.ranges.p, to_z-of_z w128 c.args.q c.ranges.q, c.as_slice.ensures.value, c.as_slice-2.ensures.value) at c.in_ok-coefs.ensures in
    rw (← c.a.view_is, ← c.b.view_is) (inr m)

pub returns-then-not-is_small-clause-value : goal.returns-then-not-is_small-clause-value
returns-then-not-is_small-clause-value c =
    let fr : FitsSigned w128 c.mix-constant.result = search rules in
    let fa : FitsSigned w128 c.a.inside.constant = search rules in
    let fb : FitsSigned w128 c.b.inside.constant = search rules in
    let k = clean c.mix-constant.result c.args.p c.a.inside.constant c.args.q c.b.inside.constant fr c.ranges.p fa c.ranges.q fb c.mix-constant.ensures in
    rw (← c.a.view_is, ← c.b.view_is)
    (sym (mixed_large_constant c.args.p _ c.args.q _ _ (λ s. let n : false ≡ true = c.if-not-is_small.ensures.1 (rw k s) in cc)))

pub returns-in-Some-clause-value : goal.returns-in-Some-clause-value
returns-in-Some-clause-value c =
    let fr : FitsSigned w128 c.mix-constant.result = search rules in
    let fa : FitsSigned w128 c.a.inside.constant = search rules in
    let fb : FitsSigned w128 c.b.inside.constant = search rules in
    let k = clean c.mix-constant.result c.args.p c.a.inside.constant c.args.q c.b.inside.constant fr c.ranges.p fa c.ranges.q fb c.mix-constant.ensures in
    let m = rw (c.in-Some.is, to_z-of_z w128 c.args.p c.ranges.p, to_z-of_z w128 c.args.q c.ranges.q, c.as_slice.ensures.value, c.as_slice-2.ensures.value) at c.in_ok-coefs.ensures in
    rw (← c.a.view_is, ← c.b.view_is)
    (sym (mixed_some c.args.p _ c.args.q _ _ c.in-Some.coefs.items (to_z w128 (of_z w128 c.mix-constant.result))
    (terms_ascend 0 c.a.inside.coefs.items c.a.invariant.terms) (terms_ascend 0 c.b.inside.coefs.items c.b.invariant.terms) m k (c.if-not-is_small.ensures.0 refl)))

pub returns-in-None-clause-value : goal.returns-in-None-clause-value
returns-in-None-clause-value c =
    let m = rw (c.in-None.is, to_z-of_z w128 c.args.p c.ranges.p, to_z-of_z w128 c.args.q c.ranges.q, c.as_slice.ensures.value, c.as_slice-2.ensures.value) at c.in_ok-coefs.ensures in
    rw (← c.a.view_is, ← c.b.view_is)
    (sym (mixed_large_terms c.args.p _ c.args.q _ _ (terms_ascend 0 c.a.inside.coefs.items c.a.invariant.terms) (terms_ascend 0 c.b.inside.coefs.items c.b.invariant.terms) m))

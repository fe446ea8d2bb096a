use Rattle.std.proofs.Common.{◌≡◌, ◌<◌, pos, get_or, length, rules, arith}
use Rattle.std.specs.Int.{w128}
use Rattle.std.specs.Int.RustNames.{unsigned_abs, FitsSigned}
use Rattle.std.proofs.lemmas.Int.{to_z-of_z}
use Rattle.th_linear.proofs.Divisors.{divides_at, same_at, divide_step}
use Rattle.th_linear.proofs.division.divide.Goals as goal

pub exact_quotient-term-requires-clause-divides : goal.exact_quotient-term-requires-clause-divides
exact_quotient-term-requires-clause-divides c =
    let t = get_or c.loop-term.term-items c.loop-term.term-index (0, pos 0) in
    let f : FitsSigned w128 t.1 = search rules in
    let lt : c.loop-term.term-index < length c.args.coefs.now.items = search rules in
    rw (to_z-of_z w128 c.args.g c.ranges.g, to_z-of_z w128 t.1 f, ← same_at c.args.coefs.now.items c.loop-term.term-items c.loop-term.term-index (0, pos 0) c.loop-term.invariant.1)
    (divides_at (unsigned_abs c.args.g) c.args.coefs.now.items c.loop-term.term-index (0, pos 0) c.requires.divides lt)

pub loop-term-preserved : goal.loop-term-preserved
loop-term-preserved c =
    let t = get_or c.loop-term.term-items c.loop-term.term-index (0, pos 0) in
    let f : FitsSigned w128 t.1 = search rules in
    let q : FitsSigned w128 c.exact_quotient-term.result = search rules in
    let len : length c.args.coefs.now.items ≡ length c.loop-term.term-items = search rules in
    let gs = to_z-of_z w128 c.args.g c.ranges.g in
    let e = rw (to_z-of_z w128 t.1 f, gs) at c.exact_quotient-term.ensures in
    rw (gs, to_z-of_z w128 c.exact_quotient-term.result q)
    (divide_step c.args.g c.args.coefs.now.items c.loop-term.term-items c.loop-term.term-index c.exact_quotient-term.result
    (omega (arith, len, c.loop-term-test.true)) len (rw gs at c.loop-term.invariant.0) c.loop-term.invariant.1 e)

use Rattle.std.proofs.Common.{◌≡◌, take, get_or, pos, rules, ap, ◌∙◌}
use Rattle.std.specs.Int.{w128}
use Rattle.std.proofs.lemmas.Int.{to_z-of_z}
use Rattle.std.proofs.lemmas.List.{take_more}
use Rattle.std.specs.Int.RustNames.{unsigned_abs, FitsSigned}
use Rattle.th_linear.proofs.Divisors.{content_more, coprime_front, small_term}
use Rattle.th_linear.proofs.divisor.content.Goals as goal

pub magnitude-requires : goal.magnitude-requires
magnitude-requires c =
    let t = get_or c.args.coefs.now c.loop-term.term-index (0, pos 0) in
    let f : FitsSigned w128 t.1 = search rules in
    rw (to_z-of_z w128 t.1 f) (small_term 0 c.loop-term.term-index c.args.coefs.now (0, pos 0) c.requires c.loop-term-test.true)

pub loop-term-preserved : goal.loop-term-preserved
loop-term-preserved c =
    let t = get_or c.args.coefs.now c.loop-term.term-index (0, pos 0) in
    let f : FitsSigned w128 t.1 = search rules in
    let e : c.magnitude.result ≡ unsigned_abs t.1 = c.magnitude.ensures ∙ ap unsigned_abs (to_z-of_z w128 t.1 f) in
    rw (take_more c.args.coefs.now c.loop-term.term-index (0, pos 0) c.loop-term-test.true)
    (content_more (take c.loop-term.term-index c.args.coefs.now) t c.loop-term.g c.euclid-g.result c.loop-term.invariant (rw e at c.euclid-g.ensures))

pub returns-then-g-eq1 : goal.returns-then-g-eq1
returns-then-g-eq1 c =
    let e : c.loop-term.g ≡ 1 = c.if-g-eq1.true in
    coprime_front c.loop-term.term-index c.args.coefs.now (rw e at c.loop-term.invariant)

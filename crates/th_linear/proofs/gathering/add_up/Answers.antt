use Rattle.std.proofs.Common.{◌<◌, ◌≤◌, pos, ◌+ℤ◌, length, arith, rules, ◌∙◌}
use Rattle.std.specs.Int.{w128}
use Rattle.std.specs.Int.RustNames.{FitsSigned}
use Rattle.std.proofs.lemmas.Int.{to_z-of_z, fits_signed_from_abs}
use Rattle.th_linear.proofs.Totals.{at_start, small_here, sum_less, at_same, at_next, at_end}
use Rattle.th_linear.proofs.gathering.add_up.Goals as goal
use Rattle.th_linear.proofs.gathering.add_up.Goals.{then-term-variable, else-term-variable}

pub loop-at-init : goal.loop-at-init
loop-at-init c = at_start c.args.terms.now.items c.requires.ascending

pub overflow_add-sum : goal.overflow_add-sum
overflow_add-sum c =
    let t = c.index-term.result.now in
    let f : FitsSigned w128 t.1 = search rules in
    let lt : c.loop-at.at < length c.loop-at.terms.items = omega (arith, c.loop-at.invariant.same_len) in
    let adding = rw c.loop-at.sum-is at c.loop-at.invariant in
    let small = small_here c.args.terms.now.items c.loop-at.terms.items c.loop-at.kept c.loop-at.at c.loop-at.variable c.loop-at.sum t c.requires.small adding lt c.index-term.ensures in
    rw (to_z-of_z w128 t.1 f) (elim c.if-term-variable.branch [
      | then-term-variable w ↦
          let b = sum_less (pos 0) t.1 0 (omega arith) small in
          rw w.sum-is (fits_signed_from_abs w128 (pos 0 +ℤ t.1) (omega (arith, b)))
      | else-term-variable w ↦
          let b = sum_less c.loop-at.sum t.1 c.loop-at.at adding.bound small in
          rw (w.sum-is, c.loop-at.sum-is) (fits_signed_from_abs w128 (c.loop-at.sum +ℤ t.1) (omega (arith, b)))
    ])

pub loop-at-preserved : goal.loop-at-preserved
loop-at-preserved c =
    let t = c.index-term.result.now in
    let f : FitsSigned w128 t.1 = search rules in
    let lt : c.loop-at.at < length c.loop-at.terms.items = omega (arith, c.loop-at.invariant.same_len) in
    let adding = rw c.loop-at.sum-is at c.loop-at.invariant in
    let small = small_here c.args.terms.now.items c.loop-at.terms.items c.loop-at.kept c.loop-at.at c.loop-at.variable c.loop-at.sum t c.requires.small adding lt c.index-term.ensures in
    rw (to_z-of_z w128 t.1 f) (elim c.if-term-variable.branch [
      | then-term-variable w ↦
          let b = sum_less (pos 0) t.1 0 (omega arith) small in
          let g : FitsSigned w128 (pos 0 +ℤ t.1) = fits_signed_from_abs w128 (pos 0 +ℤ t.1) (omega (arith, b)) in
          rw (w.sum-is, w.terms-is, w.kept-is, w.variable-is, to_z-of_z w128 (pos 0 +ℤ t.1) g)
          (at_next c.args.terms.now.items c.loop-at.terms.items w.put-kept.new.terms.items c.loop-at.kept w.put-kept.result c.loop-at.at c.loop-at.variable c.loop-at.sum t adding lt c.index-term.ensures small w.if-term-variable.true w.put-kept.ensures.len w.put-kept.ensures.place
          (rw c.loop-at.sum-is at w.put-kept.ensures.stays) (rw c.loop-at.sum-is at w.put-kept.ensures.front) w.put-kept.ensures.rest)
      | else-term-variable w ↦
          let b = sum_less c.loop-at.sum t.1 c.loop-at.at adding.bound small in
          let g : FitsSigned w128 (c.loop-at.sum +ℤ t.1) = fits_signed_from_abs w128 (c.loop-at.sum +ℤ t.1) (omega (arith, b)) in
          rw (w.sum-is, w.terms-is, w.kept-is, w.variable-is, c.loop-at.sum-is, to_z-of_z w128 (c.loop-at.sum +ℤ t.1) g)
          (at_same c.args.terms.now.items c.loop-at.terms.items c.loop-at.kept c.loop-at.at c.loop-at.variable c.loop-at.sum t adding lt c.index-term.ensures small w.if-term-variable.false)
    ])

pub returns : goal.returns
returns c =
    let le : length c.loop-at.terms.items ≤ c.loop-at.at = omega (arith, c.loop-at.invariant.same_len) in
    let adding = rw c.loop-at.sum-is at c.loop-at.invariant in
    c.truncate.ensures.items
    ∙ at_end c.args.terms.now.items c.loop-at.terms.items c.put-kept-2.new.terms.items c.loop-at.kept c.put-kept-2.result c.loop-at.at c.loop-at.variable c.loop-at.sum adding le (rw c.loop-at.sum-is at c.put-kept-2.ensures.front)

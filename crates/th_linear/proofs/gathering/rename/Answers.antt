use Rattle.std.proofs.Common.{pos, get_or, rules}
use Rattle.std.specs.Int.{w128}
use Rattle.std.specs.Int.RustNames.{FitsSigned}
use Rattle.std.proofs.lemmas.Int.{to_z-of_z}
use Rattle.th_linear.proofs.Divisors.{small_term}
use Rattle.th_linear.proofs.Totals.{renamed_more, are_small_push}
use Rattle.th_linear.proofs.gathering.rename.Goals as goal

pub loop-term-preserved : goal.loop-term-preserved
loop-term-preserved c =
    let t = get_or c.args.terms.now c.loop-term.term-index (0, pos 0) in
    let f : FitsSigned w128 t.1 = search rules in
    record {
      renamed = rw (c.in_ok-push.ensures.items, to_z-of_z w128 t.1 f, c.loop-term.invariant.renamed)
          (renamed_more c.args.names.now c.args.terms.now c.loop-term.term-index c.name_of.result (0, pos 0) c.loop-term-test.true c.name_of.ensures);
      small = rw (c.in_ok-push.ensures.items, to_z-of_z w128 t.1 f)
          (are_small_push c.loop-term.renamed.items (c.name_of.result, t.1) c.loop-term.invariant.small
          (small_term 0 c.loop-term.term-index c.args.terms.now (0, pos 0) c.requires c.loop-term-test.true));
    }

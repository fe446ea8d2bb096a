use Rattle.std.proofs.Common.{pos, arith}
use Rattle.th_canonical.proofs.Pairing.{terms_unequal, terms_more}
use Rattle.th_canonical.proofs.subsumption.match_terms.Goals as goal

pub returns-then-terms-others : goal.returns-then-terms-others
returns-then-terms-others c = terms_unequal c.args.query.now c.args.by.now c.args.terms.now c.args.others.now c.args.matching.now c.if-terms-others.true

pub loop-i-preserved : goal.loop-i-preserved
loop-i-preserved c =
    let same = c.if-terms-others.false in
    let lt = c.loop-i-test.true in
    terms_more c.args.query.now c.args.by.now c.args.terms.now c.args.others.now c.loop-i.i (0, pos 0) c.loop-i.matching c.match_term.new.matching _ lt (omega (arith, same, lt)) c.if-not-match_term.ensures c.loop-i.invariant

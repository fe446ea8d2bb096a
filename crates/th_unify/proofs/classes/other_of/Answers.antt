use Rattle.std.proofs.Common.{subst}
use Rattle.std.proofs.lemmas.Bool.{both_ways}
use Rattle.th_ir.specs.Program.{Among}
use Rattle.th_linear.specs.Gathered.{name_of}
use Rattle.th_unify.proofs.Items.{among_item}
use Rattle.th_unify.proofs.Tables.{agree_with_more}
use Rattle.th_unify.proofs.classes.other_of.Goals as goal

pub returns-then-is_other : goal.returns-then-is_other
returns-then-is_other g c =
    let w = c.is_other.ensures.0 c.if-is_other.true in
    (subst (λ k. Among c.args.pairs.now (k, c.pair-item.result.1)) w.0 (among_item c.args.pairs.now c.loop-pair.pair-index c.pair-item.result c.loop-pair-test.true c.pair-item.is), w.1)

pub loop-pair-preserved : goal.loop-pair-preserved
loop-pair-preserved g c =
    agree_with_more c.args.key.now c.args.number c.args.pairs.now c.loop-pair.pair-index c.pair-item.result (name_of c.args.names.now) c.loop-pair-test.true c.pair-item.is c.loop-pair.invariant
    (λ a b. both_ways _ c.if-is_other.false (c.is_other.ensures.1 (a, b)))

use Rattle.std.proofs.Common.{◌∙◌, sym, subst}
use Rattle.th_linear.specs.Gathered.{name_of}
use Rattle.th_unify.specs.Classes.{AgreeWith}
use Rattle.th_unify.proofs.Items.{among_item, all_more, all_seen}
use Rattle.th_unify.proofs.classes.clash_in.Goals as goal

pub returns-in-Some : goal.returns-in-Some
returns-in-Some g c =
    let w = c.in-Some.ensures in
    (c.pair-item.result.0, among_item c.args.pairs.now c.loop-pair.pair-index c.pair-item.result c.loop-pair-test.true c.pair-item.is, w.0, λ e. w.1 (sym e ∙ sym c.name.ensures))

pub loop-pair-preserved : goal.loop-pair-preserved
loop-pair-preserved g c =
    let here : AgreeWith c.pair-item.result.0 (name_of c.args.names.now c.pair-item.result.1) c.args.pairs.now (name_of c.args.names.now) =
    subst (λ n. AgreeWith c.pair-item.result.0 n c.args.pairs.now (name_of c.args.names.now)) c.name.ensures c.in_default.ensures in
    all_more (λ x. AgreeWith x.0 (name_of c.args.names.now x.1) c.args.pairs.now (name_of c.args.names.now)) c.args.pairs.now c.loop-pair.pair-index c.pair-item.result c.loop-pair-test.true c.loop-pair.invariant
    (subst (λ x. AgreeWith x.0 (name_of c.args.names.now x.1) c.args.pairs.now (name_of c.args.names.now)) c.pair-item.is here)

pub returns : goal.returns
returns g c = λ k s t a b. sym (all_seen (λ x. AgreeWith x.0 (name_of c.args.names.now x.1) c.args.pairs.now (name_of c.args.names.now)) c.args.pairs.now c.loop-pair.pair-index c.loop-pair-test.false c.loop-pair.invariant (k, s) a t b)

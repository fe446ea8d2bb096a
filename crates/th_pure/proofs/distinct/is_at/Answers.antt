use Rattle.std.proofs.Common.{◌≡◌, ◌≤◌, length, arith, refl, sym, ◌∙◌, true, false}
use Rattle.th_pure.proofs.Indexed.{not_there, there, beyond, next_other}
use Rattle.th_pure.proofs.distinct.is_at.Goals as goal

pub returns-then-entry-key : goal.returns-then-entry-key
returns-then-entry-key c =
    let above = c.requires.above c.loop-j.j (record { key = 0; place = 0 }) c.loop-j.auto.j c.loop-j-test.true in
    not_there c.args.facts.now c.args.entries.now c.args.at c.loop-j.j c.args.key c.args.fact.now c.requires.indexed c.requires.key c.requires.below c.loop-j.invariant
    (beyond c.args.entries.now c.loop-j.j c.args.key c.requires.indexed.ascending c.loop-j-test.true c.if-entry-key.true above)

pub returns-then-same : goal.returns-then-same
returns-then-same c =
    there c.args.facts.now c.args.entries.now c.loop-j.j c.args.fact.now c.index-facts-entry.result c.requires.indexed c.loop-j-test.true c.index-facts-entry.is (c.if-same.ensures.0 refl)

pub loop-j-preserved : goal.loop-j-preserved
loop-j-preserved c =
    next_other c.args.facts.now c.args.entries.now c.args.at c.loop-j.j c.args.fact.now c.index-facts-entry.result c.requires.indexed c.loop-j-test.true c.loop-j.invariant c.index-facts-entry.is
    (λ e. let n : true ≡ false = sym (c.same.ensures.1 e) ∙ c.if-same.false in cc)

pub returns : goal.returns
returns c =
    not_there c.args.facts.now c.args.entries.now c.args.at c.loop-j.j c.args.key c.args.fact.now c.requires.indexed c.requires.key c.requires.below c.loop-j.invariant
    (λ i e le lt same. let past : length c.args.entries.now ≤ c.loop-j.j = c.loop-j-test.false in absurd (omega (arith, past, le, lt)))

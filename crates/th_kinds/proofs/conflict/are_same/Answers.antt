use Rattle.std.proofs.Common.{◌+◌, cond, false, drop, sym, ap, ◌∙◌, arith}
use Rattle.th_syntax.specs.declared.kind.SlotKind.TheVariants as kind
use Rattle.th_syntax.specs.Kinds.{are_same_kinds}
use Rattle.th_kinds.proofs.SameKinds.{same_next, same_end, same_long}
use Rattle.th_kinds.proofs.conflict.are_same.Goals as goal

pub returns-then-left-right : goal.returns-then-left-right
returns-then-left-right c = sym (same_long c.args.left.now c.args.right.now c.if-left-right.true)

pub loop-at-preserved : goal.loop-at-preserved
loop-at-preserved c =
    sym (same_next c.args.left.now c.args.right.now c.loop-at.at kind.Int kind.Int c.loop-at-test.true (let same = c.if-left-right.false in let here = c.loop-at-test.true in omega arith)
    ∙ ap (λ b. cond b (are_same_kinds (drop (c.loop-at.at + 1) c.args.left.now) (drop (c.loop-at.at + 1) c.args.right.now)) false) (sym c.is_same.ensures ∙ c.if-not-is_same.false))
    ∙ c.loop-at.invariant

pub returns-then-not-is_same : goal.returns-then-not-is_same
returns-then-not-is_same c =
    sym (sym c.loop-at.invariant ∙ same_next c.args.left.now c.args.right.now c.loop-at.at kind.Int kind.Int c.loop-at-test.true (let same = c.if-left-right.false in let here = c.loop-at-test.true in omega arith)
    ∙ ap (λ b. cond b (are_same_kinds (drop (c.loop-at.at + 1) c.args.left.now) (drop (c.loop-at.at + 1) c.args.right.now)) false) (sym c.is_same.ensures ∙ c.if-not-is_same.true))

pub returns : goal.returns
returns c =
    sym (sym c.loop-at.invariant ∙ same_end c.args.left.now c.args.right.now c.loop-at.at (let over = c.loop-at-test.false in omega arith) (let same = c.if-left-right.false in let over = c.loop-at-test.false in omega arith))

use Rattle.std.proofs.Common.{◌∙◌}
use Rattle.th_kinds.proofs.Flows.{flows_from, begins, ascends, lands}
use Rattle.th_kinds.proofs.flowing.flows_well.Goals as goal

pub returns-then-not-begin : goal.returns-then-not-begin
returns-then-not-begin c = (
  λ e. absurd cc,
  λ well. absurd (let there = c.begin.ensures.1 (begins c.args.instrs.now c.as_slice-starts.result.now (c.as_slice-starts.ensures.value ∙ c.in_ok-offsets.ensures) well) in let none = c.if-not-begin.true in cc),
)

pub returns-then-not-ascend : goal.returns-then-not-ascend
returns-then-not-ascend c = (
  λ e. absurd cc,
  λ well. absurd (let there = c.ascend.ensures.1 (ascends c.args.instrs.now c.as_slice-starts.result.now (c.as_slice-starts.ensures.value ∙ c.in_ok-offsets.ensures) well) in let none = c.if-not-ascend.true in cc),
)

pub returns : goal.returns
returns c =
    let are = c.as_slice-starts.ensures.value ∙ c.in_ok-offsets.ensures in
    let begin = c.begin.ensures.0 c.if-not-begin.false in (
      λ e. flows_from c.args.instrs.now c.as_slice-starts.result.now are begin.0 begin.1 (c.ascend.ensures.0 c.if-not-ascend.false) (c.in_ok-land.ensures.0 e),
      λ well. c.in_ok-land.ensures.1 (lands c.args.instrs.now c.as_slice-starts.result.now are well),
    )

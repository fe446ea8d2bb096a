use Rattle.std.proofs.Common.{List, Option, sym, subst, ◌∙◌}
use Rattle.th_syntax.specs.Kinds.{KindsAt}
use Rattle.th_kinds.specs.States.{seen_state}
use Rattle.th_kinds.specs.Kept.{IsStill}
use Rattle.th_kinds.proofs.settle.settle.Goals as goal

pub returns-then-not-changed-clause-still : goal.returns-then-not-changed-clause-still
returns-then-not-changed-clause-still c k inside =
    subst (λ (kept : List (Option KindsAt)). IsStill (seen_state c.args.entry.now) c.args.code.now.instrs.now c.args.code.now.offsets.items kept k) (sym (c.in_ok-changed.ensures.same c.if-not-changed.true))
    (c.in_ok-changed.ensures.still c.if-not-changed.true k inside)

pub loop-queue-preserved : goal.loop-queue-preserved
loop-queue-preserved c = record {
  under = λ u stable old. c.in_ok-changed.ensures.under u stable (c.in_ok-work_off.ensures.under (seen_state c.args.entry.now) u stable (c.loop-queue.invariant.under u stable old));
  places = c.in_ok-changed.ensures.places ∙ c.in_ok-work_off.ensures.places ∙ c.loop-queue.invariant.places;
}

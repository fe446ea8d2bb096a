use Rattle.std.proofs.Common.{◌++◌, refl, sym, ap, ◌∙◌}
use Rattle.th_base.proofs.Ascending.{has_at}
use Rattle.th_incl.proofs.Rounds.{kept_stopped, over_stopped}
use Rattle.th_incl.proofs.run.round.Goals as goal

pub step-requires-clause-inside : goal.step-requires-clause-inside
step-requires-clause-inside c = c.loop-set.invariant.front _ (has_at c.deref-set-items.result.now _ c.loop-set.set-index c.loop-set-test.true refl)

pub returns-then-not-went-clause-kept : goal.returns-then-not-went-clause-kept
returns-then-not-went-clause-kept c =
    let s = c.args.system.now in
    let v = c.loop-set.invariant in
    let front = c.deref-set-items.result.now in
    let inside = v.front _ (has_at front _ c.loop-set.set-index c.loop-set-test.true refl) in
    let t = c.in_ok-went.ensures.stops c.if-not-went.true in
    let queue = c.in_ok-extend_from_slice.ensures.items ∙ ap (λ l. c.step.new.work.queue.items ++ l) (c.as_slice.ensures.value ∙ sym c.deref-set-items.ensures.value) in
    let kept = kept_stopped s c.args.limit _ c.loop-set.set-index c.loop-set.work c.step.new.work front c.extend_from_slice.new.self.items v.consistent inside t v.queued v.front queue in
    record {
      consistent = record { tables = v.consistent.tables; inv = kept.0; pairs = kept.1 };
      queued = kept.2;
    }

pub returns-then-not-went-clause-over : goal.returns-then-not-went-clause-over
returns-then-not-went-clause-over c = λ e.
    let v = c.loop-set.invariant in
    let inside = v.front _ (has_at c.deref-set-items.result.now _ c.loop-set.set-index c.loop-set-test.true refl) in
    over_stopped c.args.system.now c.args.limit _ c.loop-set.work c.step.new.work v.consistent inside (c.in_ok-went.ensures.stops c.if-not-went.true)

use Rattle.std.proofs.Common.{◌≡◌, ◌<◌, ◌≤◌, ℕ, true, [], drop}
use Rattle.th_base.specs.IdSet.{has}
use Rattle.th_incl.specs.Run.{Queued, Progress}
use Rattle.th_incl.specs.Kept.{IsConsistent}
use Rattle.th_incl.specs.View.{Grows, TellsGrowth}
use Rattle.th_incl.proofs.run.round.Given as goal

abbrev pub invariant-loop-set : goal.invariant-loop-set
invariant-loop-set l = record {
  consistent : IsConsistent l.system l.work;
  queued : Queued l.system.sets l.work.news.items l.work.queue.items (drop l.set-index l.set-items);
  front : (k : ℕ) → has l.set-items k ≡ true → k < l.system.sets;
  within : l.work.pairs ≤ l.limit;
  grows : Grows l.fn.work.sets.items l.fn.work.grown l.work.sets.items l.work.grown;
  told : TellsGrowth l.fn.work.grown l.fn.work.pairs l.work.grown l.work.pairs;
  progress : Progress l.fn.work.sets.items l.work.sets.items [] l.work.queue.items;
}

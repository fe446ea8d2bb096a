use Rattle.std.proofs.Common.{◌≤◌, ◌+◌, ◌*◌, min, length}
use Rattle.th_incl.specs.Run.{room}
use Rattle.th_incl.specs.Kept.{Kept}
use Rattle.th_incl.specs.View.{Grows, TellsGrowth}
use Rattle.th_incl.proofs.run.rounds.Given as goal

abbrev pub invariant-loop-alloc : goal.invariant-loop-alloc
invariant-loop-alloc l = record { kept : Kept l.system l.work; within : l.work.pairs ≤ l.limit; grows : Grows l.fn.work.sets.items l.fn.work.grown l.work.sets.items l.work.grown; told : TellsGrowth l.fn.work.grown l.fn.work.pairs l.work.grown l.work.pairs }

abbrev pub decreases-loop-alloc : goal.decreases-loop-alloc
decreases-loop-alloc l = 2 * room l.work.sets.items + min 1 (length l.work.queue.items)

use Rattle.std.proofs.Common.{◌≡◌, length, [], subst, rules}
use Rattle.th_incl.specs.Run.{Queued}
use Rattle.th_incl.specs.Kept.{constraints_of}
use Rattle.th_incl.proofs.Rounds.{least, no_length}
use Rattle.th_incl.proofs.run.rounds.Goals as goal

pub returns-clause-least : goal.returns-clause-least
returns-clause-least c = λ e.
    let s = c.args.system.now in
    let w = c.loop-alloc.work in
    let none : length w.queue.items ≡ 0 = search rules in
    let kept = c.loop-alloc.invariant.kept in
    least (constraints_of s) w.sets.items w.news.items kept.consistent.inv (subst (λ q. Queued s.sets w.news.items q []) (no_length w.queue.items none) kept.queued)

use Rattle.std.proofs.Common.{◌≡◌}
use Rattle.th_pure.specs.Elimination.{without_repeats}
use Rattle.th_query.specs.Settled.{settled_facts}
use Rattle.th_steps.proofs.settling.settle_facts.Given as goal

-- those so far are settled
abbrev pub invariant-loop-fact : goal.invariant-loop-fact
invariant-loop-fact l = l.kept.items ≡ without_repeats (settled_facts l.yielded)

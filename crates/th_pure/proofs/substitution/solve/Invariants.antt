use Rattle.std.proofs.Common.{◌≡◌}
use Rattle.th_pure.specs.Substitution.{solved, rounds}
use Rattle.th_pure.proofs.substitution.solve.Given as goal

-- the rounds to come give what all give
abbrev pub invariant-loop-rounds : goal.invariant-loop-rounds
invariant-loop-rounds l = solved l.ranges l.fn.facts ≡ rounds l.rounds l.ranges l.left

abbrev pub decreases-loop-rounds : goal.decreases-loop-rounds
decreases-loop-rounds l = l.rounds

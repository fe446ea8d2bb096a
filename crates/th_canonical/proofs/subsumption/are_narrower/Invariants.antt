use Rattle.std.proofs.Common.{◌≡◌, drop}
use Rattle.th_query.specs.Subsumed.{are_narrower}
use Rattle.th_canonical.proofs.subsumption.are_narrower.Given as goal

-- what is left decides
abbrev pub invariant-loop-s : goal.invariant-loop-s
invariant-loop-s l = are_narrower l.query l.by l.s (drop l.s l.matching) ≡ are_narrower l.query l.by 0 l.matching

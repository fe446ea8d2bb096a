use Rattle.std.proofs.Common.{◌≡◌, ◌++◌, drop}
use Rattle.th_query.specs.Contradiction.{ranges_from}
use Rattle.th_canonical.proofs.contradiction.ranges.Given as goal

-- the ranges so far, and those of the rest
abbrev pub invariant-loop-i : goal.invariant-loop-i
invariant-loop-i l = l.ranges.items ++ ranges_from l.i (drop l.i l.syms) ≡ ranges_from 0 l.syms

use Rattle.std.proofs.Common.{◌≡◌, ◌+◌, ◌≤◌, drop}
use Rattle.th_pure.specs.Substitution.{equations}
use Rattle.th_pure.proofs.substitution.count_equations.Given as goal

-- the equations so far are counted
abbrev pub invariant-loop-fact : goal.invariant-loop-fact
invariant-loop-fact l = (l.count ≤ l.fact-index) × (equations l.facts ≡ l.count + equations (drop l.fact-index l.facts))

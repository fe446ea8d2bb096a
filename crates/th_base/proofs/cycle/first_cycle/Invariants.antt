use Rattle.std.proofs.Common.{◌<◌, ℕ}
use Rattle.th_base.specs.Hierarchy.{StandsAbove}
use Rattle.th_base.proofs.cycle.first_cycle.Given as goal

-- no class so far stands above itself
abbrev pub invariant-loop-number : goal.invariant-loop-number
invariant-loop-number l = (c : ℕ) → c < l.number → StandsAbove l.classes c c → ⊥

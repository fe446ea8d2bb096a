use Rattle.std.proofs.Common.{◌≡◌, take}
use Rattle.std.specs.Prelude.{All}
use Rattle.th_linear.specs.Laws.{IsFact}
use Rattle.th_pure.proofs.refutation.copy_all.Given as goal

-- the facts before this one were copied
abbrev pub invariant-loop-fact : goal.invariant-loop-fact
invariant-loop-fact l = (l.list ≡ take l.fact-index l.facts) × All IsFact (take l.fact-index l.facts)

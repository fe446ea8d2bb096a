use Rattle.std.proofs.Common.{◌≡◌, ℕ, List, drop}
use Rattle.th_pure.specs.Elimination.{combinations}
use Rattle.th_pure.specs.Early.{answer_after, AreOpen}
use Rattle.th_pure.proofs.products.add_all.Given as goal

-- the progress leads with the combinations to come where all lead
abbrev pub invariant-loop-upper : goal.invariant-loop-upper
invariant-loop-upper l = record {
  answer : (vs : List ℕ) → answer_after l.fn.so_far (combinations l.variable l.uppers l.lowers) vs
      ≡ answer_after l.progress (combinations l.variable (drop l.upper-index l.uppers) l.lowers) vs;
  inequalities : AreOpen l.fn.so_far → AreOpen l.progress;
}

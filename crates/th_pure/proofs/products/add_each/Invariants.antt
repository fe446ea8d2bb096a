use Rattle.std.proofs.Common.{◌≡◌, ◌++◌, ℕ, List, Option, map, drop}
use Rattle.th_linear.specs.Forms.{Form}
use Rattle.th_pure.specs.Elimination.{vanishing}
use Rattle.th_pure.specs.Early.{answer_after, AreOpen}
use Rattle.th_pure.proofs.products.add_each.Given as goal

-- the progress leads with the combinations to come where all lead
abbrev pub invariant-loop-lower : goal.invariant-loop-lower
invariant-loop-lower l = record {
  answer : (os : List (Option Form)) (vs : List ℕ) → answer_after l.fn.so_far (map (λ b. vanishing l.variable l.upper b) l.lowers ++ os) vs
      ≡ answer_after l.progress (map (λ b. vanishing l.variable l.upper b) (drop l.lower-index l.lowers) ++ os) vs;
  inequalities : AreOpen l.fn.so_far → AreOpen l.progress;
}

use Rattle.std.proofs.Common.{◌≡◌, ℕ, List, [], ◌∷◌, ◌++◌, ◌+◌, ap, sym, subst, arith, ◌∙◌}
use Rattle.th_base.specs.IdSet.{has, IsAscending}
use Rattle.th_points_to.proofs.Over.{numbers, numbers_push, numbers_ascend, in_numbers}
use Rattle.th_points_to.proofs.filters.all_below.Goals as goal

pub loop-at-preserved : goal.loop-at-preserved
loop-at-preserved c =
    c.in_ok-push.ensures.items ∙ ap (λ (l : List ℕ). l ++ c.loop-at.at ∷ []) c.loop-at.invariant
    ∙ ap (λ (k : ℕ). numbers 0 c.loop-at.at ++ k ∷ []) (let same : c.loop-at.at ≡ 0 + c.loop-at.at = omega arith in same) ∙ sym (numbers_push 0 c.loop-at.at)

pub from_ascending-requires : goal.from_ascending-requires
from_ascending-requires c = subst IsAscending (sym c.loop-at.invariant) (numbers_ascend 0 c.loop-at.at)

pub returns : goal.returns
returns c = λ x less.
    ap (λ (l : List ℕ). has l x) (c.from_ascending.ensures ∙ c.loop-at.invariant) ∙ in_numbers 0 c.loop-at.at x (omega arith) (omega (arith, less, c.loop-at-test.false))

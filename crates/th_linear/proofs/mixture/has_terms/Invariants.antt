use Rattle.std.proofs.Common.{◌≢◌, ◌↔◌, ℕ, ℤ, ◌+◌, List, [], length, IsTrue}
use Rattle.th_linear.proofs.Going.{Going}
use Rattle.th_linear.proofs.mixture.has_terms.Given as goal

-- the sum so far, which has terms or not
abbrev pub invariant-loop-next : goal.invariant-loop-next
invariant-loop-next l =
    (low : ℕ) × ((out : List (ℕ × ℤ)) × Going l.fn.p l.fn.left l.fn.q l.fn.right out l.a l.b low × (IsTrue l.some ↔ (out ≢ [])))

abbrev pub decreases-loop-next : goal.decreases-loop-next
decreases-loop-next l = length l.a + length l.b

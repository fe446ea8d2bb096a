use Rattle.std.proofs.Common.{ℕ, ◌+◌, length}
use Rattle.th_linear.proofs.Going.{Going}
use Rattle.th_linear.proofs.mixture.mix_terms.Given as goal

abbrev pub invariant-loop-next : goal.invariant-loop-next
invariant-loop-next l = (low : ℕ) × Going l.fn.p l.fn.left l.fn.q l.fn.right l.out.items l.a l.b low

abbrev pub decreases-loop-next : goal.decreases-loop-next
decreases-loop-next l = length l.a + length l.b

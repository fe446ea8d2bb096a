use Rattle.std.proofs.Common.{ℕ, ◌≡◌, ◌<◌}
use Rattle.th_linear.specs.Gathered.{name_of}
use Rattle.th_unify.proofs.narrowing.are_own.Given as goal

-- those so far are their own names
abbrev pub invariant-loop-symbol : goal.invariant-loop-symbol
invariant-loop-symbol l = (n : ℕ) → n < l.symbol → name_of l.names n ≡ n

use Rattle.std.proofs.Common.{ℕ}
use Rattle.th_incl.specs.Parts.{IsOn}
use Rattle.th_incl.proofs.grown.add_flags.Given as goal

abbrev pub invariant-loop : goal.invariant-loop
invariant-loop l = (k : ℕ) → IsOn l.flags.items k → IsOn l.fn.flags.items k

use Rattle.std.proofs.Common.{take}
use Rattle.th_linear.specs.Normal.{IsContent}
use Rattle.th_linear.proofs.divisor.content.Given as goal

abbrev pub invariant-loop-term : goal.invariant-loop-term
invariant-loop-term l = IsContent l.g (take l.term-index l.coefs)

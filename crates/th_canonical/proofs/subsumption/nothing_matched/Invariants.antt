use Rattle.std.proofs.Common.{◌≡◌, take, map, None}
use Rattle.th_canonical.proofs.subsumption.nothing_matched.Given as goal

-- as many as were passed
abbrev pub invariant-loop-sym : goal.invariant-loop-sym
invariant-loop-sym l = l.matching.items ≡ map (λ x. None) (take l._sym-index l.syms)

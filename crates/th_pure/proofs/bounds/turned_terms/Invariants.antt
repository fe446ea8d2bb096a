use Rattle.std.proofs.Common.{◌≡◌, take, negsuc}
use Rattle.th_linear.specs.Normal.{scaled}
use Rattle.th_pure.proofs.bounds.turned_terms.Given as goal

-- the terms so far are there, with their signs turned
abbrev pub invariant-loop-term : goal.invariant-loop-term
invariant-loop-term l = l.list.items ≡ scaled (negsuc 0) (take l.term-index l.terms)

use Rattle.std.proofs.Common.{◌≡◌, drop}
use Rattle.th_pure.specs.Bounds.{with_terms}
use Rattle.th_pure.proofs.bounds.put_terms.Given as goal

-- the rest's variables put into the list give all
abbrev pub invariant-loop-term : goal.invariant-loop-term
invariant-loop-term l = with_terms l.fn.list.items l.terms ≡ with_terms l.list.items (drop l.term-index l.terms)

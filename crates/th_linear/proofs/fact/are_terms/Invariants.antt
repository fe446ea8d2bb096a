use Rattle.std.proofs.Common.{◌↔◌, drop}
use Rattle.th_linear.specs.Forms.{AreTerms}
use Rattle.th_linear.proofs.fact.are_terms.Given as goal

-- the terms are in order exactly where those from here on are
abbrev pub invariant-loop-term : goal.invariant-loop-term
invariant-loop-term l = AreTerms 0 l.terms ↔ AreTerms l.low (drop l.term-index l.terms)

use Rattle.std.proofs.Common.{◌≡◌, drop}
use Rattle.th_canonical.specs.Matched.{matched_terms}
use Rattle.th_canonical.proofs.subsumption.match_terms.Given as goal

-- what is left is matched from here on
abbrev pub invariant-loop-i : goal.invariant-loop-i
invariant-loop-i l = matched_terms l.query l.by (drop l.i l.terms) (drop l.i l.others) l.matching ≡ matched_terms l.query l.by l.terms l.others l.fn.matching

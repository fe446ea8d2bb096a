use Rattle.std.proofs.Common.{◌≡◌, drop}
use Rattle.th_query.specs.Subsumed.{matched_in_turn, matched_element}
use Rattle.th_canonical.proofs.subsumption.match_all_elements.Given as goal

-- what is left is matched from here on
abbrev pub invariant-loop-element : goal.invariant-loop-element
invariant-loop-element l = matched_in_turn (matched_element l.query l.by) (drop l.element-index l.by.elems) l.matching ≡ matched_in_turn (matched_element l.query l.by) l.by.elems l.fn.matching

use Rattle.std.proofs.Common.{◌≡◌, drop}
use Rattle.th_query.specs.Subsumed.{matched_in_turn, matched_register}
use Rattle.th_canonical.proofs.subsumption.match_registers.Given as goal

-- what is left is matched from here on
abbrev pub invariant-loop-fact : goal.invariant-loop-fact
invariant-loop-fact l = matched_in_turn (matched_register l.query l.by l.facts) (drop l.fact-index l.regs) l.matching ≡ matched_in_turn (matched_register l.query l.by l.facts) l.regs l.fn.matching

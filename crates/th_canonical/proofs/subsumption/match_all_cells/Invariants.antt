use Rattle.std.proofs.Common.{◌≡◌, drop}
use Rattle.th_query.specs.Subsumed.{matched_in_turn, matched_cell}
use Rattle.th_canonical.proofs.subsumption.match_all_cells.Given as goal

-- what is left is matched from here on
abbrev pub invariant-loop-cell : goal.invariant-loop-cell
invariant-loop-cell l = matched_in_turn (matched_cell l.query l.by) (drop l.cell-index l.by.cells) l.matching ≡ matched_in_turn (matched_cell l.query l.by) l.by.cells l.fn.matching

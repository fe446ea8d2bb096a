use Rattle.std.proofs.Common.{◌≡◌, drop}
use Rattle.th_query.specs.Subsumed.{matched_frames}
use Rattle.th_canonical.proofs.subsumption.match_frames.Given as goal

-- what is left is matched from here on
abbrev pub invariant-loop-i : goal.invariant-loop-i
invariant-loop-i l = matched_frames l.query l.by (drop l.i l.frames) (drop l.i l.others) l.matching ≡ matched_frames l.query l.by l.frames l.others l.fn.matching

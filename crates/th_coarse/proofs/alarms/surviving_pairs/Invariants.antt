use Rattle.std.proofs.Common.{◌≡◌, take, map}
use Rattle.th_coarse.specs.Coarse.{pairs_of}
use Rattle.th_coarse.specs.Report.{all_surviving}
use Rattle.th_coarse.proofs.alarms.surviving_pairs.Given as goal

-- the alarms of the fields so far are made
abbrev pub invariant-loop-field : goal.invariant-loop-field
invariant-loop-field l = l.judged.items ≡ all_surviving (pairs_of (map (λ f. f.0) (take l.field-index l.fields)) (map (λ c. c.0) l.classes))

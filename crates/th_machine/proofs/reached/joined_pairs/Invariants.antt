use Rattle.std.proofs.Common.{map, take}
use Rattle.th_machine.specs.Reaching.{AreJoinedOf}
use Rattle.th_machine.proofs.reached.joined_pairs.Given as goal

-- the joined pairs of the fields so far are found
abbrev pub invariant-loop-field : goal.invariant-loop-field
invariant-loop-field l = AreJoinedOf l.program l.state (take l.field-index (map (λ f. f.0) l.field-items)) l.pairs.items

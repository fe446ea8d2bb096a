use Rattle.std.proofs.Common.{◌≡◌, drop}
use Rattle.th_query.specs.Initial.{with_values}
use Rattle.th_canonical.proofs.initial.at_first.Given as goal

-- the fields that are left get their values in what was made so far
abbrev pub invariant-loop-pair : goal.invariant-loop-pair
invariant-loop-pair l = with_values l.program (drop l.pair-index l.query.statics) l.first ≡ with_values l.program l.query.statics l.query

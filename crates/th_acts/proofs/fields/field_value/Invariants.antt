use Rattle.std.proofs.Common.{◌≡◌, drop}
use Rattle.th_syntax.specs.Fields.{field_value}
use Rattle.th_acts.proofs.fields.field_value.Given as goal

-- no field before this one is the one
abbrev pub invariant-loop-entry : goal.invariant-loop-entry
invariant-loop-entry l = field_value l.fn.fields l.field ≡ field_value (drop l.entry-index l.fields) l.field

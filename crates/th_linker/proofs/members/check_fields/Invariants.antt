use Rattle.std.proofs.Common.{◌≡◌, [], take}
use Rattle.th_syntax.specs.LinkChecks.{found_along, field_refusals}
use Rattle.th_linker.proofs.members.check_fields.Given as goal

-- the fields so far are in order
abbrev pub invariant-loop-at : goal.invariant-loop-at
invariant-loop-at l = found_along (field_refusals l.class) [] (take l.at l.field-items) ≡ []

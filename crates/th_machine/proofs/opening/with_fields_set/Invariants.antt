use Rattle.std.proofs.Common.{◌≡◌, ◌+◌, drop}
use Rattle.th_machine.specs.Opening.{fields_set}
use Rattle.th_machine.proofs.opening.with_fields_set.Given as goal

-- setting those that are left gives what setting all gives
abbrev pub invariant-loop-member : goal.invariant-loop-member
invariant-loop-member l = record {
  place : l.at ≡ l.first + l.member-index;
  same : fields_set l.resolved l.at (drop l.member-index l.members) l.changed ≡ fields_set l.resolved l.first l.members l.fn.statics;
}

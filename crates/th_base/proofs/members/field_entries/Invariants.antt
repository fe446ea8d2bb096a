use Rattle.std.proofs.Common.{◌≡◌, take}
use Rattle.th_base.specs.MemberIndex.{field_entries}
use Rattle.th_base.proofs.members.field_entries.Given as goal

-- the entries so far
abbrev pub invariant-loop-place : goal.invariant-loop-place
invariant-loop-place l = l.entries.items ≡ field_entries (take l.place l.fields)

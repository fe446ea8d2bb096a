use Rattle.std.proofs.Common.{◌≡◌, take}
use Rattle.th_base.specs.MemberIndex.{method_entries}
use Rattle.th_base.proofs.members.method_entries.Given as goal

-- the entries so far
abbrev pub invariant-loop-place : goal.invariant-loop-place
invariant-loop-place l = l.entries.items ≡ method_entries (take l.place l.methods)

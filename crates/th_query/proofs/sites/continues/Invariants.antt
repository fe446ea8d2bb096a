use Rattle.std.proofs.Common.{◌≡◌, ◌≤◌, ◌-◌, ◌++◌, length, drop}
use Rattle.th_query.specs.FromSets.{upto}
use Rattle.th_query.proofs.sites.continues.Given as goal

-- the numbers so far stand in front
abbrev pub invariant-loop-next : goal.invariant-loop-next
invariant-loop-next l = (upto l.low ++ l.ids ≡ upto l.next ++ drop (l.next - l.low) l.ids) × (l.next - l.low ≤ length l.ids)

use Rattle.std.proofs.Common.{◌≡◌, ◌-◌, length, drop}
use Rattle.th_kinds.specs.States.{seen_state}
use Rattle.th_kinds.specs.Kept.{seen_kept}
use Rattle.th_kinds.specs.Listed.{listed}
use Rattle.th_kinds.proofs.table.next_kinds.Given as goal

abbrev pub invariant-loop-place : goal.invariant-loop-place
invariant-loop-place l =
    listed (drop l.place l.instrs) (drop l.place (seen_kept l.kept)) (seen_state l.fallen) ≡ listed (drop l.initial.place l.instrs) (drop l.initial.place (seen_kept l.kept)) (seen_state l.initial.fallen)

abbrev pub decreases-loop-place : goal.decreases-loop-place
decreases-loop-place l = length l.instrs - l.place

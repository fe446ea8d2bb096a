use Rattle.std.proofs.Common.{◌≤◌, ◌^◌, take}
use Rattle.th_points_to.specs.Registers.{IsAbove}
use Rattle.th_points_to.proofs.registers.above_ids.Given as goal

abbrev pub invariant-loop-id : goal.invariant-loop-id
invariant-loop-id l = record { few : l.most ≤ 2 ^ 32; above : IsAbove l.count (take l.id-index l.ids) l.most }

use Rattle.std.proofs.Common.{◌≤◌, ◌^◌, take}
use Rattle.std.specs.Prelude.{map}
use Rattle.th_points_to.specs.Registers.{IsAbove}
use Rattle.th_points_to.proofs.registers.above_registers.Given as goal

abbrev pub invariant-loop-register : goal.invariant-loop-register
invariant-loop-register l = record { few : l.most ≤ 2 ^ 32; above : IsAbove l.count (map (λ r. r.0) (take l.register-index l.registers)) l.most }

use Rattle.std.proofs.Common.{◌≤◌, ◌^◌, take}
use Rattle.std.specs.Prelude.{map}
use Rattle.std.specs.List.{flat_map}
use Rattle.th_points_to.specs.Registers.{IsAbove}
use Rattle.th_points_to.proofs.registers.above_params.Given as goal

abbrev pub invariant-loop-method : goal.invariant-loop-method
invariant-loop-method l = record { few : l.most ≤ 2 ^ 32; above : IsAbove l.count (map (λ r. r.0) (flat_map (λ m. m.params) (take l.method-index l.methods))) l.most }

use Rattle.std.proofs.Common.{◌≤◌, ◌^◌, take}
use Rattle.std.specs.Prelude.{map}
use Rattle.std.specs.List.{flat_map}
use Rattle.th_ir.specs.Program.{registers_of}
use Rattle.th_points_to.specs.Registers.{IsAbove}
use Rattle.th_points_to.proofs.registers.above_nodes.Given as goal

abbrev pub invariant-loop-node : goal.invariant-loop-node
invariant-loop-node l = record { few : l.most ≤ 2 ^ 32; above : IsAbove l.count (map (λ r. r.0) (flat_map registers_of (take l.node-index l.nodes))) l.most }

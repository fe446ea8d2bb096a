use Rattle.std.proofs.Common.{◌≡◌, take}
use Rattle.th_mod.specs.Systems.{base_pairs}
use Rattle.th_mod.proofs.inclusions.base_pairs.Given as goal

abbrev pub invariant-loop-node : goal.invariant-loop-node
invariant-loop-node l = record {
  items : l.node-items ≡ l.program.nodes;
  pairs : l.pairs ≡ base_pairs l.classes l.program l.part (take l.node-index l.node-items);
}

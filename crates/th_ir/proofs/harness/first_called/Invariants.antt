use Rattle.std.proofs.Common.{◌≡◌, drop}
use Rattle.th_base.specs.Hierarchy.{first_some}
use Rattle.th_ir.specs.HarnessKinds.{called_by}
use Rattle.th_ir.proofs.harness.first_called.Given as goal

-- no node before this one calls
abbrev pub invariant-loop-node : goal.invariant-loop-node
invariant-loop-node l = first_some called_by l.fn.nodes ≡ first_some called_by (drop l.node-index l.nodes)

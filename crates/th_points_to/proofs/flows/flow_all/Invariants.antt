use Rattle.std.proofs.Common.{take}
use Rattle.std.specs.Prelude.{zip}
use Rattle.th_ir.specs.declared.program.RegProgram.{RegProgram}
use Rattle.th_points_to.specs.Asked.{FlowAll}
use Rattle.th_points_to.specs.Found.{Adds, IsLaid}
use Rattle.th_points_to.proofs.flows.flow_all.Given as goal

abbrev pub invariant-loop-at : goal.invariant-loop-at
invariant-loop-at l = record {
  laid : IsLaid l.layout l.found;
  adds : (p : RegProgram) → Adds l.layout p l.fn.found l.found (λ t. FlowAll l.layout t (take l.at (zip l.args l.params)));
}

use Rattle.std.proofs.Common.{List, ap, arith, ◌∙◌}
use Rattle.std.specs.Prelude.{map}
use Rattle.std.specs.List.{flat_map}
use Rattle.th_base.specs.declared.number.Reg.{Reg}
use Rattle.th_ir.specs.declared.program.Node.{Node}
use Rattle.th_ir.specs.Program.{least_above, greater_of, registers_set, registers_read, registers_of}
use Rattle.th_points_to.proofs.Above.{above_lists, above_two, none_above, whole_take}
use Rattle.th_points_to.proofs.registers.above_nodes.Goals as goal

pub loop-node-init : goal.loop-node-init
loop-node-init c = record { few = c.requires; above = none_above c.args.count }

pub loop-node-preserved : goal.loop-node-preserved
loop-node-preserved c =
    let node : Node = c.node-item.result in
    record {
      few = c.above_registers-most.ensures.few;
      above = above_lists registers_of (λ (r : Reg). r.0) c.args.count c.loop-node.most c.above_registers-most.result c.args.nodes.now c.loop-node.node-index node
          c.loop-node-test.true c.loop-node.invariant.above
          (above_two (λ (r : Reg). r.0) c.loop-node.most c.above_registers-with_set.result c.above_registers-most.result (registers_set node.stmt) (registers_read node.stmt)
          (c.above_registers-with_set.ensures.above ∙ ap (λ (l : List Reg). greater_of c.loop-node.most (least_above (map (λ r. r.0) l))) (c.as_slice.ensures.value ∙ c.in_ok-set.ensures))
          (c.above_registers-most.ensures.above ∙ ap (λ (l : List Reg). greater_of c.above_registers-with_set.result (least_above (map (λ r. r.0) l))) (c.as_slice-in-loop-node.ensures.value ∙ c.in_ok-read.ensures))
          ∙ ap (λ (n : Node). greater_of c.loop-node.most (least_above (map (λ r. r.0) (registers_of n)))) c.node-item.is);
    }

pub returns-clause-few : goal.returns-clause-few
returns-clause-few c = c.loop-node.invariant.few

pub returns-clause-above : goal.returns-clause-above
returns-clause-above c =
    c.loop-node.invariant.above
    ∙ ap (λ (l : List Node). greater_of c.args.count (least_above (map (λ r. r.0) (flat_map registers_of l))))
    (whole_take c.args.nodes.now c.loop-node.node-index (omega (arith, c.loop-node-test.false)))

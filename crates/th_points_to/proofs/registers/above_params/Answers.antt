use Rattle.std.proofs.Common.{List, ap, arith, ◌∙◌}
use Rattle.std.specs.Prelude.{map}
use Rattle.std.specs.List.{flat_map}
use Rattle.th_base.specs.declared.number.Reg.{Reg}
use Rattle.th_ir.specs.declared.program.Method.{Method}
use Rattle.th_ir.specs.Program.{least_above, greater_of}
use Rattle.th_points_to.proofs.Above.{above_lists, none_above, whole_take}
use Rattle.th_points_to.proofs.registers.above_params.Goals as goal

pub loop-method-init : goal.loop-method-init
loop-method-init c = record { few = c.requires; above = none_above c.args.count }

pub loop-method-preserved : goal.loop-method-preserved
loop-method-preserved c =
    let method : Method = c.method-item.result in
    record {
      few = c.above_registers-most.ensures.few;
      above = above_lists (λ (m : Method). m.params) (λ (r : Reg). r.0) c.args.count c.loop-method.most c.above_registers-most.result c.args.methods.now c.loop-method.method-index method
          c.loop-method-test.true c.loop-method.invariant.above
          (c.above_registers-most.ensures.above
          ∙ ap (λ (l : List Reg). greater_of c.loop-method.most (least_above (map (λ r. r.0) l))) (c.as_slice.ensures ∙ ap (λ (m : Method). m.params) c.method-item.is));
    }

pub returns-clause-few : goal.returns-clause-few
returns-clause-few c = c.loop-method.invariant.few

pub returns-clause-above : goal.returns-clause-above
returns-clause-above c =
    c.loop-method.invariant.above
    ∙ ap (λ (l : List Method). greater_of c.args.count (least_above (map (λ r. r.0) (flat_map (λ m. m.params) l))))
    (whole_take c.args.methods.now c.loop-method.method-index (omega (arith, c.loop-method-test.false)))

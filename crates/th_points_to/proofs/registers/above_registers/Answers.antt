use Rattle.std.proofs.Common.{List, ap, arith, ◌∙◌}
use Rattle.std.specs.Prelude.{map}
use Rattle.th_base.specs.declared.number.Reg.{Reg}
use Rattle.th_ir.specs.Program.{least_above, greater_of}
use Rattle.th_points_to.proofs.Above.{above_items, none_above, whole_take}
use Rattle.th_points_to.proofs.registers.above_registers.Goals as goal

pub loop-register-init : goal.loop-register-init
loop-register-init c = record { few = c.requires; above = none_above c.args.count }

pub loop-register-preserved : goal.loop-register-preserved
loop-register-preserved c = record {
  few = c.above-most.ensures.few;
  above = above_items (λ (r : Reg). r.0) c.args.count c.loop-register.most c.above-most.result c.args.registers.now c.loop-register.register-index record { 0 = 0 } c.loop-register-test.true
      c.loop-register.invariant.above c.above-most.ensures.above;
}

pub returns-clause-few : goal.returns-clause-few
returns-clause-few c = c.loop-register.invariant.few

pub returns-clause-above : goal.returns-clause-above
returns-clause-above c =
    c.loop-register.invariant.above
    ∙ ap (λ (l : List Reg). greater_of c.args.count (least_above (map (λ r. r.0) l))) (whole_take c.args.registers.now c.loop-register.register-index (omega (arith, c.loop-register-test.false)))

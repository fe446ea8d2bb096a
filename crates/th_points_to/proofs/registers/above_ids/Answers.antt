use Rattle.std.proofs.Common.{ℕ, List, ap, arith, ◌∙◌}
use Rattle.th_ir.specs.Program.{least_above, greater_of}
use Rattle.th_points_to.proofs.Above.{above_numbers, none_above, whole_take}
use Rattle.th_points_to.proofs.registers.above_ids.Goals as goal

pub loop-id-init : goal.loop-id-init
loop-id-init c = record { few = c.requires; above = none_above c.args.count }

pub loop-id-preserved : goal.loop-id-preserved
loop-id-preserved c = record {
  few = c.above-most.ensures.few;
  above = above_numbers c.args.count c.loop-id.most c.above-most.result c.args.ids.now c.loop-id.id-index 0 c.loop-id-test.true c.loop-id.invariant.above c.above-most.ensures.above;
}

pub returns-clause-few : goal.returns-clause-few
returns-clause-few c = c.loop-id.invariant.few

pub returns-clause-above : goal.returns-clause-above
returns-clause-above c =
    c.loop-id.invariant.above ∙ ap (λ (l : List ℕ). greater_of c.args.count (least_above l)) (whole_take c.args.ids.now c.loop-id.id-index (omega (arith, c.loop-id-test.false)))

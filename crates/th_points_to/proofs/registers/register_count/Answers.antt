use Rattle.std.proofs.Common.{ℕ, List, ap, ◌∙◌}
use Rattle.std.specs.Prelude.{map}
use Rattle.std.specs.List.{flat_map}
use Rattle.th_base.specs.declared.number.Reg.{Reg}
use Rattle.th_ir.specs.declared.program.Method.{Method}
use Rattle.th_ir.specs.declared.program.Node.{Node}
use Rattle.th_ir.specs.Program.{least_above, greater_of, registers_of}
use Rattle.th_points_to.proofs.Above.{above_all}
use Rattle.th_points_to.proofs.registers.register_count.Goals as goal

pub returns-clause-count : goal.returns-clause-count
returns-clause-count c =
    let p = c.args.program.now in
    above_all (λ (r : Reg). r.0) p.refs (flat_map (λ m. m.params) p.methods) (flat_map registers_of p.nodes) c.above_ids-count.result c.above_params-count.result c.in_ok-count.count
    (c.above_ids-count.ensures.above ∙ ap (λ (l : List ℕ). greater_of 0 (least_above l)) c.ids.ensures.value)
    (c.above_params-count.ensures.above ∙ ap (λ (l : List Method). greater_of c.above_ids-count.result (least_above (map (λ r. r.0) (flat_map (λ m. m.params) l)))) c.as_slice.ensures)
    (c.in_ok-count.ensures.above ∙ ap (λ (l : List Node). greater_of c.above_params-count.result (least_above (map (λ r. r.0) (flat_map registers_of l)))) c.as_slice-2.ensures)

use Rattle.std.proofs.Common.{map, ap, ◌∙◌}
use Rattle.th_linear.specs.Gathered.{renamed_form}
use Rattle.th_query.specs.Numbered.{numbered_frame}
use Rattle.th_query.specs.Unified.{present}
use Rattle.th_steps.proofs.Renumbering.{numbered_parts}
use Rattle.th_steps.proofs.numbering.number_by.Goals as goal

pub returns : goal.returns
returns c =
    let names = c.args.renaming.names.items in
    numbered_parts c.args.order.now names c.args.query _ _ _ _ _ _ _ _
    (c.from_vec.ensures ∙ c.in_ok-frames.ensures ∙ ap (map (numbered_frame names)) c.into_vec.ensures)
    c.turn_seq.ensures
    c.turn_seq-cells.ensures
    c.sort_seq.ensures
    c.turn_seq-2.ensures
    c.in_ok-syms.ensures
    c.turn_seq-3.ensures
    (c.from_vec-2.ensures ∙ c.in_ok-facts.ensures ∙ (λ i. present (map (renamed_form (c.as_slice.ensures.value i)) (c.as_slice-2.ensures i))))

use Rattle.std.proofs.Common.{reverse, sym, ap, ◌∙◌}
use Rattle.th_syntax.specs.KindTable.{is_conflict}
use Rattle.th_kinds.specs.Rows.{seen_row}
use Rattle.th_kinds.specs.States.{seen_state}
use Rattle.th_kinds.proofs.Conflicts.{no_misfit}
use Rattle.th_kinds.proofs.conflict.is_conflict.Goals as goal

pub returns-else-is_misfit : goal.returns-else-is_misfit
returns-else-is_misfit c m e =
    no_misfit c.args.code.now.max_stack (seen_row c.args.row.now) c.in-OfKinds.frame.locals.items (reverse c.in-OfKinds.frame.stack.items) c.args.gives.now m c.args.instr.now c.is_misfit.result c.is_other_return.result
    c.requires e c.is_misfit.ensures c.if-is_misfit.false c.is_other_return.ensures
    ∙ sym (ap (λ s. is_conflict m c.args.code.now c.args.instr.now (seen_state s)) c.in-OfKinds.is)

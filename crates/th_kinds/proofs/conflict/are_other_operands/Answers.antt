use Rattle.std.proofs.Common.{not, reverse, ap, ◌∙◌}
use Rattle.th_kinds.proofs.Conflicts.{other_operands}
use Rattle.th_kinds.proofs.conflict.are_other_operands.Goals as goal

pub returns : goal.returns
returns c = ap not c.are_same.ensures ∙ other_operands c.top_slots.result.now c.args.slots.now (reverse c.args.stack.now) c.top_slots.ensures

use Rattle.std.proofs.Common.{Err, ap, refl, ◌∙◌}
use Rattle.th_input.specs.Input.{Ends}
use Rattle.th_top.specs.Outcome.{GivesReport, IsChecked, IsOutcomeOf, at_reading, behind_reading}
use Rattle.th_top.proofs.Deciding.{checked_no_fault, read_decided, unread_decided, fault_named}
use Rattle.th_top.proofs.checking.decide_check.Goals as goal

pub returns-in-Ok-clause-decides : goal.returns-in-Ok-clause-decides
returns-in-Ok-clause-decides g c =
    read_decided c.decide_files.result (IsOutcomeOf GivesReport c.in-Ok.read) (IsChecked _ c.args.list.now c.args.operands.now) _ _ _ (checked_no_fault c.in-Ok.read)
    (λ outcome of. behind_reading c.in-Ok.read c.in-Ok.ensures.read of) c.in-Ok.ensures.counted (rw c.as_slice.ensures at c.decide_files.ensures)

pub returns-in-Err-Refused-clause-decides : goal.returns-in-Err-Refused-clause-decides
returns-in-Err-Refused-clause-decides g c =
    unread_decided c.decide_unread.result (Ends _ c.args.list.now c.args.operands.now) (IsChecked _ c.args.list.now c.args.operands.now) _ _ _ _ c.read_class_files.result c.in-Err-Refused.unread
    (λ unread ends. at_reading unread ends refl) (c.in-Err-Refused.is ∙ ap Err c.in-Err-Refused.field-0-is) c.read_class_files.ensures.unread c.read_class_files.ensures.counted
    c.read_class_files.ensures.failed c.decide_unread.ensures

pub returns-in-Err-Refused-clause-named : goal.returns-in-Err-Refused-clause-named
returns-in-Err-Refused-clause-named g c =
    fault_named (Ends _ c.args.list.now c.args.operands.now) (IsChecked _ c.args.list.now c.args.operands.now) _ _ _ _ c.read_class_files.result
    (λ unread ends. at_reading unread ends refl) c.read_class_files.ensures.unread c.read_class_files.ensures.counted c.read_class_files.ensures.failed

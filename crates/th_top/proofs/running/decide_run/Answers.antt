use Rattle.std.proofs.Common.{Err, ap, refl, ◌∙◌}
use Rattle.th_input.specs.Scripted.{EndsScripted}
use Rattle.th_top.specs.Outcome.{IsRun, IsOutcomeOfScript, at_script_reading, behind_script_reading}
use Rattle.th_top.proofs.Deciding.{script_no_fault, read_decided, unread_decided, fault_named}
use Rattle.th_top.proofs.running.decide_run.Goals as goal

pub returns-in-Ok-clause-decides : goal.returns-in-Ok-clause-decides
returns-in-Ok-clause-decides g c =
    read_decided c.decide_read.result (IsOutcomeOfScript c.in-Ok.read.script c.args.fuel c.args.lifecycle c.in-Ok.read.files)
    (IsRun _ c.args.script.now c.args.fuel c.args.lifecycle c.args.operands.now) _ _ _ (script_no_fault c.in-Ok.read.script c.args.fuel c.args.lifecycle c.in-Ok.read.files)
    (λ outcome of. behind_script_reading c.in-Ok.read.script c.in-Ok.read.files c.in-Ok.ensures.read of) c.in-Ok.ensures.counted
    (rw (c.as_slice.ensures, c.as_bytes.ensures) at c.decide_read.ensures)

pub returns-in-Err-Refused-clause-decides : goal.returns-in-Err-Refused-clause-decides
returns-in-Err-Refused-clause-decides g c =
    unread_decided c.decide_unread.result (EndsScripted _ c.args.script.now c.args.operands.now) (IsRun _ c.args.script.now c.args.fuel c.args.lifecycle c.args.operands.now) _ _ _ _
    c.read_scripted.result c.in-Err-Refused.unread (λ unread ends. at_script_reading unread ends refl) (c.in-Err-Refused.is ∙ ap Err c.in-Err-Refused.field-0-is)
    c.read_scripted.ensures.unread c.read_scripted.ensures.counted c.read_scripted.ensures.failed (rw c.in-Err-Refused.field-0-is at c.decide_unread.ensures)

pub returns-in-Err-Refused-clause-named : goal.returns-in-Err-Refused-clause-named
returns-in-Err-Refused-clause-named g c =
    fault_named (EndsScripted _ c.args.script.now c.args.operands.now) (IsRun _ c.args.script.now c.args.fuel c.args.lifecycle c.args.operands.now) _ _ _ _ c.read_scripted.result
    (λ unread ends. at_script_reading unread ends refl) c.read_scripted.ensures.unread c.read_scripted.ensures.counted c.read_scripted.ensures.failed

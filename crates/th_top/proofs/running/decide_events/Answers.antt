use Rattle.std.proofs.Common.{Err, ap, refl, ◌∙◌}
use Rattle.th_machine.specs.Script.{RunsScript}
use Rattle.th_harness.specs.declared.script_error.ScriptError.TheVariants.{Event as BadEvent}
use Rattle.th_top.specs.Outcome.{runs, misuses, GivesRun, no_event, whole}
use Rattle.th_top.proofs.Deciding.{one_shown}
use Rattle.th_top.proofs.Scripts.{value_answered, error_answered}
use Rattle.th_top.proofs.running.decide_events.Goals as goal

pub returns-in-Ok : goal.returns-in-Ok
returns-in-Ok c = λ script is verified.
    let so = value_answered (RunsScript c.args.program.now c.args.lifecycle c.args.fuel c.args.events.now) c.run_script.result c.in-Ok.reports c.in-Ok.is (c.run_script.ensures verified) in
    one_shown _ (GivesRun script c.args.fuel c.args.lifecycle c.args.program.now) (runs c.args.program.now c.in-Ok.reports)
    (whole c.args.events.now c.in-Ok.reports is so refl) (rw c.as_slice.ensures at c.decide_reports.ensures)

pub returns-in-Err-Refused : goal.returns-in-Err-Refused
returns-in-Err-Refused c = λ script is verified.
    let so = error_answered (RunsScript c.args.program.now c.args.lifecycle c.args.fuel c.args.events.now) c.run_script.result c.in-Err-Refused.fault
    (c.in-Err-Refused.is ∙ ap Err c.in-Err-Refused.field-0-is) (c.run_script.ensures verified) in
    one_shown _ (GivesRun script c.args.fuel c.args.lifecycle c.args.program.now) (misuses (BadEvent c.in-Err-Refused.fault.event))
    (no_event c.args.events.now c.in-Err-Refused.fault is so refl) c.decide_misuse.ensures

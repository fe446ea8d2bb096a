use Rattle.std.proofs.Common.{refl, sym, ◌∙◌}
use Rattle.th_harness.specs.declared.script_error.ScriptError.TheVariants.{Line}
use Rattle.th_top.specs.Outcome.{misuses, GivesRun, IsOutcomeOf, IsOutcomeOfScript, bad_line, good_lines}
use Rattle.th_top.proofs.Deciding.{one_shown, still_shown}
use Rattle.th_top.proofs.running.decide_read.Goals as goal

pub returns-in-Ok : goal.returns-in-Ok
returns-in-Ok g c =
    still_shown c.decide_files.result (IsOutcomeOf (GivesRun c.args.script.now c.args.fuel c.args.lifecycle) c.args.files.now)
    (IsOutcomeOfScript c.args.script.now c.args.fuel c.args.lifecycle c.args.files.now) (λ outcome of. good_lines (sym c.check_form.ensures ∙ c.in-Ok.is) of) c.decide_files.ensures

pub returns-in-Err : goal.returns-in-Err
returns-in-Err g c =
    one_shown c.decide_misuse.result (IsOutcomeOfScript c.args.script.now c.args.fuel c.args.lifecycle c.args.files.now) (misuses (Line c.in-Err.line))
    (bad_line c.in-Err.line (sym c.check_form.ensures ∙ c.in-Err.is) refl) c.decide_misuse.ensures

use Rattle.std.proofs.Common.{Err, ap, refl, arith, ◌∙◌}
use Rattle.th_harness.specs.Script.{script_of}
use Rattle.th_top.specs.Outcome.{misuses, GivesRun, no_events}
use Rattle.th_top.proofs.Deciding.{one_shown}
use Rattle.th_top.proofs.Scripts.{few_events, value_found, error_found}
use Rattle.th_top.proofs.running.decide_script.Goals as goal

pub decide_events-requires : goal.decide_events-requires
decide_events-requires c =
    let is = value_found (script_of c.args.program.now c.args.script.now) c.read_script.result c.in-Ok.events c.in-Ok.is c.read_script.ensures in
    let few = few_events c.args.program.now c.args.script.now c.in-Ok.events is in
    rw c.as_slice.ensures (omega (arith, few, c.requires))

pub returns-in-Ok : goal.returns-in-Ok
returns-in-Ok c = λ verified.
    let is = value_found (script_of c.args.program.now c.args.script.now) c.read_script.result c.in-Ok.events c.in-Ok.is c.read_script.ensures in
    c.decide_events.ensures c.args.script.now (rw c.as_slice.ensures is) verified

pub returns-in-Err-Refused : goal.returns-in-Err-Refused
returns-in-Err-Refused c = λ verified.
    let is = error_found (script_of c.args.program.now c.args.script.now) c.read_script.result c.in-Err-Refused.error (c.in-Err-Refused.is ∙ ap Err c.in-Err-Refused.field-0-is) c.read_script.ensures in
    one_shown _ (GivesRun c.args.script.now c.args.fuel c.args.lifecycle c.args.program.now) (misuses c.in-Err-Refused.error) (no_events c.in-Err-Refused.error is refl)
    (rw c.in-Err-Refused.field-0-is at c.decide_misuse.ensures)

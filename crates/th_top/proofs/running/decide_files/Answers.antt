use Rattle.std.proofs.Common.{refl}
use Rattle.th_top.specs.Outcome.{refuses, GivesRun, IsOutcomeOf, refused, program}
use Rattle.th_top.proofs.Deciding.{one_shown, still_shown}
use Rattle.th_top.proofs.Verifying.{verified}
use Rattle.th_top.proofs.running.decide_files.Goals as goal

pub returns-in-Ok : goal.returns-in-Ok
returns-in-Ok g c =
    let is = c.in-Ok.ensures.accepted.is_program in
    let Gives = GivesRun c.args.script.now c.args.fuel c.args.lifecycle in
    still_shown c.decide_script.result (Gives c.in-Ok.accepted.program) (IsOutcomeOf Gives c.args.files.now) (λ outcome gives. program c.in-Ok.accepted.program is gives)
    (c.decide_script.ensures (verified c.args.files.now c.in-Ok.accepted.program is.accepted))

pub returns-in-Err-Refused : goal.returns-in-Err-Refused
returns-in-Err-Refused g c =
    let first = rw c.in-Err-Refused.field-0-is at c.in-Err-Refused.ensures.refused in
    one_shown c.decide_refusal.result (IsOutcomeOf (GivesRun c.args.script.now c.args.fuel c.args.lifecycle) c.args.files.now) (refuses c.in-Err-Refused.refusal)
    (refused c.in-Err-Refused.refusal first refl) (rw c.in-Err-Refused.field-0-is at c.decide_refusal.ensures)

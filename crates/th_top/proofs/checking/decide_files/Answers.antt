use Rattle.std.proofs.Common.{refl}
use Rattle.th_coarse.specs.Report.{report_of}
use Rattle.th_top.specs.Outcome.{reports, refuses, GivesReport, IsOutcomeOf, refused, program}
use Rattle.th_top.proofs.Deciding.{one_shown}
use Rattle.th_top.proofs.checking.decide_files.Goals as goal

pub decide_alarms-requires : goal.decide_alarms-requires
decide_alarms-requires g c = c.in-Ok.ensures.accepted.alarms_are

pub returns-in-Ok : goal.returns-in-Ok
returns-in-Ok g c =
    one_shown c.decide_alarms.result (IsOutcomeOf GivesReport c.args.files.now) (reports c.in-Ok.accepted.program (report_of c.in-Ok.accepted.program))
    (program c.in-Ok.accepted.program c.in-Ok.ensures.accepted.is_program refl) c.decide_alarms.ensures

pub returns-in-Err-Refused : goal.returns-in-Err-Refused
returns-in-Err-Refused g c =
    let first = rw c.in-Err-Refused.field-0-is at c.in-Err-Refused.ensures.refused in
    one_shown c.decide_refusal.result (IsOutcomeOf GivesReport c.args.files.now) (refuses c.in-Err-Refused.refusal) (refused c.in-Err-Refused.refusal first refl) c.decide_refusal.ensures

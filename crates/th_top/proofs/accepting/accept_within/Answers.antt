use Rattle.std.proofs.Common.{rules}
use Rattle.th_accept.proofs.Joining.{handed_on}
use Rattle.th_top.specs.Program.{no_program, many_alarms}
use Rattle.th_top.proofs.accepting.accept_within.Goals as goal

pub returns-in_err-program-clause-refused : goal.returns-in_err-program-clause-refused
returns-in_err-program-clause-refused g c =
    handed_on c.accept.result c.from_residual.result c.in_err-program.field-0.0 c.in_err-program.was (search rules) c.accept.ensures.refused
    (λ refusal is. no_program is)

pub returns-then-not-are_few-clause-refused : goal.returns-then-not-are_few-clause-refused
returns-then-not-are_few-clause-refused g c =
    many_alarms c.in_ok-program.program c.in_ok-program.ensures.accepted (search rules) c.in_ok-alarms_refusal.ensures

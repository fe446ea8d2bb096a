use Rattle.std.proofs.Common.{[], refl, arith}
use Rattle.th_syntax.specs.declared.instr.Instr.TheVariants.{Goto, Nop}
use Rattle.th_runs.proofs.Sounding.{return_closed}
use Rattle.th_runs.proofs.laws.worked.closed_code_is_told_apart.Goals as goal

pub returns-clause-closed : goal.returns-clause-closed
returns-clause-closed c = return_closed

pub returns-clause-nothing : goal.returns-clause-nothing
returns-clause-nothing c = λ closed. let none = closed.begins.1 in cc

pub returns-clause-jumps_away : goal.returns-clause-jumps_away
returns-clause-jumps_away c = λ closed. let none = (closed.leads 0 5 (Goto 5) refl (0, omega arith, refl)).1 in cc

pub returns-clause-falls_off : goal.returns-clause-falls_off
returns-clause-falls_off c = λ closed. let none = (closed.goes_on 0 Nop refl ([], λ b. refl)).1 in cc

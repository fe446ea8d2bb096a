use Rattle.th_top.proofs.decide.decide_command.Goals as goal

pub returns-in-Check-clause-decides : goal.returns-in-Check-clause-decides
returns-in-Check-clause-decides g c = rw c.in-Check.is (rw c.as_slice.ensures at c.decide_check.ensures.decides)

pub returns-in-Check-clause-named : goal.returns-in-Check-clause-named
returns-in-Check-clause-named g c = rw c.in-Check.is (rw c.as_slice.ensures at c.decide_check.ensures.named)

pub returns-in-Run-clause-decides : goal.returns-in-Run-clause-decides
returns-in-Run-clause-decides g c = rw c.in-Run.is (rw c.as_slice-in-Run.ensures at c.decide_run.ensures.decides)

pub returns-in-Run-clause-named : goal.returns-in-Run-clause-named
returns-in-Run-clause-named g c = rw c.in-Run.is (rw c.as_slice-in-Run.ensures at c.decide_run.ensures.named)

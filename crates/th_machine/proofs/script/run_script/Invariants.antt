use Rattle.th_runs.specs.Verified.{IsVerified}
use Rattle.th_machine.proofs.Scripted.{IsMadeSoFar}
use Rattle.th_machine.proofs.script.run_script.Given as goal

-- what comes of the events that are left comes of the script, behind the reports so far
abbrev pub invariant-loop-place : goal.invariant-loop-place
invariant-loop-place l =
    IsVerified l.fn.program → IsMadeSoFar l.fn.program l.fn.lifecycle l.fn.fuel l.fn.events l.place l.machine l.left l.reports

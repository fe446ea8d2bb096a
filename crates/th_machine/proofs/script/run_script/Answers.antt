use Rattle.std.proofs.Common.{◌≡◌, false, true, get_or, sym, ap, ◌∙◌, subst, rules, Option, None, [], List}
use denote.Enum.Bare.{same_true, sameb}
use Rattle.th_machine.specs.contracts.outcome.Outcome.{the_type}
use Rattle.th_machine.specs.declared.outcome.Outcome.{Outcome}
use Rattle.th_machine.specs.declared.outcome.Outcome.TheVariants as outcome
use Rattle.th_machine.specs.declared.report.Report.{Report}
use Rattle.th_syntax.specs.declared.event.Event.TheVariants.{Launch}
use Rattle.th_syntax.specs.Machine.{class_id}
use Rattle.th_runs.specs.Verified.{IsVerified}
use Rattle.th_machine.specs.Running.{Standing}
use Rattle.th_machine.specs.Script.{RunsScript, Tells}
use Rattle.th_machine.proofs.Scripted.{IsMadeSoFar, wants_memory, none_made, one_made, last_made, none_told, all_made}
use Rattle.th_machine.proofs.script.run_script.Goals as goal

pub loop-place-init : goal.loop-place-init
loop-place-init c = λ verified.
    subst (λ (l : List Report). IsMadeSoFar c.args.program.now c.args.lifecycle c.args.fuel c.args.events.now 0 c.in_ok-machine.machine c.args.fuel l) (sym c.new-reports.ensures)
    (subst (λ (m : Standing). IsMadeSoFar c.args.program.now c.args.lifecycle c.args.fuel c.args.events.now 0 m c.args.fuel []) (sym c.in_ok-machine.ensures)
    (none_made c.args.program.now c.args.lifecycle c.args.fuel c.args.events.now))

pub returns-in_err-push : goal.returns-in_err-push
returns-in_err-push c = λ verified.
    wants_memory (RunsScript c.args.program.now c.args.lifecycle c.args.fuel c.args.events.now) c.from_residual-in_err-push.result
    c.from_residual-in_err-push.ensures.1

pub returns-then-not-goes_on : goal.returns-then-not-goes_on
returns-then-not-goes_on c = λ verified.
    let told = c.in_ok-told.told in
    let stops : c.in-Some.report.outcome ≡ outcome.Idle → ⊥ = λ idle.
    let never : true ≡ false = sym (c.eq-goes_on.ensures ∙ ap (λ (o : Outcome). sameb the_type o outcome.Idle) idle) ∙ c.if-not-goes_on.true in cc in
    last_made c.args.program.now c.args.lifecycle c.args.fuel c.args.events.now c.loop-place.place (Launch (class_id 0)) c.loop-place-test.true
    c.loop-place.machine told.machine c.loop-place.left told.fuel c.loop-place.reports c.push.new.self c.in-Some.report
    (c.loop-place.invariant verified)
    (subst (λ (r : Option Report). Tells c.loop-place.machine (get_or c.args.events.now c.loop-place.place (Launch (class_id 0))) c.loop-place.left told.machine told.fuel r) c.in-Some.is
    (c.in_ok-told.ensures (subst IsVerified (sym (c.loop-place.invariant verified).program) verified))) stops c.in_ok-push.ensures.ok

pub loop-place-preserved : goal.loop-place-preserved
loop-place-preserved c = λ verified.
    let told = c.in_ok-told.told in
    let idle : c.in-Some.report.outcome ≡ outcome.Idle = same_true the_type (search rules) _ _ (sym c.eq-goes_on.ensures ∙ c.if-not-goes_on.false) in
    one_made c.args.program.now c.args.lifecycle c.args.fuel c.args.events.now c.loop-place.place (Launch (class_id 0)) c.loop-place-test.true
    c.loop-place.machine told.machine c.loop-place.left told.fuel c.loop-place.reports c.push.new.self c.in-Some.report
    (c.loop-place.invariant verified)
    (subst (λ (r : Option Report). Tells c.loop-place.machine (get_or c.args.events.now c.loop-place.place (Launch (class_id 0))) c.loop-place.left told.machine told.fuel r) c.in-Some.is
    (c.in_ok-told.ensures (subst IsVerified (sym (c.loop-place.invariant verified).program) verified))) idle c.in_ok-push.ensures.ok

pub returns : goal.returns
returns c = λ verified.
    all_made c.args.program.now c.args.lifecycle c.args.fuel c.args.events.now c.loop-place.place c.loop-place.machine c.loop-place.left c.loop-place.reports
    c.loop-place-test.false (c.loop-place.invariant verified)

pub returns-in_default : goal.returns-in_default
returns-in_default c = λ verified.
    let told = c.in_ok-told.told in
    let nothing : told.report ≡ None = c.in_default.is in
    none_told c.args.program.now c.args.lifecycle c.args.fuel c.args.events.now c.loop-place.place (Launch (class_id 0)) c.loop-place-test.true
    c.loop-place.machine told.machine c.loop-place.left told.fuel c.loop-place.reports (c.loop-place.invariant verified)
    (subst (λ (r : Option Report). Tells c.loop-place.machine (get_or c.args.events.now c.loop-place.place (Launch (class_id 0))) c.loop-place.left told.machine told.fuel r) nothing
    (c.in_ok-told.ensures (subst IsVerified (sym (c.loop-place.invariant verified).program) verified)))

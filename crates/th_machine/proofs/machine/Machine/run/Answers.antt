use Rattle.std.proofs.Common.{◌≡◌, ◌+◌, ◌-◌, ℕ, arith, refl, sym, ap, ◌∙◌, subst}
use Rattle.th_runs.specs.Verified.{IsVerified}
use Rattle.th_machine.specs.declared.outcome.Outcome.{Outcome}
use Rattle.th_machine.specs.declared.outcome.Outcome.TheVariants as outcome
use Rattle.th_machine.specs.Running.{Standing, HasRun, last_of, rest_of}
use Rattle.th_machine.proofs.Ran.{IsOnTheWay, stays, stuck_there, goes_further, last_run, is_told_full, is_told_on}
use Rattle.th_machine.proofs.machine.Machine.run.Goals as goal

pub returns-in-Some : goal.returns-in-Some
returns-in-Some c = λ verified.
    stays c.args.self c.loop-taken.machine c.args.fuel (c.args.fuel - c.loop-taken.taken) c.in-Some.outcome (c.loop-taken.invariant verified)
    (sym c.in-Some.is ∙ c.rest_of-rest.ensures ∙ ap (λ (x : Standing). rest_of x.state) c.machine.view_is)

pub returns-then-finds_no_room : goal.returns-then-finds_no_room
returns-then-finds_no_room c = λ verified.
    let left : ℕ = c.args.fuel - (c.loop-taken.taken + 1) in
    let more : c.args.fuel - c.loop-taken.taken ≡ left + 1 = omega arith in
    let way : IsOnTheWay c.args.self c.loop-taken.machine c.args.fuel (left + 1) =
    subst (λ (n : ℕ). IsOnTheWay c.args.self c.loop-taken.machine c.args.fuel n) more (c.loop-taken.invariant verified) in
    let step = c.in_ok-next.ensures (subst (λ (x : Standing). IsVerified x.files) (sym way.same) verified) in
    subst (λ (n : ℕ). HasRun c.args.self c.args.fuel c.in_ok-next.next n outcome.Full) (sym more)
    (stuck_there c.args.self c.loop-taken.machine c.in_ok-next.next c.in_ok-next.told c.args.fuel left way step
    (is_told_full c.in_ok-next.told (sym c.if-finds_no_room.true ∙ c.finds_no_room.ensures)))

pub loop-taken-preserved : goal.loop-taken-preserved
loop-taken-preserved c = λ verified.
    let left : ℕ = c.args.fuel - (c.loop-taken.taken + 1) in
    let more : c.args.fuel - c.loop-taken.taken ≡ left + 1 = omega arith in
    let way : IsOnTheWay c.args.self c.loop-taken.machine c.args.fuel (left + 1) =
    subst (λ (n : ℕ). IsOnTheWay c.args.self c.loop-taken.machine c.args.fuel n) more (c.loop-taken.invariant verified) in
    let step = c.in_ok-next.ensures (subst (λ (x : Standing). IsVerified x.files) (sym way.same) verified) in
    goes_further c.args.self c.loop-taken.machine c.in_ok-next.next c.in_ok-next.told c.args.fuel left way step
    (is_told_on c.in_ok-next.told (sym c.if-finds_no_room.false ∙ c.finds_no_room.ensures))

pub returns : goal.returns
returns c = λ verified.
    let none : c.args.fuel - c.loop-taken.taken ≡ 0 = omega arith in
    let way : IsOnTheWay c.args.self c.loop-taken.machine c.args.fuel 0 =
    subst (λ (n : ℕ). IsOnTheWay c.args.self c.loop-taken.machine c.args.fuel n) none (c.loop-taken.invariant verified) in
    subst (λ (o : Outcome). HasRun c.args.self c.args.fuel c.loop-taken.machine 0 o)
    (sym (c.last_of-outcome.ensures ∙ ap (λ (x : Standing). last_of x.state) c.machine-2.view_is))
    (last_run c.args.self c.loop-taken.machine c.args.fuel 0 refl way)

use Rattle.std.proofs.Common.{sym, ap, ◌∙◌, subst, Some, None}
use Rattle.th_runs.specs.Verified.{IsVerified}
use Rattle.th_machine.specs.declared.outcome.Outcome.TheVariants as outcome
use Rattle.th_machine.specs.Running.{Standing, Answers, moved}
use Rattle.th_machine.proofs.Ran.{stands_event, answered_nothing, answered_full, answered_made}
use Rattle.th_machine.proofs.machine.Machine.event.Goals as goal

pub invariant_of-machine : goal.invariant_of-machine
invariant_of-machine c =
    let m : Standing = record { files = c.self.inside.resolved; lifecycle = c.self.inside.lifecycle; state = c.self.inside.state } in
    stands_event m c.self.inside.held c.args.asked c.in_ok-happening.happening c.self.invariant (ap (λ (x : Standing). x.state.ended) c.self.view_is ∙ c.requires.runs)
    (ap (λ (x : Standing). x.state.frames) c.self.view_is ∙ c.requires.idle) c.in_ok-happening.ensures

pub invariant_of-machine-in-Full : goal.invariant_of-machine-in-Full
invariant_of-machine-in-Full c =
    let m : Standing = record { files = c.self.inside.resolved; lifecycle = c.self.inside.lifecycle; state = c.self.inside.state } in
    stands_event m c.self.inside.held c.args.asked c.in_ok-happening.happening c.self.invariant (ap (λ (x : Standing). x.state.ended) c.self.view_is ∙ c.requires.runs)
    (ap (λ (x : Standing). x.state.frames) c.self.view_is ∙ c.requires.idle) c.in_ok-happening.ensures

pub invariant_of-machine-in-Made : goal.invariant_of-machine-in-Made
invariant_of-machine-in-Made c =
    let m : Standing = record { files = c.self.inside.resolved; lifecycle = c.self.inside.lifecycle; state = c.self.inside.state } in
    stands_event m c.self.inside.held c.args.asked c.in_ok-happening.happening c.self.invariant (ap (λ (x : Standing). x.state.ended) c.self.view_is ∙ c.requires.runs)
    (ap (λ (x : Standing). x.state.frames) c.self.view_is ∙ c.requires.idle) c.in_ok-happening.ensures

pub returns-in-Nothing : goal.returns-in-Nothing
returns-in-Nothing c =
    let m : Standing = record { files = c.self.inside.resolved; lifecycle = c.self.inside.lifecycle; state = c.self.inside.state } in
    let h = c.in_ok-happening.happening in
    subst (λ (x : Standing). IsVerified x.files → Answers x c.args.asked c.args.fuel (moved m h.state) c.args.fuel None) c.self.view_is
    (λ verified. answered_nothing m c.args.asked c.args.fuel h c.in_ok-happening.ensures c.in-Nothing.is)

pub returns-in-Full : goal.returns-in-Full
returns-in-Full c =
    let m : Standing = record { files = c.self.inside.resolved; lifecycle = c.self.inside.lifecycle; state = c.self.inside.state } in
    let h = c.in_ok-happening.happening in
    subst (λ (x : Standing). IsVerified x.files → Answers x c.args.asked c.args.fuel (moved m h.state) c.args.fuel (Some outcome.Full)) c.self.view_is
    (λ verified. answered_full m c.args.asked c.args.fuel h c.in_ok-happening.ensures c.in-Full.is)

pub returns-in_ok-ran-in-Made : goal.returns-in_ok-ran-in-Made
returns-in_ok-ran-in-Made c =
    let m : Standing = record { files = c.self.inside.resolved; lifecycle = c.self.inside.lifecycle; state = c.self.inside.state } in
    let h = c.in_ok-happening.happening in
    let ran = c.in_ok-ran-in-Made.ran in
    subst (λ (x : Standing). IsVerified x.files → Answers x c.args.asked c.args.fuel ran.machine ran.left (Some ran.outcome)) c.self.view_is
    (λ verified.
    let run = c.in_ok-ran-in-Made.ensures verified in
    subst (λ (x : Standing). Answers m c.args.asked c.args.fuel x ran.left (Some ran.outcome)) (sym run.same)
    (answered_made m c.args.asked c.args.fuel ran.left h ran.machine.state ran.outcome c.in_ok-happening.ensures c.in-Made.is run.goes))

use Rattle.std.proofs.Common.{sym, ap, ◌∙◌, subst}
use Rattle.th_runs.specs.Verified.{IsVerified}
use Rattle.th_machine.specs.Running.{Standing, IsStep, moved}
use Rattle.th_machine.proofs.Stood.{stands_after, step_told}
use Rattle.th_machine.proofs.machine.Machine.step.Goals as goal

pub invariant_of-machine : goal.invariant_of-machine
invariant_of-machine c =
    let before = c.self.inside in
    stands_after before.resolved before.lifecycle before.state before.held c.in_ok-advance.advance c.self.invariant c.in_ok-advance.ensures c.steps_are_found.ensures
    (ap (λ (m : Standing). m.state.ended) c.self.view_is ∙ c.requires.running) (λ none. c.requires.framed (ap (λ (m : Standing). m.state.frames) (sym c.self.view_is) ∙ none))

pub returns : goal.returns
returns c =
    let before = c.self.inside in
    let m : Standing = record { files = before.resolved; lifecycle = before.lifecycle; state = before.state } in
    subst (λ (x : Standing). IsVerified x.files → IsStep x (moved m c.in_ok-advance.advance.state) c.told_after-told.result) c.self.view_is
    (step_told m before.held c.in_ok-advance.advance c.told_after-told.result c.self.invariant c.in_ok-advance.ensures c.steps_are_found.ensures
    (ap (λ (x : Standing). x.state.ended) c.self.view_is ∙ c.requires.running) (λ none. c.requires.framed (ap (λ (x : Standing). x.state.frames) (sym c.self.view_is) ∙ none))
    c.told_after-told.ensures)

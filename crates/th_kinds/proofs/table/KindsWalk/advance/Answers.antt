use Rattle.std.proofs.Common.{drop, length, sym, ap, ◌∙◌, arith}
use Rattle.th_kinds.specs.declared.state.State.{State}
use Rattle.th_kinds.specs.States.{seen_state}
use Rattle.th_kinds.specs.Kept.{seen_kept}
use Rattle.th_kinds.specs.Walk.{line, here, kept_at, fallen_behind}
use Rattle.th_kinds.proofs.ListedKinds.{listed_end}
use Rattle.th_kinds.proofs.Steps.{listed_next, on_err}
use Rattle.th_kinds.proofs.table.KindsWalk.advance.Goals as goal

pub returns-then-place-self-clause-ok : goal.returns-then-place-self-clause-ok
returns-then-place-self-clause-ok c =
    let over = sym c.self.view_is ∙ listed_end c.self.inside.instrs.now (drop c.self.inside.place (seen_kept c.self.inside.kept.now)) (seen_state c.self.inside.fallen) c.self.inside.place c.if-place-self.true in
    over ∙ sym (ap (drop 1) over)

pub returns-in_err-out-clause-err : goal.returns-in_err-out-clause-err
returns-in_err-out-clause-err c =
    on_err c.from_residual.result _
    (listed_end c.self.inside.instrs.now (drop (length c.self.inside.instrs.now) (seen_kept c.self.inside.kept.now)) (seen_state c.replace-fallen.new.dest) (length c.self.inside.instrs.now) (omega arith))

pub returns-in_err-next-clause-err : goal.returns-in_err-next-clause-err
returns-in_err-next-clause-err c =
    on_err c.from_residual-in_err-next.result _
    (listed_end c.self.inside.instrs.now (drop (length c.self.inside.instrs.now) (seen_kept c.self.inside.kept.now)) (seen_state c.replace-fallen.new.dest) (length c.self.inside.instrs.now) (omega arith))

pub returns-clause-ok : goal.returns-clause-ok
returns-clause-ok c =
    c.in_ok-next.ensures.same
    ∙ listed_next c.self.inside.instrs.now (seen_kept c.self.inside.kept.now) (seen_state c.self.inside.fallen) c.self.inside.place c.if-place-self.false (seen_state c.in_ok-out.out) (c.self.invariant.1 c.if-place-self.false)
    (c.in_ok-out.ensures ∙ ap (λ (s : State). fallen_behind (line c.self.inside.instrs.now c.self.inside.place).1 (here (seen_state s) (kept_at (seen_kept c.self.inside.kept.now) c.self.inside.place))) c.replace-fallen.ensures.value)
    ∙ ap (drop 1) c.self.view_is

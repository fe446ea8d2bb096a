use Rattle.std.proofs.Common.{◌≡◌, ◌<◌, List, Option, length, true, cond, refl, sym, ap, subst, ◌∙◌, arith}
use Rattle.th_syntax.specs.Kinds.{KindsAt, NoKinds}
use Rattle.th_syntax.specs.KindTable.{IsHeld}
use Rattle.th_syntax.specs.KindRows as rows
use Rattle.th_kinds.specs.States.{seen_state}
use Rattle.th_kinds.specs.Kept.{seen_kept}
use Rattle.th_kinds.specs.Walk as walk
use Rattle.th_kinds.proofs.MergedKept.{length-seen}
use Rattle.th_kinds.proofs.Visits.{arrived_under, through, held_here, under_at, held_at, there_at}
use Rattle.th_kinds.proofs.walk.visit.Goals as goal
use Rattle.th_kinds.proofs.walk.visit.Goals.{then-falls, else-falls, then-arrived, else-arrived}

pub spread-requires-clause-there : goal.spread-requires-clause-there
spread-requires-clause-there c =
    there_at c.args.code.now.offsets.items c.as_slice.result.now (walk.jumps (walk.line c.args.code.now.instrs.now c.args.place).1) c.as_slice-2.result.now c.as_slice.ensures.value
    (c.as_slice-2.ensures.value ∙ c.in_ok-targets.ensures ∙ ap walk.jumps c.instr_at-instr.ensures) (c.requires.ready.there c.args.place c.requires.inside)

pub returns-clause-under : goal.returns-clause-under
returns-clause-under c u old low at =
    let out : seen_state c.in_ok-state.state ≡ rows.after (rows.row_of (walk.line c.args.code.now.instrs.now c.args.place).1) (seen_state c.in_ok-arrived.arrived.state) =
    c.in_ok-state.ensures ∙ ap (λ r. rows.after r (seen_state c.in_ok-arrived.arrived.state)) c.row_at.ensures in
    let held = through (seen_kept c.args.kept.now) (seen_kept c.arrive.new.kept) c.args.place (seen_state c.args.fallen) (seen_state c.in_ok-arrived.arrived.state) (seen_state c.in_ok-state.state)
    (rows.row_of (walk.line c.args.code.now.instrs.now c.args.place).1) u c.in_ok-arrived.ensures.merged c.in_ok-arrived.ensures.state out old low in
    let targets : c.as_slice-2.result.now ≡ walk.jumps (walk.line c.args.code.now.instrs.now c.args.place).1 = c.as_slice-2.ensures.value ∙ c.in_ok-targets.ensures ∙ ap walk.jumps c.instr_at-instr.ensures in
    c.in_ok-changed.ensures.under u
    (arrived_under (seen_kept c.args.kept.now) (seen_kept c.arrive.new.kept) c.args.place (seen_state c.args.fallen) u c.in_ok-arrived.ensures.merged old low)
    (under_at u c.args.code.now.offsets.items c.as_slice.result.now (walk.jumps (walk.line c.args.code.now.instrs.now c.args.place).1) c.as_slice-2.result.now (seen_state c.in_ok-state.state)
    (rows.after (rows.row_of (walk.line c.args.code.now.instrs.now c.args.place).1) (u c.args.place)) c.as_slice.ensures.value targets held at)

pub returns-clause-falling : goal.returns-clause-falling
returns-clause-falling c = elim c.if-arrived.branch [
  | then-arrived w ↦ λ e. absurd (let t = w.result-is in cc)
  | else-arrived w ↦ λ e known stands.
      let still = c.in_ok-arrived.ensures.same w.if-arrived.false in
      let inside : c.args.place < length (seen_kept c.args.kept.now) = let len = length-seen c.args.kept.now in omega arith in
      held_here (seen_kept c.args.kept.now) c.args.place (seen_state c.args.fallen) known inside (sym c.in_ok-arrived.ensures.merged ∙ still) stands
]

pub returns-clause-jumping : goal.returns-clause-jumping
returns-clause-jumping c = elim c.if-arrived.branch [
  | then-arrived w ↦ λ e. absurd (let t = w.result-is in cc)
  | else-arrived w ↦ λ e.
      let still = c.in_ok-arrived.ensures.same w.if-arrived.false in
      let quiet = sym w.result-is ∙ e in
      let targets : c.as_slice-2.result.now ≡ walk.jumps (walk.line c.args.code.now.instrs.now c.args.place).1 = c.as_slice-2.ensures.value ∙ c.in_ok-targets.ensures ∙ ap walk.jumps c.instr_at-instr.ensures in
      let out : seen_state c.in_ok-state.state ≡ rows.after (rows.row_of (walk.line c.args.code.now.instrs.now c.args.place).1) (walk.here (seen_state c.args.fallen) (walk.kept_at (seen_kept c.args.kept.now) c.args.place)) =
      c.in_ok-state.ensures ∙ ap (λ r. rows.after r (seen_state c.in_ok-arrived.arrived.state)) c.row_at.ensures
      ∙ ap (rows.after (rows.row_of (walk.line c.args.code.now.instrs.now c.args.place).1)) (c.in_ok-arrived.ensures.state ∙ ap (λ (ks : List (Option KindsAt)). walk.here (seen_state c.args.fallen) (walk.kept_at ks c.args.place)) still) in
      held_at (seen_kept c.args.kept.now) (seen_kept c.arrive.new.kept) c.args.code.now.offsets.items c.as_slice.result.now (walk.jumps (walk.line c.args.code.now.instrs.now c.args.place).1) c.as_slice-2.result.now
      (seen_state c.in_ok-state.state) (rows.after (rows.row_of (walk.line c.args.code.now.instrs.now c.args.place).1) (walk.here (seen_state c.args.fallen) (walk.kept_at (seen_kept c.args.kept.now) c.args.place)))
      still c.as_slice.ensures.value targets out (c.in_ok-changed.ensures.held quiet)
]

pub returns-clause-out : goal.returns-clause-out
returns-clause-out c u old low =
    let out : seen_state c.in_ok-state.state ≡ rows.after (rows.row_of (walk.line c.args.code.now.instrs.now c.args.place).1) (seen_state c.in_ok-arrived.arrived.state) =
    c.in_ok-state.ensures ∙ ap (λ r. rows.after r (seen_state c.in_ok-arrived.arrived.state)) c.row_at.ensures in
    let held = through (seen_kept c.args.kept.now) (seen_kept c.arrive.new.kept) c.args.place (seen_state c.args.fallen) (seen_state c.in_ok-arrived.arrived.state) (seen_state c.in_ok-state.state)
    (rows.row_of (walk.line c.args.code.now.instrs.now c.args.place).1) u c.in_ok-arrived.ensures.merged c.in_ok-arrived.ensures.state out old low in
    elim c.if-falls.branch [
      | then-falls w ↦
          let falls : walk.falls (walk.line c.args.code.now.instrs.now c.args.place).1 ≡ true = sym (ap walk.falls c.instr_at-instr.ensures) ∙ sym c.falls.ensures ∙ w.if-falls.true in
          let gone : seen_state c.if-falls.gone ≡ seen_state c.in_ok-state.state = ap seen_state w.gone-is in
          let into : walk.fallen_behind (walk.line c.args.code.now.instrs.now c.args.place).1 (u c.args.place) ≡ rows.after (rows.row_of (walk.line c.args.code.now.instrs.now c.args.place).1) (u c.args.place) =
          ap (λ b. cond b (rows.after (rows.row_of (walk.line c.args.code.now.instrs.now c.args.place).1) (u c.args.place)) NoKinds) falls in
          subst (λ (s : KindsAt). IsHeld s (walk.fallen_behind (walk.line c.args.code.now.instrs.now c.args.place).1 (u c.args.place))) (sym gone)
          (subst (λ (s : KindsAt). IsHeld (seen_state c.in_ok-state.state) s) (sym into) held)
      | else-falls w ↦
          let gone : seen_state c.if-falls.gone ≡ NoKinds = ap seen_state w.gone-is in
          subst (λ (s : KindsAt). IsHeld s (walk.fallen_behind (walk.line c.args.code.now.instrs.now c.args.place).1 (u c.args.place))) (sym gone) refl
    ]

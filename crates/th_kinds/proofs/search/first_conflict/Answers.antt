use Rattle.std.proofs.Common.{◌≡◌, ℕ, false, sym, ap, ◌∙◌, add-one, below_more, arith}
use Rattle.th_syntax.specs.declared.instr.Instr.{Instr}
use Rattle.th_syntax.specs.Kinds.{KindsAt}
use Rattle.th_syntax.specs.KindTable.{is_conflict}
use Rattle.th_kinds.specs.States.{seen_state}
use Rattle.th_kinds.specs.Kept.{seen_kept}
use Rattle.th_kinds.specs.Walk.{line, falls_in, fallen_behind, here, kept_at, state_at}
use Rattle.th_kinds.proofs.search.first_conflict.Goals as goal

pub loop-place-init : goal.loop-place-init
unfolding falls_in
loop-place-init c = record { state = c.in_ok-fallen.ensures; fit = λ m e k below. absurd (omega arith) }

pub loop-place-preserved : goal.loop-place-preserved
unfolding falls_in
loop-place-preserved c =
    let state : seen_state c.in_ok-state.state ≡ state_at (seen_state c.args.entry.now) c.args.listing.now.instrs.now (seen_kept c.args.kept.now) c.loop-place.place =
    c.in_ok-state.ensures ∙ ap (λ (s : KindsAt). here s (kept_at (seen_kept c.args.kept.now) c.loop-place.place)) c.loop-place.invariant.state in
    record {
      state =
          c.in_ok-fallen-2.ensures ∙ ap (λ (i : Instr). fallen_behind i (seen_state c.in_ok-state.state)) c.instr_at-instr.ensures
          ∙ ap (fallen_behind (line c.args.listing.now.instrs.now c.loop-place.place).1) state
          ∙ ap (falls_in (seen_state c.args.entry.now) c.args.listing.now.instrs.now (seen_kept c.args.kept.now)) (sym (add-one c.loop-place.place));
      fit = λ m e.
          below_more (λ (k : ℕ). is_conflict m c.args.code.now (line c.args.listing.now.instrs.now k).1 (state_at (seen_state c.args.entry.now) c.args.listing.now.instrs.now (seen_kept c.args.kept.now) k) ≡ false) c.loop-place.place
          (c.loop-place.invariant.fit m e)
          (sym (c.is_conflict.ensures m e ∙ ap (λ (i : Instr). is_conflict m c.args.code.now i (seen_state c.in_ok-state.state)) c.instr_at-instr.ensures
          ∙ ap (is_conflict m c.args.code.now (line c.args.listing.now.instrs.now c.loop-place.place).1) state) ∙ c.if-is_conflict.false);
    }

pub returns-then-is_conflict : goal.returns-then-is_conflict
returns-then-is_conflict c m e =
    let state : seen_state c.in_ok-state.state ≡ state_at (seen_state c.args.entry.now) c.args.listing.now.instrs.now (seen_kept c.args.kept.now) c.loop-place.place =
    c.in_ok-state.ensures ∙ ap (λ (s : KindsAt). here s (kept_at (seen_kept c.args.kept.now) c.loop-place.place)) c.loop-place.invariant.state in
    record {
      inside = c.loop-place-test.true;
      here =
          sym (c.is_conflict.ensures m e ∙ ap (λ (i : Instr). is_conflict m c.args.code.now i (seen_state c.in_ok-state.state)) c.instr_at-instr.ensures
          ∙ ap (is_conflict m c.args.code.now (line c.args.listing.now.instrs.now c.loop-place.place).1) state) ∙ c.if-is_conflict.true;
      before = c.loop-place.invariant.fit m e;
    }

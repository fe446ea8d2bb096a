use Rattle.std.proofs.Common.{◌≡◌, ℕ, List, All, Contains, sym, ap, subst, ◌∙◌, refl, below_more, arith}
use Rattle.th_kinds.specs.Flowing.{line, jumps}
use Rattle.th_kinds.proofs.flowing.jumps_land.Goals as goal

pub loop-place-preserved : goal.loop-place-preserved
loop-place-preserved c =
    let targets : c.as_slice.result.now ≡ jumps (line c.args.instrs.now c.loop-place.place).1 = c.as_slice.ensures.value ∙ c.in_ok-targets.ensures ∙ ap jumps c.instr_at.ensures in
    below_more (λ (k : ℕ). All (λ target. Contains c.args.offsets.now target) (jumps (line c.args.instrs.now k).1)) c.loop-place.place c.loop-place.invariant
    (subst (λ (ts : List ℕ). All (λ target. Contains c.args.offsets.now target) ts) targets (c.are_among.ensures.0 c.if-not-are_among.false))

pub returns-then-not-are_among : goal.returns-then-not-are_among
returns-then-not-are_among c =
    let targets : c.as_slice.result.now ≡ jumps (line c.args.instrs.now c.loop-place.place).1 = c.as_slice.ensures.value ∙ c.in_ok-targets.ensures ∙ ap jumps c.instr_at.ensures in (
      λ e. absurd cc,
      λ all. absurd (
          let there = c.are_among.ensures.1 (subst (λ (ts : List ℕ). All (λ target. Contains c.args.offsets.now target) ts) (sym targets) (all c.loop-place.place c.loop-place-test.true)) in
          let none = c.if-not-are_among.true in cc
          ),
    )

pub returns : goal.returns
returns c = (λ e k inside. c.loop-place.invariant k (omega arith), λ all. refl)

use Rattle.std.proofs.Common.{◌≡◌, ℕ, ◌<◌, false, true, length, Contains, slice_index, get_or, ap, ◌∙◌, below_more, arith}
use Rattle.th_kinds.specs.Flowing.{line, jumps}
use Rattle.th_kinds.specs.Kept.{kept_places}
use Rattle.th_kinds.proofs.Visits.{there_at}
use Rattle.th_kinds.proofs.Marks.{marked_jump}
use Rattle.th_kinds.proofs.first.mark_jumps.Goals as goal

pub mark_all-requires-clause-there : goal.mark_all-requires-clause-there
mark_all-requires-clause-there c =
    there_at c.args.code.now.offsets.items c.as_slice.result.now (jumps (line c.args.code.now.instrs.now c.loop-place.place).1) c.as_slice-in-loop-place.result.now c.as_slice.ensures.value
    (c.as_slice-in-loop-place.ensures.value ∙ c.in_ok-targets.ensures ∙ ap jumps c.instr_at.ensures) (c.requires.ready.there c.loop-place.place c.loop-place-test.true)

pub returns-clause-marked : goal.returns-clause-marked
returns-clause-marked c k j inside there jump = c.loop-place.invariant.marked k (omega arith) j there jump

pub loop-place-preserved : goal.loop-place-preserved
loop-place-preserved c = record {
  nothing = λ nothing. c.mark_all.ensures.nothing (c.loop-place.invariant.nothing nothing);
  marked = below_more (λ (k : ℕ). (j : ℕ) → j < length c.args.code.now.offsets.items → Contains (jumps (line c.args.code.now.instrs.now k).1) (slice_index c.args.code.now.offsets.items j) → get_or (kept_places c.mark_all.new.kept) j false ≡ true) c.loop-place.place
      (λ k below j inside jump. c.mark_all.ensures.more j (c.loop-place.invariant.marked k below j inside jump))
      (λ j inside jump.
      marked_jump c.args.code.now.offsets.items c.as_slice.result.now (jumps (line c.args.code.now.instrs.now c.loop-place.place).1) c.as_slice-in-loop-place.result.now (kept_places c.mark_all.new.kept) c.as_slice.ensures.value
      (c.as_slice-in-loop-place.ensures.value ∙ c.in_ok-targets.ensures ∙ ap jumps c.instr_at.ensures) c.mark_all.ensures.marked j inside jump);
}

use Rattle.std.proofs.Common.{◌≡◌, ℕ, ◌<◌, false, true, length, slice_index, get_or, sym, subst, ◌∙◌, below_more}
use Rattle.th_kinds.specs.Kept.{kept_places}
use Rattle.th_kinds.proofs.MergedKept.{one_place}
use Rattle.th_kinds.proofs.first.mark_all.Goals as goal

pub loop-target-preserved : goal.loop-target-preserved
loop-target-preserved c = record {
  nothing = λ nothing. c.mark.ensures.nothing (c.loop-target.invariant.nothing nothing);
  marked = below_more (λ (t : ℕ). (j : ℕ) → j < length c.args.offsets.now → slice_index c.args.offsets.now j ≡ slice_index c.args.targets.now t → get_or (kept_places c.mark.new.kept) j false ≡ true) c.loop-target.target-index
      (λ t below j inside e. c.mark.ensures.more j (c.loop-target.invariant.marked t below j inside e))
      (λ j inside e. subst (λ (n : ℕ). get_or (kept_places c.mark.new.kept) n false ≡ true)
      (sym (one_place c.args.offsets.now c.requires.ascending j c.place_of.result inside c.place_of.ensures.inside (e ∙ sym c.place_of.ensures.found))) c.mark.ensures.marked);
  more = λ k e. c.mark.ensures.more k (c.loop-target.invariant.more k e);
}

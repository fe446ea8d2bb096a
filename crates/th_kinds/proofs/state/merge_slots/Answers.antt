use Rattle.std.proofs.Common.{◌≡◌, ℕ, length, arith, ap, ◌∙◌, sym}
use Rattle.th_kinds.specs.States.{merged_front, slots_room}
use Rattle.th_kinds.proofs.Fronts.{front_next, front_whole}
use Rattle.th_kinds.proofs.state.merge_slots.Goals as goal
use Rattle.th_kinds.proofs.state.merge_slots.Goals.{then-merge_slot, else-merge_slot}

pub returns-clause-merged : goal.returns-clause-merged
returns-clause-merged c =
    let all : c.loop-at.at ≡ length c.args.known.now = omega arith in
    c.loop-at.invariant.front ∙ ap (λ (n : ℕ). merged_front n c.args.brought.now c.args.known.now) all ∙ front_whole c.args.brought.now c.args.known.now c.requires

pub loop-at-preserved : goal.loop-at-preserved
loop-at-preserved c = record {
  front = front_next c.loop-at.at c.args.brought.now c.args.known.now c.loop-at.known c.merge_slot.new.known _ c.loop-at.invariant.front c.loop-at-test.true (omega arith) c.merge_slot.ensures.merged;
  same = elim c.if-merge_slot.branch [
    | then-merge_slot w ↦ λ e. absurd (let t = w.changed-is in cc)
    | else-merge_slot w ↦ λ e. let t = w.changed-is in let s = c.merge_slot.ensures.same w.if-merge_slot.false in s ∙ c.loop-at.invariant.same (sym t ∙ e)
  ];
  most = elim c.if-merge_slot.branch [
    | then-merge_slot w ↦ let less = c.merge_slot.ensures.less w.if-merge_slot.true in let most = c.loop-at.invariant.most in omega arith
    | else-merge_slot w ↦ let s = ap slots_room (c.merge_slot.ensures.same w.if-merge_slot.false) in let most = c.loop-at.invariant.most in omega arith
  ];
  less = elim c.if-merge_slot.branch [
    | then-merge_slot w ↦ λ e. let less = c.merge_slot.ensures.less w.if-merge_slot.true in let most = c.loop-at.invariant.most in omega arith
    | else-merge_slot w ↦ λ e. let t = w.changed-is in let s = ap slots_room (c.merge_slot.ensures.same w.if-merge_slot.false) in let less = c.loop-at.invariant.less (sym t ∙ e) in omega arith
  ];
}

use Rattle.std.proofs.Common.{◌≡◌, ◌∙◌, ◌+◌, ◌++◌, ◌∷◌, ℕ, List, [], false, length, take, replicate, get_or, sym, subst, ap, arith, zero, suc, refl, if◌then◌else◌}
use Rattle.std.proofs.lemmas.List.{length-replicate, length-take-le}
use Rattle.th_base.specs.declared.number.NodeId.{NodeId}
use Rattle.th_base.specs.IdSet.{has}
use Rattle.th_flow.specs.Inverted.{row_at, places_with}
use Rattle.th_flow.proofs.Rows.{places_more, no_place_past, row_of_none}
use Rattle.th_flow.proofs.inverted.inverted.Goals as goal

pub note_each-requires : goal.note_each-requires
note_each-requires c = λ r inside.
    let place = c.loop-place.place in
    let lists = c.args.lists.now in
    let short = length-take-le place lists (omega arith) in
    let count = c.loop-place.invariant.count in
    ap (λ l. has l place) (c.loop-place.invariant.rows r (omega (arith, inside, count)))
    ∙ no_place_past (λ l. has l r) (take place lists) 0 place (omega (arith, short))

pub loop-place-init : goal.loop-place-init
loop-place-init c = record {
  count = ap (λ (l : List (List NodeId)). length l) c.in_ok-rows.ensures ∙ length-replicate c.args.count [];
  rows = λ r inside. ap (λ (l : List (List NodeId)). row_at l r) c.in_ok-rows.ensures ∙ row_of_none c.args.count r;
}

pub loop-place-preserved : goal.loop-place-preserved
loop-place-preserved c = record {
  count = c.in_ok-note_each.ensures.count ∙ c.loop-place.invariant.count;
  rows = λ r inside.
      let place = c.loop-place.place in
      let lists = c.args.lists.now in
      let list = c.index-lists-place.result in
      let count = c.loop-place.invariant.count in
      c.in_ok-note_each.ensures.rows r (omega (arith, inside, count))
      ∙ ap (λ l. l ++ (if has c.as_slice.result.now r then place ∷ [] else [])) (c.loop-place.invariant.rows r inside)
      ∙ ap (λ l. places_with r (take place lists) ++ (if has l r then place ∷ [] else [])) (c.as_slice.ensures ∙ c.index-lists-place.is)
      ∙ sym (places_more (λ l. has l r) lists place list c.loop-place-test.true);
}

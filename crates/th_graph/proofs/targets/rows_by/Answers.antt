use Rattle.std.proofs.Common.{◌∙◌, ◌++◌, ◌∷◌, ℕ, List, Option, None, [], length, get_or, sym, ap, arith, if◌then◌else◌}
use Rattle.std.proofs.lemmas.List.{length-replicate}
use Rattle.th_flow.proofs.Rows.{places_more}
use Rattle.th_graph.specs.Searching.{is_key, row_at}
use Rattle.th_graph.proofs.TargetRows.{row_of_none}
use Rattle.th_graph.proofs.targets.rows_by.Goals as goal

pub loop-place-init : goal.loop-place-init
loop-place-init c = record {
  count = ap (λ (l : List (List ℕ)). length l) c.in_ok-rows.ensures ∙ length-replicate c.args.count [];
  rows = λ r inside. ap (λ (l : List (List ℕ)). row_at l r) c.in_ok-rows.ensures ∙ row_of_none c.args.count r;
}

pub loop-place-preserved : goal.loop-place-preserved
loop-place-preserved c =
    let keys : List (Option ℕ) = c.args.keys.now in
    let place = c.loop-place.place in
    let count = c.loop-place.invariant.count in
    record {
      count = c.in_ok-add_place.ensures.count ∙ count;
      rows = λ r inside.
          c.in_ok-add_place.ensures.rows r (omega (arith, inside, count))
          ∙ ap (λ (l : List ℕ). l ++ (if is_key r (get_or keys place None) then place ∷ [] else [])) (c.loop-place.invariant.rows r inside)
          ∙ sym (places_more (is_key r) keys place None c.loop-place-test.true);
    }

use Rattle.std.proofs.Common.{◌≡◌, ◌<◌, ◌++◌, ◌∷◌, ℕ, List, Option, [], length, sym, subst, if◌then◌else◌}
use Rattle.std.specs.Prelude.{◌≢◌}
use Rattle.th_graph.specs.Searching.{is_key, row_at}
use Rattle.th_graph.proofs.TargetRows.{row_added, no_key, on_both}
use Rattle.th_graph.proofs.targets.add_place.Goals as goal

pub returns-in-Some-clause-rows : goal.returns-in-Some-clause-rows
returns-in-Some-clause-rows c =
    let old : List (List ℕ) = c.args.rows.now.items in
    let new : List (List ℕ) = c.add_to.new.rows.items in
    let row = c.in-Some.row in
    let place = c.args.place in
    on_both c.add_to.result (row < length old → row_at new row ≡ row_at old row ++ place ∷ []) ((r : ℕ) → r ≢ row → row_at new r ≡ row_at old r)
    ((r : ℕ) → r < length old → row_at new r ≡ row_at old r ++ (if is_key r c.args.key then place ∷ [] else []))
    (λ here others r less. subst (λ (k : Option ℕ). row_at new r ≡ row_at old r ++ (if is_key r k then place ∷ [] else [])) (sym c.in-Some.is) (row_added old new row place r here others less))
    c.add_to.ensures.here c.add_to.ensures.others

pub returns-in-None-clause-rows : goal.returns-in-None-clause-rows
returns-in-None-clause-rows c = λ r less.
    let row : List ℕ = row_at c.args.rows.now.items r in
    subst (λ (k : Option ℕ). row ≡ row ++ (if is_key r k then c.args.place ∷ [] else [])) (sym c.in-None.is) (no_key r c.args.place row)

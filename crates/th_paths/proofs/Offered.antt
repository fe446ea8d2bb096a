-- An edge is offered to a search: it is passed by, or a step along it is added. The paths are then known,
-- and the site at which the edge ends is found.
use Rattle.std.proofs.Common.{◌≡◌, ℕ, ◌<◌, ◌≤◌, ◌⊎◌, Bool, true, false, cond, List, [], ◌∷◌, ◌++◌, length, Option, Some, None, slice_get, get_or, set, refl, sym, ap, subst, inl, inr, arith, ◌∙◌, get_or-set_same, get_or-set_other}
use Rattle.std.proofs.Math.Seq.{get_or-append_seam}
use Rattle.std.specs.Prelude.{is_none, count_by}
use Rattle.std.proofs.lemmas.Bool.{cases_eq, cases_lt, both_ways}
use Rattle.std.proofs.lemmas.List.{length-append, length-set, get_or_append_left}
use Rattle.std.proofs.lemmas.List.Sums.{sum_by-set}
use Rattle.std.proofs.lemmas.Option.{slice_get_within}
use Rattle.th_base.specs.IdSet.{has}
use Rattle.th_base.specs.declared.number.EdgeId.{EdgeId}
use Rattle.th_base.specs.declared.number.FieldId.{FieldId}
use Rattle.th_ir.specs.declared.graph.Edge.{Edge}
use Rattle.th_paths.specs.declared.search.Search.{Search}
use Rattle.th_paths.specs.declared.search.Step.{Step}
use Rattle.th_paths.specs.Paths.{end_of, IsPath, Avoids, IsBefore}
use Rattle.th_paths.specs.Search.{edge_id, path_at, path_by, place_at, IsBelow, ArePaths, IsStepTo, IsSearch, IsReached, IsAtMost, Offers}
use Rattle.th_paths.proofs.Places.{some_is, pushed_old, pushed_new, pushed_from, AreFirsts}

-- ---- what stays

-- steps and paths stay, and there may be one step more, with its path
pub record Grows (steps after : List Step) (paths paths_after : List (List EdgeId)) (step : Step) (path : List EdgeId) : Type 0 where
  pub steps_stay : (i : ℕ) (s : Step) → slice_get steps i ≡ Some s → slice_get after i ≡ Some s
  pub paths_stay : (i : ℕ) → i < length steps → path_at paths_after i ≡ path_at paths i
  pub comes_from : (i : ℕ) (s : Step) → slice_get after i ≡ Some s → (slice_get steps i ≡ Some s) ⊎ ((step ≡ s) × (path_at paths_after i ≡ path))

pub reached_stays : (edges : List Edge) (steps after : List Step) (paths paths_after : List (List EdgeId)) (step : Step) (path : List EdgeId) (x : ℕ) (to : List EdgeId)
    → Grows steps after paths paths_after step path → IsReached edges steps paths x to → IsReached edges after paths_after x to
reached_stays edges steps after paths paths_after step path x to g r = record {
  at = r.at;
  step = r.step;
  stands = g.steps_stay r.at r.step r.stands;
  edge = r.edge;
  edge_stands = r.edge_stands;
  site = r.site;
  least = subst (λ p. IsAtMost p to) (sym (g.paths_stay r.at (slice_get_within steps r.at r.step r.stands))) r.least;
}

-- what is offered: an edge with the path along it, which comes after the paths of all steps
pub record IsOffer (edges : List Edge) (f : FieldId) (cut : List ℕ) (steps : List Step) (paths : List (List EdgeId)) (k : ℕ) (before : Option ℕ) (edge : Edge)
    (path : List EdgeId) : Type 0 where
  pub stands : slice_get edges k ≡ Some edge
  pub by : path ≡ path_by paths before (edge_id k)
  pub below : IsBelow before (length steps)
  pub leads : IsPath edges f path (end_of edge)
  pub avoids : has cut k ≡ false → Avoids cut path
  pub ahead : (j : ℕ) → j < length steps → IsBefore (path_at paths j) path

pub record IsOffered (edges : List Edge) (firsts : List ℕ) (f : FieldId) (cut : List ℕ) (steps after : List Step) (places : List (Option ℕ))
    (paths : List (List EdgeId)) (k x : ℕ) (step : Step) (path : List EdgeId) : Type 0 where
  pub paths_after : List (List EdgeId)
  pub search : IsSearch edges firsts f cut after places paths_after
  pub grows : Grows steps after paths paths_after step path
  pub reached : has cut k ≡ false → IsReached edges after paths_after x path

-- ---- passed by

not_taken : (edges : List Edge) (firsts : List ℕ) (f : FieldId) (cut : List ℕ) (steps : List Step) (places : List (Option ℕ)) (paths : List (List EdgeId))
    (k : ℕ) (before : Option ℕ) (edge : Edge) (path : List EdgeId) (marked : Bool) → AreFirsts edges firsts → IsSearch edges firsts f cut steps places paths
    → IsOffer edges f cut steps paths k before edge path → marked ≡ has cut k → (marked ≡ true) ⊎ ((j : ℕ) × (place_at places (get_or firsts k 0) ≡ Some j))
    → has cut k ≡ false → IsReached edges steps paths (end_of edge) path
not_taken edges firsts f cut steps places paths k before edge path marked a s o mark why free =
    elim why [
      | inl is ↦ absurd (both_ways marked (mark ∙ free) is)
      | inr found ↦
          let at = s.listed (get_or firsts k 0) found.0 found.1 in
          let v = s.valid found.0 at.step at.stands in
          record {
            at = found.0;
            step = at.step;
            stands = at.stands;
            edge = v.edge;
            edge_stands = v.stands;
            site = a.alike at.step.edge.0 k v.edge edge v.stands o.stands at.first;
            least = inr (o.ahead found.0 (slice_get_within steps found.0 at.step at.stands));
          }
    ]

-- ---- a step more

path_by_stays : (paths : List (List EdgeId)) (path : List EdgeId) (before : Option ℕ) (e : EdgeId) (n : ℕ) → n ≤ length paths → IsBelow before n
    → path_by (paths ++ path ∷ []) before e ≡ path_by paths before e
path_by_stays paths path None e n within below = refl
path_by_stays paths path (Some i) e n within below = ap (λ p. p ++ e ∷ []) (get_or_append_left paths (path ∷ []) [] i (omega arith))

more_steps : (steps : List Step) (paths : List (List EdgeId)) (step : Step) (path : List EdgeId) → length paths ≡ length steps
    → Grows steps (steps ++ step ∷ []) paths (paths ++ path ∷ []) step path
more_steps steps paths step path count = record {
  steps_stay = λ i s e. pushed_old steps step i s e;
  paths_stay = λ i less. get_or_append_left paths (path ∷ []) [] i (omega arith);
  comes_from = λ i s e. elim (pushed_from steps step i s e) [
    | inl old ↦ inl old
    | inr new ↦ inr (new.1, ap (path_at (paths ++ path ∷ [])) (new.0 ∙ sym count) ∙ get_or-append_seam paths path [] [])
  ];
}

more_paths : (steps : List Step) (paths : List (List EdgeId)) (step : Step) (path : List EdgeId) → ArePaths steps paths → path ≡ path_by paths step.before step.edge
    → IsBelow step.before (length steps) → ArePaths (steps ++ step ∷ []) (paths ++ path ∷ [])
more_paths steps paths step path p by below =
    let count = p.count in
    record {
      count = let left = length-append paths (path ∷ []) in let right = length-append steps (step ∷ []) in omega (arith, left, right, count);
      earlier = λ i s e. elim (pushed_from steps step i s e) [
        | inl old ↦ p.earlier i s old
        | inr new ↦ subst (λ z. IsBelow z.before i) new.1 (subst (λ n. IsBelow step.before n) (sym new.0) below)
      ];
      by = λ i s e. elim (pushed_from steps step i s e) [
        | inl old ↦
            let within = slice_get_within steps i s old in
            get_or_append_left paths (path ∷ []) [] i (omega arith) ∙ p.by i s old ∙ sym (path_by_stays paths path s.before s.edge i (omega arith) (p.earlier i s old))
        | inr new ↦
            let here : path_at (paths ++ path ∷ []) i ≡ path = ap (path_at (paths ++ path ∷ [])) (new.0 ∙ sym count) ∙ get_or-append_seam paths path [] [] in
            let there : path_by (paths ++ path ∷ []) step.before step.edge ≡ path_by paths step.before step.edge =
            path_by_stays paths path step.before step.edge (length steps) (omega arith) below in
            subst (λ z. path_at (paths ++ path ∷ []) i ≡ path_by (paths ++ path ∷ []) z.before z.edge) new.1 (here ∙ by ∙ sym there)
      ];
    }

none_there : (r j : ℕ) (places : List (Option ℕ)) → place_at places r ≡ None → place_at places r ≡ Some j → ⊥
none_there r j places none some = absurd (let is : (let o : Option ℕ = None in o) ≡ Some j = sym none ∙ some in cc)

-- what a place adds to the count of those that are free
abbrev weight : Option ℕ → ℕ
weight x = cond (is_none x) 1 0

taken : (edges : List Edge) (firsts : List ℕ) (f : FieldId) (cut : List ℕ) (steps : List Step) (places : List (Option ℕ)) (paths : List (List EdgeId))
    (k : ℕ) (before : Option ℕ) (edge : Edge) (path : List EdgeId) → AreFirsts edges firsts → IsSearch edges firsts f cut steps places paths
    → IsOffer edges f cut steps paths k before edge path → has cut k ≡ false → place_at places (get_or firsts k 0) ≡ None
    → IsSearch edges firsts f cut (steps ++ record { edge = edge_id k; before = before } ∷ []) (set places (get_or firsts k 0) (Some (length steps))) (paths ++ path ∷ [])
taken edges firsts f cut steps places paths k before edge path a s o free none =
    let r : ℕ = get_or firsts k 0 in
    let n : ℕ = length steps in
    let step : Step = record { edge = edge_id k; before = before } in
    let p = s.paths_are in
    let g = more_steps steps paths step path p.count in
    let long = length-append steps (step ∷ []) in
    let room : ℕ = count_by is_none places in
    let inside : r < length places = let known = a.inside k edge o.stands in let places_are = s.places_are in omega (arith, known, places_are) in
    let new_path : (i : ℕ) → i ≡ n → path_at (paths ++ path ∷ []) i ≡ path =
    λ i at. ap (path_at (paths ++ path ∷ [])) (at ∙ sym p.count) ∙ get_or-append_seam paths path [] [] in
    record {
      paths_are = more_paths steps paths step path p o.by o.below;
      valid = λ i t e. elim (pushed_from steps step i t e) [
        | inl old ↦ subst (λ q. IsStepTo edges f cut t q) (sym (g.paths_stay i (slice_get_within steps i t old))) (s.valid i t old)
        | inr new ↦
            let here : IsStepTo edges f cut step path = record { edge = edge; stands = o.stands; leads = o.leads; avoids = o.avoids free } in
            subst (λ z. IsStepTo edges f cut z (path_at (paths ++ path ∷ []) i)) new.1 (subst (λ q. IsStepTo edges f cut step q) (sym (new_path i new.0)) here)
      ];
      ascending = λ i j less within. elim (cases_lt j n) [
        | inl old ↦
            subst (λ q. IsBefore q (path_at (paths ++ path ∷ []) j)) (sym (g.paths_stay i (omega arith)))
            (subst (λ q. IsBefore (path_at paths i) q) (sym (g.paths_stay j old)) (s.ascending i j less old))
        | inr new ↦
            let at : j ≡ n = omega (arith, long) in
            subst (λ q. IsBefore q (path_at (paths ++ path ∷ []) j)) (sym (g.paths_stay i (omega arith)))
            (subst (λ q. IsBefore (path_at paths i) q) (sym (new_path j at)) (o.ahead i (omega arith)))
      ];
      places_are = length-set places r (Some n) ∙ s.places_are;
      listed = λ q j e. elim (cases_eq q r) [
        | inl same ↦
            let at : n ≡ j = some_is n j (sym (get_or-set_same places r (Some n) None inside) ∙ ap (place_at (set places r (Some n))) (sym same) ∙ e) in
            record { step = step; stands = ap (slice_get (steps ++ step ∷ [])) (sym at) ∙ pushed_new steps step; first = sym same }
        | inr other ↦
            let at = s.listed q j (sym (get_or-set_other places r q (Some n) None other) ∙ e) in
            record { step = at.step; stands = pushed_old steps step j at.step at.stands; first = at.first }
      ];
      found = λ j t e. elim (pushed_from steps step j t e) [
        | inl old ↦
            let was = s.found j t old in
            elim (cases_eq (get_or firsts t.edge.0 0) r) [
              | inl same ↦ absurd (none_there r j places none (ap (place_at places) (sym same) ∙ was))
              | inr other ↦ get_or-set_other places r (get_or firsts t.edge.0 0) (Some n) None other ∙ was
            ]
        | inr new ↦
            subst (λ z. place_at (set places r (Some n)) (get_or firsts z.edge.0 0) ≡ Some j) new.1
            (get_or-set_same places r (Some n) None inside ∙ ap Some (sym new.0))
      ];
      room =
          let sum = sum_by-set weight places r (Some n) None inside in
          let one : weight (get_or places r None) ≡ 1 = ap weight none in
          let was = s.room in
          omega (arith, sum, one, was, long);
    }

-- ---- both

pub offered : (edges : List Edge) (firsts : List ℕ) (f : FieldId) (cut : List ℕ) (marks : List Bool) (old new : Search) (paths : List (List EdgeId))
    (k : ℕ) (before : Option ℕ) (edge : Edge) (path : List EdgeId) → AreFirsts edges firsts → get_or marks k false ≡ has cut k
    → IsSearch edges firsts f cut old.steps.items old.places.items paths
    → IsOffer edges f cut old.steps.items paths k before edge path → Offers firsts marks old new k before
    → IsOffered edges firsts f cut old.steps.items new.steps.items new.places.items paths k (end_of edge) record { edge = edge_id k; before = before } path
offered edges firsts f cut marks old new paths k before edge path a mark s o offers =
    let step : Step = record { edge = edge_id k; before = before } in
    let r : ℕ = get_or firsts k 0 in
    let n : ℕ = length old.steps.items in
    elim offers [
      | inl passed ↦
          subst (λ z. IsOffered edges firsts f cut old.steps.items z new.places.items paths k (end_of edge) step path) (sym passed.steps)
          (subst (λ z. IsOffered edges firsts f cut old.steps.items old.steps.items z paths k (end_of edge) step path) (sym passed.places)
          record {
            paths_after = paths;
            search = s;
            grows = record { steps_stay = λ i t e. e; paths_stay = λ i less. refl; comes_from = λ i t e. inl e };
            reached = not_taken edges firsts f cut old.steps.items old.places.items paths k before edge path (get_or marks k false) a s o mark passed.why;
          })
      | inr is ↦
          subst (λ z. IsOffered edges firsts f cut old.steps.items z new.places.items paths k (end_of edge) step path) (sym is.steps)
          (subst (λ z. IsOffered edges firsts f cut old.steps.items (old.steps.items ++ step ∷ []) z paths k (end_of edge) step path) (sym is.places)
          record {
            paths_after = paths ++ path ∷ [];
            search = taken edges firsts f cut old.steps.items old.places.items paths k before edge path a s o (sym mark ∙ is.free) is.none;
            grows = more_steps old.steps.items paths step path s.paths_are.count;
            reached = λ free. record {
              at = n;
              step = step;
              stands = pushed_new old.steps.items step;
              edge = edge;
              edge_stands = o.stands;
              site = refl;
              least = inl (sym (ap (path_at (paths ++ path ∷ [])) (sym s.paths_are.count) ∙ get_or-append_seam paths path [] []));
            };
          })
    ]

-- A search that has followed its steps below a number has a step at most each path, or the next step is
-- at most the path. So the first step to a site of the goal has the least path.
use Rattle.std.proofs.Common.{◌≡◌, ℕ, ◌+◌, ◌<◌, ◌≤◌, ◌⊎◌, true, false, List, [], ◌∷◌, ◌++◌, length, Option, Some, None, slice_get, get_or, refl, sym, ap, subst, inl, inr, arith, ◌∙◌}
use Rattle.std.proofs.lemmas.Bool.{cases_lt, cases_order, both_ways}
use Rattle.std.proofs.lemmas.List.{length-append}
use Rattle.std.proofs.lemmas.Option.{slice_get_within, get_or_from_slice_get}
use Rattle.std.specs.Option.{option_and_then}
use Rattle.th_base.specs.IdSet.{has}
use Rattle.th_base.specs.declared.number.EdgeId.{EdgeId}
use Rattle.th_base.specs.declared.number.FieldId.{FieldId}
use Rattle.th_ir.specs.declared.graph.Edge.{Edge}
use Rattle.th_ir.specs.declared.graph.Edge.TheVariants.{Static}
use Rattle.th_paths.specs.declared.links.Links.{Links}
use Rattle.th_paths.specs.declared.search.Search.{Search}
use Rattle.th_paths.specs.declared.search.Step.{Step}
use Rattle.th_paths.specs.Links.{first_at, firsts_of, AreLinks}
use Rattle.th_paths.specs.Paths.{end_of, IsPath, begins, goes_on, Avoids, IsWay, IsLeastWay, TellsLeast, TellEachLeast}
use Rattle.th_paths.specs.Search.{path_at, place_at, IsReached, IsAtMost, IsFollowed, IsFollowedTo, MissBelow, Arrives, IsStopped, IsOver, Ends, StepsStay, IsNearest, TellsPath, site_place}
use Rattle.th_paths.proofs.Orders.{before_longer, at_most_before, at_most_trans, at_most_both}
use Rattle.th_paths.proofs.Places.{pushed_from, same_found, get_within, first_is, first_of_edge}

avoids_parts : (cut : List ℕ) (path : List EdgeId) (e : EdgeId) → Avoids cut (path ++ e ∷ []) → Avoids cut path × (has cut e.0 ≡ false)
avoids_parts cut [] e all = (tt, all.0)
avoids_parts cut (x ∷ path) e all = let more = avoids_parts cut path e all.1 in ((all.0, more.0), more.1)

-- a step below a number reaches the site by this path or one before it
pub record IsKnown (edges : List Edge) (steps : List Step) (paths : List (List EdgeId)) (n x : ℕ) (path : List EdgeId) : Type 0 where
  pub reached : IsReached edges steps paths x path
  pub below : reached.at < n

pub record IsAhead (steps : List Step) (paths : List (List EdgeId)) (n : ℕ) (path : List EdgeId) : Type 0 where
  pub inside : n < length steps
  pub least : IsAtMost (path_at paths n) path

known_or_ahead : (edges : List Edge) (firsts : List ℕ) (f : FieldId) (cut : List ℕ) (steps : List Step) (places : List (Option ℕ)) (n x : ℕ) (path : List EdgeId)
    → (w : IsFollowed edges firsts f cut steps places n) → IsReached edges steps w.paths x path → IsKnown edges steps w.paths n x path ⊎ IsAhead steps w.paths n path
known_or_ahead edges firsts f cut steps places n x path w r =
    let within = slice_get_within steps r.at r.step r.stands in
    elim (cases_order r.at n) [
      | inl same ↦ inr record { inside = omega (arith, same, within); least = subst (λ i. IsAtMost (path_at w.paths i) path) same r.least }
      | inr other ↦ elim other [
        | inl less ↦ inl record { reached = r; below = less }
        | inr more ↦ inr record {
          inside = omega (arith, within);
          least = at_most_trans (path_at w.paths n) (path_at w.paths r.at) path (inr (w.search.ascending n r.at more within)) r.least;
        }
      ]
    ]

pub each_path : (edges : List Edge) (firsts : List ℕ) (f : FieldId) (cut : List ℕ) (steps : List Step) (places : List (Option ℕ)) (n : ℕ) (path : List EdgeId) (x : ℕ)
    → (w : IsFollowed edges firsts f cut steps places n) → IsPath edges f path x → Avoids cut path → IsKnown edges steps w.paths n x path ⊎ IsAhead steps w.paths n path
each_path edges firsts f cut steps places n path x w (begins e s stands) avoids =
    known_or_ahead edges firsts f cut steps places n s.0 (e ∷ []) w (w.rooted e.0 s (slice_get_within edges e.0 (Static f s) stands) stands avoids.0)
each_path edges firsts f cut steps places n path x w (goes_on before y e edge leads stands starts) avoids =
    let parts = avoids_parts cut before e avoids in
    elim (each_path edges firsts f cut steps places n before y w leads parts.0) [
      | inl known ↦
          let r = known.reached in
          let onto = w.closed r.at r.step r.edge known.below r.stands r.edge_stands e.0 edge stands (starts ∙ ap Some (sym r.site)) parts.1 in
          let least = at_most_trans (path_at w.paths onto.at) (path_at w.paths r.at ++ e ∷ []) (before ++ e ∷ []) onto.least (at_most_both (path_at w.paths r.at) before e r.least) in
          known_or_ahead edges firsts f cut steps places n (end_of edge) (before ++ e ∷ []) w
          record { at = onto.at; step = onto.step; stands = onto.stands; edge = onto.edge; edge_stands = onto.edge_stands; site = onto.site; least = least }
      | inr ahead ↦ inr record {
        inside = ahead.inside;
        least = inr (at_most_before (path_at w.paths n) before (before ++ e ∷ []) ahead.least (before_longer before e));
      }
    ]

missed : (edges : List Edge) (steps : List Step) (paths : List (List EdgeId)) (goal : List ℕ) (n x : ℕ) (path : List EdgeId) → MissBelow edges steps goal n
    → IsKnown edges steps paths n x path → has goal x ≡ true → ⊥
missed edges steps paths goal n x path misses known arrives =
    let r = known.reached in
    both_ways (has goal x) (subst (λ y. has goal y ≡ false) r.site (misses r.at r.step r.edge known.below r.stands r.edge_stands)) arrives

-- the first step to a site of the goal has the least path
pub first_is_least : (edges : List Edge) (firsts : List ℕ) (f : FieldId) (goal cut : List ℕ) (steps : List Step) (places : List (Option ℕ)) (at : ℕ)
    → (w : IsFollowed edges firsts f cut steps places at) → MissBelow edges steps goal at → Arrives edges steps goal at → IsLeastWay edges f goal cut (path_at w.paths at)
first_is_least edges firsts f goal cut steps places at w misses hits =
    let v = w.search.valid at hits.step hits.stands in
    record {
      way = record {
        site = end_of v.edge;
        leads = v.leads;
        arrives = subst (λ z. has goal (end_of z) ≡ true) (same_found (slice_get edges hits.step.edge.0) hits.edge v.edge hits.edge_stands v.stands) hits.arrives;
        avoids = v.avoids;
      };
      least = λ other way. elim (each_path edges firsts f cut steps places at other way.site w way.leads way.avoids) [
        | inl known ↦ absurd (missed edges steps w.paths goal at way.site other misses known way.arrives)
        | inr ahead ↦ ahead.least
      ];
    }

-- where no step is to a site of the goal there is no path
pub none_is_missed : (edges : List Edge) (firsts : List ℕ) (f : FieldId) (goal cut : List ℕ) (steps : List Step) (places : List (Option ℕ)) (path : List EdgeId)
    → IsFollowed edges firsts f cut steps places (length steps) → MissBelow edges steps goal (length steps) → IsWay edges f goal cut path → ⊥
none_is_missed edges firsts f goal cut steps places path w misses way =
    elim (each_path edges firsts f cut steps places (length steps) path way.site w way.leads way.avoids) [
      | inl known ↦ missed edges steps w.paths goal (length steps) way.site path misses known way.arrives
      | inr ahead ↦ let inside = ahead.inside in absurd (omega (arith, inside))
    ]

-- ---- by the table

-- the table has the place of the site of each step
placed : (edges : List Edge) (firsts : List ℕ) (f : FieldId) (cut : List ℕ) (steps : List Step) (places : List (Option ℕ)) (n j : ℕ) (s : Step) (edge : Edge)
    → firsts ≡ firsts_of edges → IsFollowed edges firsts f cut steps places n → slice_get steps j ≡ Some s → slice_get edges s.edge.0 ≡ Some edge
    → site_place edges places (end_of edge) ≡ Some j
placed edges firsts f cut steps places n j s edge known w stands edge_stands =
    ap (option_and_then (place_at places)) (first_of_edge edges s.edge.0 edge edge_stands)
    ∙ ap (λ l. place_at places (get_or l s.edge.0 0)) (sym known) ∙ w.search.found j s stands

-- and where the table has a place, a step to the site stands there
arrives_by : (edges : List Edge) (firsts : List ℕ) (f : FieldId) (goal cut : List ℕ) (steps : List Step) (places : List (Option ℕ)) (n x at : ℕ) (o : Option ℕ)
    → firsts ≡ firsts_of edges → IsFollowed edges firsts f cut steps places n → first_at edges x ≡ o → option_and_then (place_at places) o ≡ Some at → has goal x ≡ true
    → Arrives edges steps goal at
arrives_by edges firsts f goal cut steps places n x at None known w first place member = absurd cc
arrives_by edges firsts f goal cut steps places n x at (Some r) known w first place member =
    let found = w.search.listed r at place in
    let v = w.search.valid at found.step found.stands in
    let here = first_is edges x r first in
    let by_edge : first_at edges (end_of v.edge) ≡ Some r =
    first_of_edge edges found.step.edge.0 v.edge v.stands ∙ ap (λ l. Some (get_or l found.step.edge.0 0)) (sym known) ∙ ap Some found.first in
    let there = first_is edges (end_of v.edge) r by_edge in
    let site : end_of v.edge ≡ x =
    sym there.ends ∙ ap end_of (same_found (slice_get edges r) there.edge here.edge there.stands here.stands) ∙ here.ends in
    record { step = found.step; stands = found.stands; edge = v.edge; edge_stands = v.stands; arrives = ap (has goal) site ∙ member }

at_most_at : (edges : List Edge) (firsts : List ℕ) (f : FieldId) (cut : List ℕ) (steps : List Step) (places : List (Option ℕ)) (n i j : ℕ)
    → (w : IsFollowed edges firsts f cut steps places n) → i ≤ j → j < length steps → IsAtMost (path_at w.paths i) (path_at w.paths j)
at_most_at edges firsts f cut steps places n i j w le within =
    elim (cases_order i j) [
      | inl same ↦ inl (ap (path_at w.paths) (sym same))
      | inr other ↦ elim other [ inl less ↦ inr (w.search.ascending i j less within) | inr more ↦ absurd (omega arith) ]
    ]

pub nearest_is_least : (edges : List Edge) (firsts : List ℕ) (f : FieldId) (goal cut : List ℕ) (steps : List Step) (places : List (Option ℕ)) (at : ℕ)
    → firsts ≡ firsts_of edges → (w : IsFollowed edges firsts f cut steps places (length steps)) → IsNearest edges places goal (Some at)
    → IsLeastWay edges f goal cut (path_at w.paths at)
nearest_is_least edges firsts f goal cut steps places at known w near =
    let site = near.0 in
    let hits = arrives_by edges firsts f goal cut steps places (length steps) site.0 at (first_at edges site.0) known w refl site.2 site.1 in
    let v = w.search.valid at hits.step hits.stands in
    record {
      way = record {
        site = end_of v.edge;
        leads = v.leads;
        arrives = subst (λ z. has goal (end_of z) ≡ true) (same_found (slice_get edges hits.step.edge.0) hits.edge v.edge hits.edge_stands v.stands) hits.arrives;
        avoids = v.avoids;
      };
      least = λ other way. elim (each_path edges firsts f cut steps places (length steps) other way.site w way.leads way.avoids) [
        | inl to ↦
            let r = to.reached in
            let place = placed edges firsts f cut steps places (length steps) r.at r.step r.edge known w r.stands r.edge_stands in
            let le = near.1 way.site r.at way.arrives (ap (site_place edges places) (sym r.site) ∙ place) in
            at_most_trans (path_at w.paths at) (path_at w.paths r.at) other
            (at_most_at edges firsts f cut steps places (length steps) at r.at w le (slice_get_within steps r.at r.step r.stands)) r.least
        | inr ahead ↦ let inside = ahead.inside in absurd (omega (arith, inside))
      ];
    }

pub none_is_near : (edges : List Edge) (firsts : List ℕ) (f : FieldId) (goal cut : List ℕ) (steps : List Step) (places : List (Option ℕ)) (path : List EdgeId)
    → firsts ≡ firsts_of edges → IsFollowed edges firsts f cut steps places (length steps) → IsNearest edges places goal None → IsWay edges f goal cut path → ⊥
none_is_near edges firsts f goal cut steps places path known w near way =
    elim (each_path edges firsts f cut steps places (length steps) path way.site w way.leads way.avoids) [
      | inl to ↦
          let r = to.reached in
          let place = placed edges firsts f cut steps places (length steps) r.at r.step r.edge known w r.stands r.edge_stands in
          absurd (let no : (let o : Option ℕ = None in o) ≡ Some r.at = sym (near way.site way.arrives) ∙ ap (site_place edges places) (sym r.site) ∙ place in cc)
      | inr ahead ↦ let inside = ahead.inside in absurd (omega (arith, inside))
    ]

-- ---- with the path read back

pub stopped_tells : (links : Links) (f : FieldId) (goal cut : List ℕ) (s : Search) (at : ℕ) (path : List EdgeId) → IsStopped links f goal cut s at
    → TellsPath s.steps.items at path → IsLeastWay links.edges f goal cut path
stopped_tells links f goal cut s at path h tells =
    let w = h.followed in
    subst (λ p. IsLeastWay links.edges f goal cut p) (sym (tells w.paths w.search.paths_are))
    (first_is_least links.edges links.firsts.items f goal cut s.steps.items s.places.items at w h.misses h.hits)

pub over_tells : (links : Links) (f : FieldId) (goal cut : List ℕ) (s : Search) → IsOver links f goal cut s → TellsLeast links.edges f goal cut None
over_tells links f goal cut s h = λ path way.
    none_is_missed links.edges links.firsts.items f goal cut s.steps.items s.places.items path h.followed h.misses way

pub near_tells : (links : Links) (f : FieldId) (goal cut : List ℕ) (s : Search) (at : ℕ) (path : List EdgeId) → AreLinks links
    → IsFollowedTo links f cut s (length s.steps.items) → IsNearest links.edges s.places.items goal (Some at)
    → TellsPath s.steps.items at path → IsLeastWay links.edges f goal cut path
near_tells links f goal cut s at path a w near tells =
    subst (λ p. IsLeastWay links.edges f goal cut p) (sym (tells w.paths w.search.paths_are))
    (nearest_is_least links.edges links.firsts.items f goal cut s.steps.items s.places.items at a.firsts w near)

pub none_tells : (links : Links) (f : FieldId) (goal cut : List ℕ) (s : Search) → AreLinks links
    → IsFollowedTo links f cut s (length s.steps.items) → IsNearest links.edges s.places.items goal None → TellsLeast links.edges f goal cut None
none_tells links f goal cut s a w near = λ path way.
    none_is_near links.edges links.firsts.items f goal cut s.steps.items s.places.items path a.firsts w near way

-- a nearest place is that of a step
pub near_inside : (links : Links) (f : FieldId) (goal cut : List ℕ) (s : Search) (at : ℕ) → AreLinks links
    → IsFollowedTo links f cut s (length s.steps.items) → IsNearest links.edges s.places.items goal (Some at) → at < length s.steps.items
near_inside links f goal cut s at a w near =
    let site = near.0 in
    let hits = arrives_by links.edges links.firsts.items f goal cut s.steps.items s.places.items (length s.steps.items) site.0 at (first_at links.edges site.0) a.firsts w refl site.2 site.1 in
    slice_get_within s.steps.items at hits.step hits.stands

-- a search with an empty goal doesn't stop
pub goes_to_end : (links : Links) (f : FieldId) (cut : List ℕ) (s : Search) (o : Option ℕ) → Ends links f [] cut s o → IsFollowedTo links f cut s (length s.steps.items)
goes_to_end links f cut s None h = h.followed
goes_to_end links f cut s (Some at) h = let e = h.hits.arrives in absurd cc

-- one goal more has its least path
pub each_more : (edges : List Edge) (f : FieldId) (goals : List (List ℕ)) (cut : List ℕ) (found : List (Option (List EdgeId))) (goal : List ℕ)
    (path : Option (List EdgeId)) → TellEachLeast edges f goals cut found → TellsLeast edges f goal cut path
    → TellEachLeast edges f (goals ++ goal ∷ []) cut (found ++ path ∷ [])
each_more edges f goals cut found goal path told tells =
    let count = told.count in
    record {
      count = let left = length-append found (path ∷ []) in let right = length-append goals (goal ∷ []) in omega (arith, left, right, count);
      each = λ i g p one two. elim (pushed_from goals goal i g one) [
        | inl old ↦ elim (pushed_from found path i p two) [
          | inl was ↦ told.each i g p old was
          | inr new ↦ let less = slice_get_within goals i g old in let at = new.0 in absurd (omega (arith, less, at, count))
        ]
        | inr new ↦ elim (pushed_from found path i p two) [
          | inl was ↦ let less = slice_get_within found i p was in let at = new.0 in absurd (omega (arith, less, at, count))
          | inr is ↦ subst (λ o. TellsLeast edges f g cut o) is.1 (subst (λ l. TellsLeast edges f l cut path) new.1 tells)
        ]
      ];
    }

-- ---- as a search goes on

-- the edge of a step is one of the graph's
pub step_inside : (edges : List Edge) (firsts : List ℕ) (f : FieldId) (cut : List ℕ) (steps : List Step) (places : List (Option ℕ)) (n at : ℕ) (d : Step)
    → IsFollowed edges firsts f cut steps places n → at < length steps → (get_or steps at d).edge.0 < length edges
step_inside edges firsts f cut steps places n at d w less =
    let found = get_within steps at less in
    let v = w.search.valid at found.0 found.1 in
    subst (λ s. s.edge.0 < length edges) (sym (get_or_from_slice_get steps at found.0 d found.1)) (slice_get_within edges found.0.edge.0 v.edge v.stands)

pub hits_at : (edges : List Edge) (firsts : List ℕ) (f : FieldId) (goal cut : List ℕ) (steps : List Step) (places : List (Option ℕ)) (n at : ℕ) (d : Step) (e : Edge)
    → IsFollowed edges firsts f cut steps places n → at < length steps → has goal (end_of (get_or edges (get_or steps at d).edge.0 e)) ≡ true → Arrives edges steps goal at
hits_at edges firsts f goal cut steps places n at d e w less test =
    let found = get_within steps at less in
    let v = w.search.valid at found.0 found.1 in
    let edge : get_or edges (get_or steps at d).edge.0 e ≡ v.edge =
    ap (λ s. get_or edges s.edge.0 e) (get_or_from_slice_get steps at found.0 d found.1) ∙ get_or_from_slice_get edges found.0.edge.0 v.edge e v.stands in
    record { step = found.0; stands = found.1; edge = v.edge; edge_stands = v.stands; arrives = ap (λ z. has goal (end_of z)) (sym edge) ∙ test }

pub misses_more : (edges : List Edge) (goal : List ℕ) (steps after : List Step) (at : ℕ) (d : Step) (e : Edge) → StepsStay steps after → MissBelow edges steps goal at
    → at < length steps → has goal (end_of (get_or edges (get_or steps at d).edge.0 e)) ≡ false → MissBelow edges after goal (at + 1)
misses_more edges goal steps after at d e stay misses inside test i s edge less stands edge_stands =
    let found = get_within steps i (omega arith) in
    let same : found.0 ≡ s = same_found (slice_get after i) found.0 s (stay i found.0 found.1) stands in
    let was : slice_get steps i ≡ Some s = found.1 ∙ ap Some same in
    elim (cases_lt i at) [
      | inl old ↦ misses i s edge old was edge_stands
      | inr last ↦
          let is : i ≡ at = omega arith in
          let step : get_or steps at d ≡ s = get_or_from_slice_get steps at s d (subst (λ k. slice_get steps k ≡ Some s) is was) in
          let read : get_or edges (get_or steps at d).edge.0 e ≡ edge = ap (λ z. get_or edges z.edge.0 e) step ∙ get_or_from_slice_get edges s.edge.0 edge e edge_stands in
          ap (λ z. has goal (end_of z)) (sym read) ∙ test
    ]

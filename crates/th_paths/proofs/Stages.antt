-- The stages of a search: the edges of the static field, then those from the site of each step in turn.
use Rattle.std.proofs.Common.{◌≡◌, ℕ, ◌+◌, ◌<◌, suc, zero, Bool, true, false, cond, List, [], ◌∷◌, ◌++◌, length, Option, Some, None, slice_get, get_or, replicate, refl, sym, ap, subst, inl, inr, arith, ◌∙◌}
use Rattle.std.specs.Prelude.{is_none}
use Rattle.std.proofs.lemmas.Bool.{cases_lt, both_ways, eqb-true, eq-eqb}
use Rattle.std.proofs.lemmas.List.{length-append, length-replicate}
use Rattle.std.proofs.lemmas.List.Folds.{sum_by-replicate}
use Rattle.std.proofs.lemmas.Option.{slice_get_within}
use Rattle.th_base.specs.IdSet.{has}
use Rattle.th_base.specs.declared.number.EdgeId.{EdgeId}
use Rattle.th_base.specs.declared.number.FieldId.{FieldId}
use Rattle.th_base.specs.declared.number.SiteId.{SiteId}
use Rattle.th_ir.specs.declared.graph.Edge.{Edge}
use Rattle.th_ir.specs.declared.graph.Edge.TheVariants.{Static, Field, Element}
use Rattle.th_paths.specs.declared.search.Search.{Search}
use Rattle.th_paths.specs.declared.search.Step.{Step}
use Rattle.th_paths.specs.Paths.{end_of, start_of, begins, goes_on, Avoids, IsBefore}
use Rattle.th_paths.specs.Search.{is_static_of, edge_id, path_at, path_by, place_at, IsBelow, IsSearch, IsReached, IsBegun, IsFollowed, IsFollowing, IsAlong, ComeBefore, StepsStay, Offers}
use Rattle.th_paths.proofs.Orders.{before_both, before_last, before_two}
use Rattle.th_paths.proofs.Places.{same_found, get_within, AreFirsts}
use Rattle.th_paths.proofs.Offered.{Grows, reached_stays, IsOffer, offered}

-- ---- nothing yet

place_of_none : (n r : ℕ) → place_at (replicate n None) r ≡ None
place_of_none zero r = refl
place_of_none (suc n) zero = refl
place_of_none (suc n) (suc r) = place_of_none n r

pub begun_start : (edges : List Edge) (firsts : List ℕ) (f : FieldId) (cut : List ℕ) → IsBegun edges firsts f cut [] (replicate (length edges) None) 0
begun_start edges firsts f cut = record {
  paths = [];
  search = record {
    paths_are = record { count = refl; earlier = λ i s e. absurd cc; by = λ i s e. absurd cc };
    valid = λ i s e. absurd cc;
    ascending = λ i j less within. absurd (omega arith);
    places_are = length-replicate (length edges) None;
    listed = λ r j e. absurd (let is : (let o : Option ℕ = None in o) ≡ Some j = sym (place_of_none (length edges) r) ∙ e in cc);
    found = λ j s e. absurd cc;
    room = let sum = sum_by-replicate (λ (x : Option ℕ). cond (is_none x) 1 0) (length edges) None in omega (arith, sum);
  };
  rooted = λ k x less. absurd (omega arith);
  roots = λ i s e. absurd cc;
  below = λ i s e. absurd cc;
}

-- ---- the edges of the static field

-- an edge of the field, by the test
pub static_is : (f : FieldId) (edge : Edge) → is_static_of f edge ≡ true → (x : SiteId) × (edge ≡ Static f x)
static_is f (Static g x) e = let make : ℕ → FieldId = λ n. record { 0 = n } in (x, ap (λ z. Static z x) (ap make (eqb-true g.0 f.0 e)))
static_is f (Field x g y) e = absurd cc
static_is f (Element x y) e = absurd cc

pub static_is_not : (f : FieldId) (edge : Edge) (x : SiteId) → is_static_of f edge ≡ false → edge ≡ Static f x → ⊥
static_is_not f edge x e is = both_ways (is_static_of f edge) e (ap (is_static_of f) is ∙ eq-eqb f.0 f.0 refl)

root_path : (paths : List (List EdgeId)) (before : Option ℕ) (e : EdgeId) → IsBelow before 0 → path_by paths before e ≡ e ∷ []
root_path paths None e below = refl
root_path paths (Some i) e below = absurd (omega arith)

pub begun_more : (edges : List Edge) (firsts : List ℕ) (f : FieldId) (cut : List ℕ) (marks : List Bool) (old new : Search) (k : ℕ) (x : SiteId)
    → AreFirsts edges firsts → get_or marks k false ≡ has cut k → slice_get edges k ≡ Some (Static f x)
    → IsBegun edges firsts f cut old.steps.items old.places.items k → Offers firsts marks old new k None
    → IsBegun edges firsts f cut new.steps.items new.places.items (k + 1)
begun_more edges firsts f cut marks old new k x a mark stands b offers =
    let o : IsOffer edges f cut old.steps.items b.paths k None (Static f x) (edge_id k ∷ []) = record {
      stands = stands;
      by = refl;
      below = tt;
      leads = begins (edge_id k) x stands;
      avoids = λ free. (free, tt);
      ahead = λ j less.
          let at = get_within old.steps.items j less in
          let path = b.search.paths_are.by j at.0 at.1 ∙ root_path b.paths at.0.before at.0.edge (b.roots j at.0 at.1) in
          subst (λ p. IsBefore p (edge_id k ∷ [])) (sym path) (inr (refl, inl (b.below j at.0 at.1)));
    } in
    let m = offered edges firsts f cut marks old new b.paths k None (Static f x) (edge_id k ∷ []) a mark b.search o offers in
    let step : Step = record { edge = edge_id k; before = None } in
    record {
      paths = m.paths_after;
      search = m.search;
      rooted = λ j y less e free. elim (cases_lt j k) [
        | inl old_one ↦ reached_stays edges old.steps.items new.steps.items b.paths m.paths_after step (edge_id k ∷ []) y.0 (edge_id j ∷ []) m.grows (b.rooted j y old_one e free)
        | inr here ↦
            let at : j ≡ k = omega arith in
            let site : x.0 ≡ y.0 = ap end_of (same_found (slice_get edges k) (Static f x) (Static f y) stands (subst (λ i. slice_get edges i ≡ Some (Static f y)) at e)) in
            subst (λ z. IsReached edges new.steps.items m.paths_after z (edge_id j ∷ [])) site
            (subst (λ i. IsReached edges new.steps.items m.paths_after x.0 (edge_id i ∷ [])) (sym at) (m.reached (subst (λ i. has cut i ≡ false) at free)))
      ];
      roots = λ i s e. elim (m.grows.comes_from i s e) [ inl was ↦ b.roots i s was | inr is ↦ subst (λ z. IsBelow z.before 0) is.0 tt ];
      below = λ i s e. elim (m.grows.comes_from i s e) [
        | inl was ↦ let less = b.below i s was in omega (arith, less)
        | inr is ↦ let here : k < k + 1 = omega arith in subst (λ z. z.edge.0 < k + 1) is.0 here
      ];
    }

-- the edge is none of the static field's
pub begun_past : (edges : List Edge) (firsts : List ℕ) (f : FieldId) (cut : List ℕ) (steps : List Step) (places : List (Option ℕ)) (k : ℕ)
    → ((x : SiteId) → slice_get edges k ≡ Some (Static f x) → ⊥) → IsBegun edges firsts f cut steps places k → IsBegun edges firsts f cut steps places (k + 1)
begun_past edges firsts f cut steps places k other b = record {
  paths = b.paths;
  search = b.search;
  rooted = λ j x less e free. elim (cases_lt j k) [
    | inl old_one ↦ b.rooted j x old_one e free
    | inr here ↦ let at : j ≡ k = omega arith in absurd (other x (subst (λ i. slice_get edges i ≡ Some (Static f x)) at e))
  ];
  roots = b.roots;
  below = λ i s e. let less = b.below i s e in omega (arith, less);
}

pub followed_start : (edges : List Edge) (firsts : List ℕ) (f : FieldId) (cut : List ℕ) (steps : List Step) (places : List (Option ℕ))
    → IsBegun edges firsts f cut steps places (length edges) → IsFollowed edges firsts f cut steps places 0
followed_start edges firsts f cut steps places b = record {
  paths = b.paths;
  search = b.search;
  rooted = b.rooted;
  closed = λ i s edge less. absurd (omega arith);
  earlier = b.roots;
  within = omega arith;
}

-- ---- the edges from a step's site

avoids_more : (cut : List ℕ) (path : List EdgeId) (e : EdgeId) → Avoids cut path → has cut e.0 ≡ false → Avoids cut (path ++ e ∷ [])
avoids_more cut [] e all free = (free, tt)
avoids_more cut (x ∷ path) e all free = (all.0, avoids_more cut path e all.1 free)

path_is_long : (paths : List (List EdgeId)) (before : Option ℕ) (e : EdgeId) → 0 < length (path_by paths before e)
path_is_long paths None e = omega arith
path_is_long paths (Some i) e = let long = length-append (path_at paths i) (e ∷ []) in omega (arith, long)

below_more : (before : Option ℕ) (n : ℕ) → IsBelow before n → IsBelow before (n + 1)
below_more None n below = tt
below_more (Some i) n below = omega arith

-- each step comes before what follows the next one
before_next : (edges : List Edge) (firsts : List ℕ) (f : FieldId) (cut : List ℕ) (steps : List Step) (places : List (Option ℕ)) (paths : List (List EdgeId))
    (n j k : ℕ) → IsSearch edges firsts f cut steps places paths → ComeBefore steps n → n < length steps → j < length steps
    → IsBefore (path_at paths j) (path_at paths n ++ edge_id k ∷ [])
before_next edges firsts f cut steps places paths n j k s earlier inside less =
    let at = get_within steps j less in
    let next = get_within steps n inside in
    let long : 0 < length (path_at paths n) = subst (λ p. 0 < length p) (sym (s.paths_are.by n next.0 next.1)) (path_is_long paths next.0.before next.0.edge) in
    subst (λ p. IsBefore p (path_at paths n ++ edge_id k ∷ [])) (sym (s.paths_are.by j at.0 at.1)) (by_before at.0.before at.0.edge long (earlier j at.0 at.1))
  where
    by_before : (before : Option ℕ) (e : EdgeId) → 0 < length (path_at paths n) → IsBelow before n → IsBefore (path_by paths before e) (path_at paths n ++ edge_id k ∷ [])
    by_before None e long below = before_two e (edge_id k) (path_at paths n) long
    by_before (Some i) e long below = before_both (path_at paths i) (path_at paths n) e (edge_id k) (s.ascending i n below inside)

pub following_start : (edges : List Edge) (firsts : List ℕ) (f : FieldId) (cut : List ℕ) (steps : List Step) (places : List (Option ℕ)) (n e : ℕ) (row : List ℕ)
    → IsFollowed edges firsts f cut steps places n → IsAlong steps n e → IsFollowing edges firsts f cut steps places n e row 0
following_start edges firsts f cut steps places n e row w along = record {
  paths = w.paths;
  next = along;
  search = w.search;
  rooted = w.rooted;
  closed = w.closed;
  earlier = λ i s stands. below_more s.before n (w.earlier i s stands);
  here = λ m k next less. absurd (omega arith);
  ahead = λ j m k less past stands. before_next edges firsts f cut steps places w.paths n j k w.search w.earlier (slice_get_within steps n along.step along.stands) less;
}

was_there : (steps after : List Step) (paths paths_after : List (List EdgeId)) (step : Step) (path : List EdgeId) (i : ℕ) (s : Step)
    → Grows steps after paths paths_after step path → i < length steps → slice_get after i ≡ Some s → slice_get steps i ≡ Some s
was_there steps after paths paths_after step path i s g less e =
    let at = get_within steps i less in
    at.1 ∙ ap Some (same_found (slice_get after i) at.0 s (g.steps_stay i at.0 at.1) e)

pub record Follows (edges : List Edge) (firsts : List ℕ) (f : FieldId) (cut : List ℕ) (old new : Search) (n e : ℕ) (row : List ℕ) (t : ℕ) : Type 0 where
  pub following : IsFollowing edges firsts f cut new.steps.items new.places.items n e row t
  pub stay : StepsStay old.steps.items new.steps.items

pub following_more : (edges : List Edge) (firsts : List ℕ) (f : FieldId) (cut : List ℕ) (marks : List Bool) (old new : Search) (n e : ℕ) (row : List ℕ) (t k : ℕ)
    (from next : Edge) → AreFirsts edges firsts → get_or marks k false ≡ has cut k → slice_get edges e ≡ Some from → slice_get edges k ≡ Some next
    → start_of next ≡ Some (end_of from) → slice_get row t ≡ Some k
    → ((i j a b : ℕ) → i < j → slice_get row i ≡ Some a → slice_get row j ≡ Some b → a < b)
    → IsFollowing edges firsts f cut old.steps.items old.places.items n e row t → Offers firsts marks old new k (Some n)
    → Follows edges firsts f cut old new n e row (t + 1)
following_more edges firsts f cut marks old new n e row t k from next a mark from_stands stands starts listed ascend w offers =
    let steps : List Step = old.steps.items in
    let after : List Step = new.steps.items in
    let path : List EdgeId = path_at w.paths n ++ edge_id k ∷ [] in
    let step : Step = record { edge = edge_id k; before = Some n } in
    let along = w.next in
    let inside : n < length steps = slice_get_within steps n along.step along.stands in
    let v = w.search.valid n along.step along.stands in
    let site : end_of v.edge ≡ end_of from =
    ap end_of (same_found (slice_get edges e) v.edge from (ap (slice_get edges) (sym along.edge) ∙ v.stands) from_stands) in
    let o : IsOffer edges f cut steps w.paths k (Some n) next path = record {
      stands = stands;
      by = refl;
      below = inside;
      leads = goes_on (path_at w.paths n) (end_of v.edge) (edge_id k) next v.leads stands (starts ∙ ap Some (sym site));
      avoids = λ free. avoids_more cut (path_at w.paths n) (edge_id k) v.avoids free;
      ahead = λ j less. w.ahead j t k less (omega arith) listed;
    } in
    let m = offered edges firsts f cut marks old new w.paths k (Some n) next path a mark w.search o offers in
    let g = m.grows in
    let stays : (x : ℕ) (to : List EdgeId) → IsReached edges steps w.paths x to → IsReached edges after m.paths_after x to =
    λ x to r. reached_stays edges steps after w.paths m.paths_after step path x to g r in
    let here_stays : path_at m.paths_after n ≡ path_at w.paths n = g.paths_stay n inside in
    record {
      following = record {
        paths = m.paths_after;
        next = record { step = along.step; stands = g.steps_stay n along.step along.stands; edge = along.edge };
        search = m.search;
        rooted = λ j x less at free. stays x.0 (edge_id j ∷ []) (w.rooted j x less at free);
        closed = λ i s edge less at edge_at q onto onto_at start free.
            let within : i < length steps = omega arith in
            subst (λ p. IsReached edges after m.paths_after (end_of onto) (p ++ edge_id q ∷ [])) (sym (g.paths_stay i within))
            (stays (end_of onto) (path_at w.paths i ++ edge_id q ∷ [])
            (w.closed i s edge less (was_there steps after w.paths m.paths_after step path i s g within at) edge_at q onto onto_at start free));
        earlier = λ i s at. elim (g.comes_from i s at) [
          | inl was ↦ w.earlier i s was
          | inr is ↦ let less : n < n + 1 = omega arith in subst (λ z. IsBelow z.before (n + 1)) is.0 less
        ];
        here = λ i q onto less at onto_at free. subst (λ p. IsReached edges after m.paths_after (end_of onto) (p ++ edge_id q ∷ [])) (sym here_stays)
            (elim (cases_lt i t) [
              | inl old_one ↦ stays (end_of onto) (path_at w.paths n ++ edge_id q ∷ []) (w.here i q onto old_one at onto_at free)
              | inr last ↦
                  let is : i ≡ t = omega arith in
                  let same : k ≡ q = same_found (slice_get row t) k q listed (subst (λ j. slice_get row j ≡ Some q) is at) in
                  let edge : next ≡ onto = same_found (slice_get edges q) next onto (subst (λ j. slice_get edges j ≡ Some next) same stands) onto_at in
                  subst (λ z. IsReached edges after m.paths_after (end_of z) (path_at w.paths n ++ edge_id q ∷ [])) edge
                  (subst (λ j. IsReached edges after m.paths_after (end_of next) (path_at w.paths n ++ edge_id j ∷ [])) same (m.reached (subst (λ j. has cut j ≡ false) (sym same) free)))
            ]);
        ahead = λ j i q less past at. subst (λ p. IsBefore (path_at m.paths_after j) (p ++ edge_id q ∷ [])) (sym here_stays)
            (let found = get_within after j less in
            elim (g.comes_from j found.0 found.1) [
              | inl was ↦
                  let within = slice_get_within steps j found.0 was in
                  subst (λ p. IsBefore p (path_at w.paths n ++ edge_id q ∷ [])) (sym (g.paths_stay j within)) (w.ahead j i q within (omega arith) at)
              | inr is ↦
                  subst (λ p. IsBefore p (path_at w.paths n ++ edge_id q ∷ [])) (sym is.1)
                  (before_last (path_at w.paths n) (edge_id k) (edge_id q) (ascend t i k q (omega arith) listed at))
            ]);
      };
      stay = g.steps_stay;
    }

pub following_end : (edges : List Edge) (firsts : List ℕ) (f : FieldId) (cut : List ℕ) (steps : List Step) (places : List (Option ℕ)) (n e : ℕ) (row : List ℕ) (from : Edge)
    → slice_get edges e ≡ Some from
    → ((k : ℕ) (next : Edge) → slice_get edges k ≡ Some next → start_of next ≡ Some (end_of from) → (m : ℕ) × (slice_get row m ≡ Some k))
    → IsFollowing edges firsts f cut steps places n e row (length row) → IsFollowed edges firsts f cut steps places (n + 1)
following_end edges firsts f cut steps places n e row from from_stands all w =
    let along = w.next in
    let inside = slice_get_within steps n along.step along.stands in
    record {
      paths = w.paths;
      search = w.search;
      rooted = w.rooted;
      closed = λ i s edge less at edge_at k next stands start free. elim (cases_lt i n) [
        | inl old_one ↦ w.closed i s edge old_one at edge_at k next stands start free
        | inr last ↦
            let is : i ≡ n = omega arith in
            let step : along.step ≡ s = same_found (slice_get steps n) along.step s along.stands (subst (λ j. slice_get steps j ≡ Some s) is at) in
            let number : s.edge.0 ≡ e = ap (λ z. z.edge.0) (sym step) ∙ along.edge in
            let same : edge ≡ from = same_found (slice_get edges e) edge from (ap (slice_get edges) (sym number) ∙ edge_at) from_stands in
            let found = all k next stands (start ∙ ap (λ z. Some (end_of z)) same) in
            subst (λ j. IsReached edges steps w.paths (end_of next) (path_at w.paths j ++ edge_id k ∷ [])) (sym is)
            (w.here found.0 k next (slice_get_within row found.0 k found.1) found.1 stands free)
      ];
      earlier = w.earlier;
      within = omega arith;
    }

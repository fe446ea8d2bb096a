-- The row of the next step's site, followed edge by edge.
use Rattle.std.proofs.Common.{◌≡◌, ℕ, ◌+◌, ◌<◌, Bool, List, length, Some, slice_get, get_or, refl, sym, ap, subst, ◌∙◌}
use Rattle.std.proofs.lemmas.Option.{slice_get_within, get_or_from_slice_get}
use Rattle.std.specs.Option.{unwrap_or}
use Rattle.std.proofs.lemmas.List.{length-map}
use Rattle.th_base.specs.declared.number.FieldId.{FieldId}
use Rattle.th_ir.specs.declared.graph.Edge.{Edge}
use Rattle.th_paths.specs.declared.links.Links.{Links}
use Rattle.th_paths.specs.declared.search.Search.{Search}
use Rattle.th_paths.specs.declared.search.Step.{Step}
use Rattle.th_paths.specs.Links.{AreLinks, first_at, row_of, row_at, follows}
use Rattle.th_paths.specs.Paths.{end_of, start_of}
use Rattle.th_paths.specs.Search.{AreMarks, IsFollowedTo, IsInRow, Offers, StepsStay}
use Rattle.th_paths.proofs.Places.{are_firsts, first_of_edge, get_within, in_row, to_row, places_ascend}
use Rattle.th_paths.proofs.Stages.{following_start, following_more, following_end}

pub firsts_long : (links : Links) → AreLinks links → length links.firsts.items ≡ length links.edges
firsts_long links a = ap (λ l. length l) a.firsts ∙ length-map links.edges (λ e. unwrap_or (first_at links.edges (end_of e)) 0)

pub row_start : (links : Links) (f : FieldId) (cut : List ℕ) (s : Search) (n : ℕ) (d : Step) (row : List ℕ) → AreLinks links → IsFollowedTo links f cut s n
    → n < length s.steps.items → row ≡ row_at links.out.items (get_or links.firsts.items (get_or s.steps.items n d).edge.0 0) → IsInRow links f cut s n row 0
row_start links f cut s n d row a w inside row_is =
    let found = get_within s.steps.items n inside in
    let v = w.search.valid n found.0 found.1 in
    let step : get_or s.steps.items n d ≡ found.0 = get_or_from_slice_get s.steps.items n found.0 d found.1 in
    record {
      edge = found.0.edge.0;
      from = v.edge;
      stands = v.stands;
      row_is = row_is ∙ ap (λ z. row_at links.out.items (get_or links.firsts.items z.edge.0 0)) step ∙ a.rows (get_or links.firsts.items found.0.edge.0 0);
      following = following_start links.edges links.firsts.items f cut s.steps.items s.places.items n found.0.edge.0 row w record { step = found.0; stands = found.1; edge = refl };
    }

-- the edge at a place of the row
pub record IsNext (links : Links) (from k : ℕ) : Type 0 where
  pub edge : Edge
  pub stands : slice_get links.edges k ≡ Some edge
  pub starts : start_of edge ≡ Some from
  pub inside : k < length links.edges
  pub first : get_or links.firsts.items k 0 < length links.edges

next_of : (links : Links) (e : ℕ) (from : Edge) (row : List ℕ) (t k : ℕ) → AreLinks links → slice_get links.edges e ≡ Some from
    → row ≡ row_of links.edges (get_or links.firsts.items e 0) links.edges → slice_get row t ≡ Some k → IsNext links (end_of from) k
next_of links e from row t k a stands row_is listed =
    let first = first_of_edge links.edges e from stands ∙ ap (λ l. Some (get_or l e 0)) (sym a.firsts) in
    let found = in_row links.edges (end_of from) (get_or links.firsts.items e 0) t k first (subst (λ l. slice_get l t ≡ Some k) row_is listed) in
    record {
      edge = found.edge;
      stands = found.stands;
      starts = found.starts;
      inside = slice_get_within links.edges k found.edge found.stands;
      first = (are_firsts links.edges links.firsts.items a.firsts).inside k found.edge found.stands;
    }

pub next_in : (links : Links) (f : FieldId) (cut : List ℕ) (s : Search) (n : ℕ) (row : List ℕ) (t : ℕ) → AreLinks links → (r : IsInRow links f cut s n row t)
    → t < length row → IsNext links (end_of r.from) (get_or row t 0)
next_in links f cut s n row t a r less =
    let at = get_within row t less in
    subst (λ k. IsNext links (end_of r.from) k) (sym (get_or_from_slice_get row t at.0 0 at.1)) (next_of links r.edge r.from row t at.0 a r.stands r.row_is at.1)

pub record GoesOn (links : Links) (f : FieldId) (cut : List ℕ) (old new : Search) (n : ℕ) (row : List ℕ) (t : ℕ) : Type 0 where
  pub at : IsInRow links f cut new n row t
  pub stay : StepsStay old.steps.items new.steps.items

pub row_more : (links : Links) (f : FieldId) (cut : List ℕ) (marks : List Bool) (old new : Search) (n : ℕ) (row : List ℕ) (t : ℕ) → AreLinks links
    → AreMarks (length links.edges) cut marks → IsInRow links f cut old n row t → t < length row
    → Offers links.firsts.items marks old new (get_or row t 0) (Some n) → GoesOn links f cut old new n row (t + 1)
row_more links f cut marks old new n row t a m r less offers =
    let at = get_within row t less in
    let k : ℕ = get_or row t 0 in
    let next = next_in links f cut old n row t a r less in
    let listed : slice_get row t ≡ Some k = at.1 ∙ ap Some (sym (get_or_from_slice_get row t at.0 0 at.1)) in
    let ascend : (i j x y : ℕ) → i < j → slice_get row i ≡ Some x → slice_get row j ≡ Some y → x < y =
    λ i j x y less one two.
    places_ascend (follows links.edges (get_or links.firsts.items r.edge 0)) 0 links.edges i j x y less
    (subst (λ l. slice_get l i ≡ Some x) r.row_is one) (subst (λ l. slice_get l j ≡ Some y) r.row_is two) in
    let goes = following_more links.edges links.firsts.items f cut marks old new n r.edge row t k r.from next.edge (are_firsts links.edges links.firsts.items a.firsts)
    (m.mark k next.inside) r.stands next.stands next.starts listed ascend r.following offers in
    record { at = record { edge = r.edge; from = r.from; stands = r.stands; row_is = r.row_is; following = goes.following }; stay = goes.stay }

pub row_end : (links : Links) (f : FieldId) (cut : List ℕ) (s : Search) (n : ℕ) (row : List ℕ) → AreLinks links → IsInRow links f cut s n row (length row)
    → IsFollowedTo links f cut s (n + 1)
row_end links f cut s n row a r =
    let first = first_of_edge links.edges r.edge r.from r.stands ∙ ap (λ l. Some (get_or l r.edge 0)) (sym a.firsts) in
    following_end links.edges links.firsts.items f cut s.steps.items s.places.items n r.edge row r.from r.stands
    (λ k next stands start. subst (λ l. (m : ℕ) × (slice_get l m ≡ Some k)) (sym r.row_is)
    (to_row links.edges (end_of r.from) (get_or links.firsts.items r.edge 0) k next first stands start))
    r.following

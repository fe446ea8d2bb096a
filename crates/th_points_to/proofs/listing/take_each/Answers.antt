use Rattle.std.proofs.Common.{◌≡◌, ◌+◌, ℕ, List, [], ◌∷◌, ◌++◌, get_or, take, Some, slice_get, sym, ap, arith, ◌∙◌}
use Rattle.std.specs.List.{list_any}
use Rattle.std.proofs.lemmas.List.{take_more}
use Rattle.std.proofs.lemmas.Bool.{eq-eqb}
use Rattle.std.proofs.lemmas.Option.{slice_get-get_or}
use Rattle.th_base.specs.declared.number.FieldId.{FieldId}
use Rattle.th_base.specs.declared.number.SiteId.{SiteId}
use Rattle.th_incl.specs.Least.{set_at}
use Rattle.th_ir.proofs.Plain.{and_both, not_both}
use Rattle.th_points_to.specs.Listing.{cell_set, cells_of, is_pair, with_set}
use Rattle.th_points_to.proofs.Above.{whole_take}
use Rattle.th_points_to.proofs.ListingLemmas.{any_push, cell_kept, cells_push}
use Rattle.th_points_to.proofs.listing.take_each.Goals as goal

pub take_cell-requires : goal.take_cell-requires
take_cell-requires c = omega (arith, c.requires.within, c.loop-cell.invariant.len)

pub loop-cell-preserved : goal.loop-cell-preserved
loop-cell-preserved c =
    let v = c.loop-cell.invariant in
    let keys : List (ℕ × ℕ) = c.args.cells.now.keys in
    let items : List (ℕ × ℕ) = c.args.ordered.now in
    let i = c.loop-cell.cell-index in
    let d : ℕ × ℕ = get_or items i (0, 0) in
    let old : ℕ → List ℕ = λ place. set_at c.args.sets.now (c.args.first + place) in
    let now : ℕ → List ℕ = λ place. set_at c.loop-cell.sets (c.args.first + place) in
    let at : slice_get items i ≡ Some d = slice_get-get_or items i (0, 0) c.loop-cell-test.true in
    let more : take (i + 1) items ≡ take i items ++ d ∷ [] = take_more items i (0, 0) c.loop-cell-test.true in
    record {
      taken =
          c.in_ok-take_cell.ensures.list
          ∙ ap (λ (l : List (SiteId × FieldId × List ℕ)). l ++ with_set (λ xs. (let s : SiteId = record { 0 = d.0 } in s, let f : FieldId = record { 0 = d.1 } in f, xs)) (cell_set keys now d)) v.taken
          ∙ ap (λ (xs : List ℕ). cells_of (cell_set keys old) (take i items) ++ with_set (λ xs. (let s : SiteId = record { 0 = d.0 } in s, let f : FieldId = record { 0 = d.1 } in f, xs)) xs)
          (cell_kept keys items old now i d c.requires.once at v.left)
          ∙ sym (ap (cells_of (cell_set keys old)) more ∙ cells_push (cell_set keys old) (take i items) d);
      left = λ k e found none.
          (let parts = any_push (is_pair e) (take i items) d (ap (list_any (is_pair e)) (sym more) ∙ none) in
          c.in_ok-take_cell.ensures.left k e found
          (λ same. not_both (is_pair e d) (and_both _ _ (eq-eqb d.0 e.0 (ap (λ (q : ℕ × ℕ). q.0) (sym same))) (eq-eqb d.1 e.1 (ap (λ (q : ℕ × ℕ). q.1) (sym same)))) parts.1)
          ∙ v.left k e found parts.0);
      len = c.take_cell.ensures.len ∙ v.len;
    }

pub returns : goal.returns
returns c =
    c.loop-cell.invariant.taken
    ∙ ap (λ (ds : List (ℕ × ℕ)). cells_of (cell_set c.args.cells.now.keys (λ place. set_at c.args.sets.now (c.args.first + place))) ds)
    (whole_take c.args.ordered.now c.loop-cell.cell-index (omega (arith, c.loop-cell-test.false)))

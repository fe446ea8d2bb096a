use Rattle.std.proofs.Common.{◌+◌, ℕ, List, sym, ap, subst, ◌∙◌}
use Rattle.th_incl.specs.Least.{set_at}
use Rattle.th_points_to.specs.Listing.{AreOnce, cell_set, cells_of}
use Rattle.th_points_to.proofs.PairSums.{pairs_once}
use Rattle.th_points_to.proofs.listing.take_cells.Goals as goal

pub take_each-requires-clause-within : goal.take_each-requires-clause-within
take_each-requires-clause-within c = c.requires

pub take_each-requires-clause-once : goal.take_each-requires-clause-once
take_each-requires-clause-once c = subst AreOnce (sym c.as_slice.ensures.value) (pairs_once c.in_ok-ordered.ordered.items c.in_ok-ordered.ensures.ascend)

pub returns : goal.returns
returns c = record {
  ordered = c.in_ok-ordered.ordered.items;
  pairs = c.in_ok-ordered.ensures;
  is =
      c.in_ok-list.ensures
      ∙ ap (λ (ds : List (ℕ × ℕ)). cells_of (cell_set c.args.cells.now.keys (λ place. set_at c.args.sets.now (c.args.first + place))) ds) c.as_slice.ensures.value;
}

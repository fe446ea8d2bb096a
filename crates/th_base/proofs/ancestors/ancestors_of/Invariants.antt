use Rattle.std.proofs.Common.{◌≡◌, ℕ, true, [], length, take}
use Rattle.th_base.specs.Ancestors.{IsListing, ListsClasses, ListsAbove}
use Rattle.th_base.specs.IdSet.{has}
use Rattle.th_base.proofs.ancestors.ancestors_of.Given as goal

-- the rows of the classes so far serve for the rules
abbrev pub invariant-loop-class : goal.invariant-loop-class
invariant-loop-class l = record {
  rows_are : length l.rows.items ≡ length l.classes;
  seen_are : length l.listing.seen.items ≡ length l.classes;
  empty : l.listing.items.items ≡ [];
  listing : IsListing l.listing.seen.items l.listing.items.items;
  in_range : ListsClasses l.rows.items (length l.classes);
  above : (d : ℕ) → has (take l.class-index l.order) d ≡ true → ListsAbove l.classes l.rows.items d;
}

use Rattle.std.proofs.Common.{◌≡◌, ℕ, true, false, length, get_or, drop}
use Rattle.th_base.specs.IdSet.{has}
use Rattle.th_base.proofs.ancestors.finish.Given as goal

-- what is still marked stands in the rest of the list
abbrev pub invariant-loop-class : goal.invariant-loop-class
invariant-loop-class l = record {
  room : length l.listing.seen.items ≡ length l.fn.listing.seen.items;
  emptied : l.listing.items.items ≡ l.initial.listing.items.items;
  rest : (x : ℕ) → get_or l.listing.seen.items x false ≡ true → has (drop l.class-index l.class-items) x ≡ true;
}

use Rattle.std.proofs.Common.{◌≡◌, ℕ, false, length, get_or, []}
use Rattle.th_base.specs.Ancestors.{supertypes_listed, superinterfaces_listed}
use Rattle.th_base.proofs.ancestors.start.Given as goal

-- nothing is listed and nothing is marked
abbrev pub invariant-loop : goal.invariant-loop
invariant-loop l = record {
  rows_are : length l.rows.items ≡ l.counter;
  seen_are : length l.seen.items ≡ l.counter;
  unmarked : (x : ℕ) → get_or l.seen.items x false ≡ false;
  no_supertypes : (c : ℕ) → supertypes_listed l.rows.items c ≡ [];
  no_superinterfaces : (c : ℕ) → superinterfaces_listed l.rows.items c ≡ [];
}

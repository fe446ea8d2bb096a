-- Queries that no state can meet, as far as it is looked for.
use Rattle.std.specs.Prelude.{ℕ, ◌+◌, ◌==◌, ◌&&◌, ◌||◌, Bool, true, false, not, pos, negsuc, List, [], ◌∷◌, Option, None, Some}
use Rattle.std.specs.List.{list_any}
use Rattle.std.proofs.Common.{lit<}
use Rattle.th_pure.specs.declared.range.Range.{Range}
use Rattle.th_pure.specs.Refutation.{refuted}
use Rattle.th_query.specs.declared.query.Sym.{Sym}
use Rattle.th_query.specs.declared.query.Sym.TheVariants.{Ref, Int, Carry}
use Rattle.th_query.specs.declared.query.Query.{Query}
use Rattle.th_query.specs.Symbols.{symbol_at}

abbrev pub has_none : List ℕ → Bool
has_none [] = true
has_none (a ∷ sites) = false

-- a reference that is neither null nor an object
abbrev pub is_nothing : Sym → Bool
is_nothing (Ref null sites) = not null && has_none sites
is_nothing Int = false
is_nothing Carry = false

-- a reference that can only be null
abbrev pub is_only_null : Option Sym → Bool
is_only_null None = false
is_only_null (Some (Ref null sites)) = null && has_none sites
is_only_null (Some Int) = false
is_only_null (Some Carry) = false

-- a difference of a symbol with itself, or of two that can only be null
abbrev pub is_no_difference : Query → ℕ × ℕ → Bool
is_no_difference q d = (d.0 == d.1) || (is_only_null (symbol_at q d.0) && is_only_null (symbol_at q d.1))

-- the range of a number
abbrev pub ranges_at : ℕ → Sym → List Range → List Range
ranges_at s (Ref null sites) rest = rest
ranges_at s Int rest =
    record { variable = s; low = negsuc 2147483647; high = pos 2147483647; small_low = lit< tt; small_high = lit< tt } ∷ rest
ranges_at s Carry rest = record { variable = s; low = negsuc 0; high = pos 1; small_low = lit< tt; small_high = lit< tt } ∷ rest

-- the ranges of all numbers, from the symbol s on
abbrev pub ranges_from : ℕ → List Sym → List Range
ranges_from s [] = []
ranges_from s (x ∷ xs) = ranges_at s x (ranges_from (s + 1) xs)

-- some reference is nothing, some difference is none, or the linear facts are refuted
abbrev pub is_contradiction_of : Query → Bool
is_contradiction_of q =
    list_any is_nothing q.syms || (list_any (is_no_difference q) q.diffs || refuted q.facts (ranges_from 0 q.syms))

use Rattle.std.proofs.Common.{◌≡◌, ◌==◌, drop}
use Rattle.std.specs.List.{list_all}
use Rattle.th_ir.specs.WellFormed.{places_from}
use Rattle.th_query.specs.Symbols.{symbol_at, null_in}
use Rattle.th_query.specs.Unified.{class_of}
use Rattle.th_unify.proofs.narrowing.may_all_be_null.Given as goal

-- what is left decides
abbrev pub invariant-loop-other : goal.invariant-loop-other
invariant-loop-other l = list_all (λ u. null_in (symbol_at l.query u)) (places_from (λ n. n == l.symbol) l.other (drop l.other l.names)) ≡ list_all (λ u. null_in (symbol_at l.query u)) (class_of l.names l.symbol)

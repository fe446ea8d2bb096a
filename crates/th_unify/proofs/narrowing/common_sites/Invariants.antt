use Rattle.std.proofs.Common.{◌≡◌, ◌==◌, drop}
use Rattle.std.specs.Prelude.{filter}
use Rattle.std.specs.List.{list_all}
use Rattle.th_base.specs.IdSet.{has}
use Rattle.th_ir.specs.WellFormed.{places_from}
use Rattle.th_query.specs.Symbols.{sites_of}
use Rattle.th_query.specs.Unified.{class_of}
use Rattle.th_unify.proofs.narrowing.common_sites.Given as goal

-- what those left take away is what is still to go
abbrev pub invariant-loop-other : goal.invariant-loop-other
invariant-loop-other l = filter (λ a. list_all (λ u. has (sites_of l.query u) a) (places_from (λ n. n == l.symbol) l.other (drop l.other l.names))) l.common ≡ filter (λ a. list_all (λ u. has (sites_of l.query u) a) (class_of l.names l.symbol)) l.sites

use Rattle.std.proofs.Common.{◌≡◌, ◌++◌, drop}
use Rattle.th_query.specs.Unified.{common_symbols}
use Rattle.th_unify.proofs.narrowing.common_symbols.Given as goal

-- what is left comes after
abbrev pub invariant-loop-symbol : goal.invariant-loop-symbol
invariant-loop-symbol l = l.all.items ++ common_symbols l.names l.query l.symbol (drop l.symbol l.syms) ≡ common_symbols l.names l.query 0 l.syms

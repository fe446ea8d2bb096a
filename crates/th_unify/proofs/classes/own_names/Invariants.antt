use Rattle.std.proofs.Common.{◌≡◌}
use Rattle.th_query.specs.FromSets.{upto}
use Rattle.th_unify.proofs.classes.own_names.Given as goal

abbrev pub invariant-loop-symbol : goal.invariant-loop-symbol
invariant-loop-symbol l = l.names.items ≡ upto l.symbol

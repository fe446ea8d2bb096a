use Rattle.std.proofs.Common.{◌≡◌}
use Rattle.th_incl.proofs.filter.filters_of.Given as goal

abbrev pub invariant-loop-ids : goal.invariant-loop-ids
invariant-loop-ids l = l.filters ≡ l.yielded

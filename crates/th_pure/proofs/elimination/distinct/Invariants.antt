use Rattle.std.proofs.Common.{◌≡◌}
use Rattle.th_pure.specs.Elimination.{AreInequalities, put_after, without_repeats}
use Rattle.th_pure.proofs.elimination.distinct.Given as goal

-- the rest put after the facts so far gives what all give
abbrev pub invariant-loop-fact : goal.invariant-loop-fact
invariant-loop-fact l = record {
  all : without_repeats l.fn.facts ≡ put_after l.kept l.fact-iterator.rest.items;
  inequalities : AreInequalities l.fn.facts → AreInequalities l.kept × AreInequalities l.fact-iterator.rest.items;
}

use Rattle.std.proofs.Common.{arith}
use Rattle.th_base.proofs.Climbing.{as_many_first, no_way_back}
use Rattle.th_base.proofs.cycle.way_back.Goals as goal

pub returns-clause-none : goal.returns-clause-none
returns-clause-none c =
    no_way_back c.args.classes.now c.args.class c.loop-at.at c.index-classes-class.result c.requires.class c.index-classes-class.is
    (omega (arith, c.loop-at-test.false, c.count_supertypes-at-end.ensures, as_many_first c.index-classes-class.result)) c.loop-at.invariant

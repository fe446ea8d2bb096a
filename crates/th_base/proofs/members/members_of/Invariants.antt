use Rattle.std.proofs.Common.{take}
use Rattle.th_base.specs.MemberIndex.{AreIndexed}
use Rattle.th_base.proofs.members.members_of.Given as goal

abbrev pub invariant-loop-class : goal.invariant-loop-class
invariant-loop-class l = AreIndexed (take l.class-index l.classes) l.members.items

use Rattle.std.proofs.Common.{refl}
use Rattle.th_linker.proofs.Numbers.{more_members, whole_members}
use Rattle.th_linker.proofs.linkable.have_few_members.Goals as goal

pub loop-class-preserved : goal.loop-class-preserved
loop-class-preserved c =
    more_members c.args.files.now c.loop-class.class-index c.class-item.result c.loop-class-test.true c.class-item.is c.loop-class.invariant (c.if-not-has_few_members.ensures.0 refl)

pub returns : goal.returns
returns c = ((λ t. whole_members c.args.files.now c.loop-class.class-index c.loop-class-test.false c.loop-class.invariant), (λ all. refl))

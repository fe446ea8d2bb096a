use Rattle.th_base.proofs.Membership.{has_take}
use Rattle.th_incl.proofs.filter.first_missing.Goals as goal

pub returns-then-id-below : goal.returns-then-id-below
returns-then-id-below c = λ x h. has_take c.loop-id.id-index c.args.ids.now x (c.loop-id.invariant x h)

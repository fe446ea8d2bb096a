use Rattle.std.proofs.Common.{◌≡◌, None, take}
use Rattle.th_base.specs.Hierarchy.{overriding_along}
use Rattle.th_base.proofs.members.overriding_along.Given as goal

-- no class so far declares it
abbrev pub invariant-loop-class : goal.invariant-loop-class
invariant-loop-class l = overriding_along l.classes l.name l.descriptor (take l.class-index l.order) ≡ None

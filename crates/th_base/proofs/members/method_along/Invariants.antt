use Rattle.std.proofs.Common.{◌≡◌, None, take}
use Rattle.th_base.specs.Hierarchy.{first_method}
use Rattle.th_base.proofs.members.method_along.Given as goal

-- no class so far declares it
abbrev pub invariant-loop-class : goal.invariant-loop-class
invariant-loop-class l = first_method l.classes l.name l.descriptor (take l.class-index l.order) ≡ None

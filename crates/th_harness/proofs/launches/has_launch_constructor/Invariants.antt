use Rattle.std.proofs.Common.{◌≡◌, drop}
use Rattle.std.specs.List.{list_any}
use Rattle.th_base.specs.Launchable.{is_launch_constructor}
use Rattle.th_harness.proofs.launches.has_launch_constructor.Given as goal

-- no method before this one is such a constructor
abbrev pub invariant-loop-method : goal.invariant-loop-method
invariant-loop-method l = list_any is_launch_constructor l.fn.methods ≡ list_any is_launch_constructor (drop l.method-index l.methods)

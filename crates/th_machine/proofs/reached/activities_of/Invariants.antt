use Rattle.std.proofs.Common.{◌≡◌, take}
use Rattle.std.specs.Prelude.{filter}
use Rattle.th_base.specs.Launchable.{is_activity}
use Rattle.th_machine.proofs.reached.activities_of.Given as goal

-- those of the classes so far that are Activities are found
abbrev pub invariant-loop-class : goal.invariant-loop-class
invariant-loop-class l = l.found.items ≡ filter (is_activity l.hierarchy) (take l.class-index l.classes)

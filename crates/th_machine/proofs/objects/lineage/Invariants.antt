use Rattle.std.proofs.Common.{◌≡◌, ◌++◌, ◌-◌, length}
use Rattle.th_base.specs.Hierarchy.{lineage_of, lineage_within}
use Rattle.th_machine.proofs.objects.lineage.Given as goal

-- what was found so far, and what stands above
abbrev pub invariant-loop-step : goal.invariant-loop-step
invariant-loop-step l = lineage_of l.classes l.fn.class ≡ l.line.items ++ lineage_within l.classes (length l.classes - l._step) l.current

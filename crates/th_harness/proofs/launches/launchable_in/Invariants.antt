use Rattle.std.proofs.Common.{◌≡◌, map}
use Rattle.std.specs.List.{filter, range_with_len}
use Rattle.th_base.specs.Launchable.{is_launchable}
use Rattle.th_harness.proofs.launches.launchable_in.Given as goal

-- the launchable classes so far are found
abbrev pub invariant-loop-number : goal.invariant-loop-number
invariant-loop-number l = map (λ c. c.0) l.found.items ≡ filter (is_launchable l.hierarchy) (range_with_len 0 l.number)

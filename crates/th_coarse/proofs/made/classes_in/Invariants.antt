use Rattle.std.proofs.Common.{◌≡◌, ◌&&◌, ◌||◌, map}
use Rattle.std.specs.BTreeSet.{contains}
use Rattle.std.specs.List.{filter, range_with_len}
use Rattle.std.specs.Ordering.{nat_cmp}
use Rattle.th_base.specs.Launchable.{is_activity, is_launchable}
use Rattle.th_coarse.proofs.made.classes_in.Given as goal

-- the classes so far that pass are found
abbrev pub invariant-loop-number : goal.invariant-loop-number
invariant-loop-number l =
    map (λ c. c.0) l.found.items
    ≡ filter (λ c. is_activity l.hierarchy c && (is_launchable l.hierarchy c || contains nat_cmp l.created c)) (range_with_len 0 l.number)

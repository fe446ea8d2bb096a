use Rattle.std.proofs.Common.{◌≡◌, drop}
use Rattle.std.specs.List.{filter_map}
use Rattle.th_syntax.specs.PoolChecks as checks
use Rattle.th_pool.specs.PoolView.{slots_view}
use Rattle.th_pool.proofs.check.check_entries.Given as goal

abbrev pub invariant-loop-slot : goal.invariant-loop-slot
invariant-loop-slot l =
    filter_map (checks.entry_flaw (slots_view l.slots)) (slots_view (drop l.slot-index l.slots)) ≡ checks.entry_flaws (slots_view l.slots)

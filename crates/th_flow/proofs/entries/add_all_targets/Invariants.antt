use Rattle.std.proofs.Common.{◌≡◌, ℕ, take}
use Rattle.std.specs.Prelude.{◌||◌}
use Rattle.std.specs.List.{list_any}
use Rattle.th_base.specs.IdSet.{has}
use Rattle.th_flow.specs.Inverted.{sets_at}
use Rattle.th_flow.proofs.entries.add_all_targets.Given as goal

abbrev pub invariant-loop-source : goal.invariant-loop-source
invariant-loop-source l = (r : ℕ) → has l.regs r ≡ (has l.fn.regs r || list_any (λ n. sets_at l.program n.0 r) (take l.source-index l.sources))

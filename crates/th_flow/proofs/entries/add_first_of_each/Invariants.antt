use Rattle.std.proofs.Common.{◌≡◌, ℕ, map, take}
use Rattle.std.specs.Prelude.{◌||◌}
use Rattle.th_base.specs.IdSet.{has}
use Rattle.th_flow.proofs.entries.add_first_of_each.Given as goal

abbrev pub invariant-loop-pair : goal.invariant-loop-pair
invariant-loop-pair l = (r : ℕ) → has l.regs r ≡ (has l.fn.regs r || has (map (λ m. m.0.0) (take l.pair-index l.pairs)) r)

use Rattle.std.proofs.Common.{◌≡◌, ℕ, true, take}
use Rattle.th_base.specs.IdSet.{has}
use Rattle.th_incl.specs.Parts.{IsOn}
use Rattle.th_incl.proofs.grown.turn_all_off.Given as goal

abbrev pub invariant-loop-at : goal.invariant-loop-at
invariant-loop-at l = record {
  here : (k : ℕ) → has (take l.at-index l.places) k ≡ true → IsOn l.flags k → ⊥;
  others : (k : ℕ) → IsOn l.flags k → IsOn l.fn.flags k;
}

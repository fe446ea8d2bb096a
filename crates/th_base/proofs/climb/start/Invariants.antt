use Rattle.std.proofs.Common.{◌≡◌, ℕ, false, length}
use Rattle.th_base.specs.Climb.{is_seen}
use Rattle.th_base.proofs.climb.start.Given as goal

abbrev pub invariant-loop : goal.invariant-loop
invariant-loop l = record {
  room : length l.seen.items ≡ l.counter;
  none : (x : ℕ) → is_seen l.seen.items x ≡ false;
}

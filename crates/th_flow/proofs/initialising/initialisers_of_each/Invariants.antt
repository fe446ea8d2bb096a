use Rattle.std.proofs.Common.{◌≡◌, ℕ, ◌<◌, length, get_or, []}
use Rattle.th_flow.specs.Inverted.{initialisers_of}
use Rattle.th_flow.proofs.initialising.initialisers_of_each.Given as goal

abbrev pub invariant-loop-class : goal.invariant-loop-class
invariant-loop-class l = record {
  count : length l.lists.items ≡ l.class;
  each : (c : ℕ) → c < l.class → get_or l.lists.items c [] ≡ initialisers_of l.hierarchy c;
}

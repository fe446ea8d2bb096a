use Rattle.std.proofs.Common.{◌≡◌, ℕ, ◌<◌, length, get_or, take, [], replicate}
use Rattle.th_flow.specs.Inverted.{called_by}
use Rattle.th_flow.proofs.sources.call_lists.Given as goal

abbrev pub invariant-loop : goal.invariant-loop
invariant-loop l = l.lists.items ≡ replicate l.counter []

abbrev pub invariant-loop-node : goal.invariant-loop-node
invariant-loop-node l = record {
  count : length l.lists.items ≡ l.count;
  each : (n : ℕ) → n < l.count → get_or l.lists.items n [] ≡ called_by (take l.node-index l.calls) n;
}

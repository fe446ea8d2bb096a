use Rattle.std.proofs.Common.{◌≡◌, length}
use Rattle.th_bench.proofs.paths.graph_of.Given as goal

abbrev pub invariant-loop-number : goal.invariant-loop-number
invariant-loop-number l = length l.edges.items ≡ l.number

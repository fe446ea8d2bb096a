use Rattle.std.proofs.Common.{◌≡◌, ℕ, ◌<◌, length, take, get_or, false}
use Rattle.th_base.specs.IdSet.{has}
use Rattle.th_paths.proofs.search.marks_of.Given as goal

-- the edges of the cut so far are marked
abbrev pub invariant-loop-edge : goal.invariant-loop-edge
invariant-loop-edge l = record {
  count_is : length l.marks.items ≡ l.count;
  mark : (k : ℕ) → k < l.count → get_or l.marks.items k false ≡ has (take l.edge-index l.edge-items) k;
}

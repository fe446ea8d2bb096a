use Rattle.th_paths.specs.Search.{IsInRow, StepsStay}
use Rattle.th_paths.proofs.search.follow.Given as goal

-- the edges so far have been followed
abbrev pub invariant-loop-next : goal.invariant-loop-next
invariant-loop-next l = record {
  row : IsInRow l.links l.fn._field l._cut l.search l.at l.next-items l.next-index;
  stay : StepsStay l.fn.search.steps.items l.search.steps.items;
}

use Rattle.std.proofs.Common.{◌≡◌, ◌+◌, ◌++◌, List, reverse, length}
use Rattle.std.specs.Option.{option_map_or}
use Rattle.th_base.specs.declared.number.EdgeId.{EdgeId}
use Rattle.th_paths.specs.Search.{ArePaths, path_at, IsBelow}
use Rattle.th_paths.proofs.Traced.{path_before}
use Rattle.th_paths.proofs.trace.path_to.Given as goal

-- what has been read, backwards, is the end of the path; the rest is the path of the next step
abbrev pub invariant-loop-next : goal.invariant-loop-next
invariant-loop-next l = record {
  inside : IsBelow l.next (length l.steps);
  rest : (paths : List (List EdgeId)) → ArePaths l.steps paths → path_at paths l.at ≡ path_before paths l.next ++ reverse l.path.items;
}

abbrev pub decreases-loop-next : goal.decreases-loop-next
decreases-loop-next l = option_map_or (λ i. i + 1) l.next 0

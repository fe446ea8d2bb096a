use Rattle.std.proofs.Common.{◌≡◌, ◌++◌, ◌<◌, [], length}
use Rattle.std.specs.Option.{option_map_or}
use Rattle.th_base.specs.Hierarchy.{lineage_of}
use Rattle.th_flow.specs.Inverted.{initialisers_of, initialisers_along}
use Rattle.th_flow.proofs.Upward.{line_from, IsClass}
use Rattle.th_flow.proofs.initialising.initialisers_of.Given as goal

-- what has been found, and what is found from the next class upwards
abbrev pub invariant-loop-next : goal.invariant-loop-next
invariant-loop-next l = record {
  inside : IsClass l.hierarchy l.next;
  rest : initialisers_of l.hierarchy l.class ≡ l.found.items ++ initialisers_along l.hierarchy (line_from l.hierarchy l.next);
}

abbrev pub decreases-loop-next : goal.decreases-loop-next
decreases-loop-next l = length (line_from l.hierarchy l.next)

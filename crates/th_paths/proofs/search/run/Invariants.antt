use Rattle.std.proofs.Common.{length, ◌-◌}
use Rattle.th_paths.specs.Search.{IsFollowedTo, MissBelow}
use Rattle.th_paths.proofs.search.run.Given as goal

-- the steps so far have been followed, and none of them is to a site of the goal
abbrev pub invariant-loop-at : goal.invariant-loop-at
invariant-loop-at l = record {
  followed : IsFollowedTo l.links l.field l.cut l.search l.at;
  misses : MissBelow l.links.edges l.search.steps.items l.goal l.at;
}

abbrev pub decreases-loop-at : goal.decreases-loop-at
decreases-loop-at l = length l.links.edges - l.at

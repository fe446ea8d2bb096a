use Rattle.std.proofs.Common.{take}
use Rattle.th_paths.specs.Paths.{TellEachLeast}
use Rattle.th_paths.proofs.index.paths_to_each.Given as goal

-- the goals so far have their least paths
abbrev pub invariant-loop-goal : goal.invariant-loop-goal
invariant-loop-goal l = TellEachLeast l.links.edges l.field (take l.goal-index l.goals) l.cut l.found.items

use Rattle.th_graph.specs.Searching.{AreTargetsBelow}
use Rattle.th_graph.proofs.targets.targets_of.Given as goal

abbrev pub invariant-loop-class : goal.invariant-loop-class
invariant-loop-class l = AreTargetsBelow l.hierarchy l.program l.targets l.class

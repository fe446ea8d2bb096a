use Rattle.std.proofs.Common.{length}
use Rattle.std.specs.Option.{option_map, option_map_or}
use Rattle.th_base.specs.Hierarchy.{lineage_of}
use Rattle.th_points_to.proofs.Initialising.{HasWalked}
use Rattle.th_points_to.proofs.initialisers.walk.Given as goal

abbrev pub invariant-loop-next : goal.invariant-loop-next
invariant-loop-next l = HasWalked l.hierarchy l.met.keys l.fn.class.0 (option_map (λ k. k.0) l.next) l.walked.items

abbrev pub decreases-loop-next : goal.decreases-loop-next
decreases-loop-next l = option_map_or (λ k. length (lineage_of l.hierarchy k.0)) l.next 0

use Rattle.std.proofs.Common.{◌≡◌, take, map}
use Rattle.std.specs.Option.{unwrap_or}
use Rattle.th_paths.specs.Links.{first_at}
use Rattle.th_paths.specs.Paths.{end_of}
use Rattle.th_paths.proofs.links.firsts_of.Given as goal

-- the firsts of the edges so far
abbrev pub invariant-loop-edge : goal.invariant-loop-edge
invariant-loop-edge l = l.firsts.items ≡ map (λ e. unwrap_or (first_at l.edges (end_of e)) 0) (take l.edge-index l.edges)

use Rattle.th_paths.specs.Search.{IsBegun}
use Rattle.th_paths.proofs.search.begin.Given as goal

-- the edges so far have been followed where they are the field's
abbrev pub invariant-loop-k : goal.invariant-loop-k
invariant-loop-k l = IsBegun l.links.edges l.links.firsts.items l.field l.cut l.search.steps.items l.search.places.items l.k

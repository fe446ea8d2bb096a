use Rattle.std.proofs.Common.{take}
use Rattle.th_paths.specs.Links.{FindsFirsts}
use Rattle.th_paths.proofs.links.site_table.Given as goal

-- the edges so far stand in the table
abbrev pub invariant-loop-number : goal.invariant-loop-number
invariant-loop-number l = FindsFirsts (take l.number l.edges) l.sites

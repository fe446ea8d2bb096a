use Rattle.std.proofs.Common.{take}
use Rattle.th_base.specs.Lookup.{FindsFirst}
use Rattle.th_base.proofs.names.names_of.Given as goal

-- the classes so far stand in the table
abbrev pub invariant-loop-number : goal.invariant-loop-number
invariant-loop-number l = FindsFirst (take l.number l.classes) l.names

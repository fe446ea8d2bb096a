use Rattle.th_unify.specs.Classes.{IsTable, total}
use Rattle.th_unify.proofs.classes.join_all.Given as goal

-- the table names symbols that are one, never above
abbrev pub invariant-loop-s : goal.invariant-loop-s
invariant-loop-s l = IsTable l.query l.names

-- each join makes a number less
abbrev pub decreases-loop-s : goal.decreases-loop-s
decreases-loop-s l = total l.names

use Rattle.std.proofs.Common.{ℕ, take}
use Rattle.th_ir.specs.Program.{Among}
use Rattle.th_linear.specs.Gathered.{name_of}
use Rattle.th_unify.specs.Classes.{AgreeWith}
use Rattle.th_unify.proofs.classes.clash_in.Given as goal

-- the pairs before this one agree with all
abbrev pub invariant-loop-pair : goal.invariant-loop-pair
invariant-loop-pair g l = (x : g.row.K.Denot × ℕ) → Among (take l.pair-index l.pairs) x → AgreeWith x.0 (name_of l.names x.1) l.pairs (name_of l.names)

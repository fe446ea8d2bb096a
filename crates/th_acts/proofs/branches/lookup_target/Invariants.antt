use Rattle.std.proofs.Common.{◌≡◌, drop}
use Rattle.th_syntax.specs.Branches.{lookup_target}
use Rattle.th_acts.proofs.branches.lookup_target.Given as goal

-- no pair before this one has the key
abbrev pub invariant-loop-pair : goal.invariant-loop-pair
invariant-loop-pair l = lookup_target l.fn.pairs l.other l.key ≡ lookup_target (drop l.pair-index l.pairs) l.other l.key

use Rattle.std.proofs.Common.{◌≡◌, take, drop}
use Rattle.th_pure.specs.Substitution.{choice_of, passed}
use Rattle.th_pure.proofs.substitution.choose.Given as goal

-- the facts so far are passed over
abbrev pub invariant-loop-at : goal.invariant-loop-at
invariant-loop-at l = choice_of l.facts ≡ passed (take l.at l.facts) (choice_of (drop l.at l.facts))

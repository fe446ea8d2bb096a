use Rattle.std.proofs.Common.{◌≡◌}
use Rattle.th_query.specs.Numbered.{numbers_by}
use Rattle.th_steps.proofs.mentioning.places.Given as goal

-- those so far have their places
abbrev pub invariant-loop-number : goal.invariant-loop-number
invariant-loop-number l = l.places.items ≡ numbers_by l.order l.number

use Rattle.std.proofs.Common.{◌≡◌, ◌+◌, drop}
use Rattle.th_query.specs.Numbered.{place_in}
use Rattle.th_steps.proofs.mentioning.place_of.Given as goal

-- it stands so far behind the place
abbrev pub invariant-loop-other : goal.invariant-loop-other
invariant-loop-other l = (l.place ≡ l.other-index) × (l.place + place_in (drop l.other-index l.order) l.number ≡ place_in l.order l.number)

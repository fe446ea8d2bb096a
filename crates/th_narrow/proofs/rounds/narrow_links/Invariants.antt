use Rattle.th_ir.specs.FactSets.{sets_of}
use Rattle.th_query.specs.Narrowed.{slot_has}
use Rattle.th_narrow.specs.Rounds.{Narrows, Rules, size}
use Rattle.th_narrow.proofs.rounds.narrow_links.Given as goal

-- all so far only narrowed
abbrev pub invariant-loop : goal.invariant-loop
invariant-loop l = Narrows (Rules (slot_has (sets_of l.facts)) l.links) l.fn.syms l.syms

-- each round that changes something takes a site
abbrev pub decreases-loop : goal.decreases-loop
decreases-loop l = size l.syms

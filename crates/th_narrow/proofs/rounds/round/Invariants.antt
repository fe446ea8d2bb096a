use Rattle.std.proofs.Common.{take}
use Rattle.th_ir.specs.FactSets.{sets_of}
use Rattle.th_query.specs.Narrowed.{slot_has}
use Rattle.th_narrow.specs.Rounds.{Steps, Rules}
use Rattle.th_narrow.proofs.rounds.round.Given as goal

-- the links so far
abbrev pub invariant-loop-link : goal.invariant-loop-link
invariant-loop-link l = Steps (Rules (slot_has (sets_of l.facts)) (take l.link-index l.links)) l.fn.syms l.syms l.changed

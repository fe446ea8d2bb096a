use Rattle.std.proofs.Common.{◌≡◌, drop}
use Rattle.th_ir.specs.FactSets.{sets_of}
use Rattle.th_query.specs.Narrowed.{slot_has}
use Rattle.th_narrow.specs.Rounds.{is_value}
use Rattle.th_narrow.proofs.rounds.is_held.Given as goal

-- it is looked for in what is left
abbrev pub invariant-loop-base : goal.invariant-loop-base
invariant-loop-base l = is_value (slot_has (sets_of l.facts)) l.fn.slot (drop l.base-index l.bases) l.value ≡ is_value (slot_has (sets_of l.facts)) l.fn.slot l.bases l.value

use Rattle.std.proofs.Common.{◌≡◌, drop}
use Rattle.th_ir.specs.FactSets.{sets_of}
use Rattle.th_query.specs.Narrowed.{slot_has}
use Rattle.th_narrow.specs.Rounds.{is_base}
use Rattle.th_narrow.proofs.rounds.is_holder.Given as goal

-- it is looked for in what is left
abbrev pub invariant-loop-value : goal.invariant-loop-value
invariant-loop-value l = is_base (slot_has (sets_of l.facts)) l.fn.slot (drop l.value-index l.values) l.base ≡ is_base (slot_has (sets_of l.facts)) l.fn.slot l.values l.base

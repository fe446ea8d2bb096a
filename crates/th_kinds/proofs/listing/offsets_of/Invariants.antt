use Rattle.std.proofs.Common.{◌≡◌, ℕ, map, take}
use Rattle.th_syntax.specs.declared.instr.Instr.{Instr}
use Rattle.th_kinds.proofs.listing.offsets_of.Given as goal

abbrev pub invariant-loop-offset : goal.invariant-loop-offset
invariant-loop-offset l = l.offsets.items ≡ map (λ (i : ℕ × Instr). i.0) (take l.offset-index l.instrs)

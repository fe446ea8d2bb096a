use Rattle.std.proofs.Common.{◌≡◌, ℕ, map, take}
use Rattle.th_syntax.specs.declared.instr.Instr.{Instr}
use Rattle.th_syntax.specs.KindRows.{row_of}
use Rattle.th_kinds.specs.Listings.{seen_rows}
use Rattle.th_kinds.proofs.listing.rows_of.Given as goal

abbrev pub invariant-loop-instr : goal.invariant-loop-instr
invariant-loop-instr l = seen_rows l.rows.items ≡ map (λ (i : ℕ × Instr). row_of i.1) (take l.instr-index l.instrs)

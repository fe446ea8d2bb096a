use Rattle.std.proofs.Common.{ℕ, ap, ◌∙◌}
use Rattle.th_syntax.specs.declared.instr.Instr.{Instr}
use Rattle.th_syntax.specs.KindRows.{row_of}
use Rattle.th_kinds.specs.Listings.{seen_rows}
use Rattle.th_kinds.proofs.Placing.{rows_more}
use Rattle.th_kinds.proofs.listing.rows_of.Goals as goal

pub loop-instr-preserved : goal.loop-instr-preserved
loop-instr-preserved c =
    ap seen_rows c.in_ok-push.ensures.items
    ∙ rows_more c.args.instrs.now c.loop-instr.rows.items c.loop-instr.instr-index c.in_ok-row.row c.loop-instr-item.result c.loop-instr.invariant c.loop-instr-test.true
    (c.in_ok-row.ensures ∙ ap (λ (i : ℕ × Instr). row_of i.1) c.loop-instr-item.is)

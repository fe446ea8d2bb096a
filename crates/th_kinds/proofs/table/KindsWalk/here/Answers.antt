use Rattle.std.proofs.Common.{ℕ, List, suc, drop, reverse, sym, ap, ◌∙◌}
use Rattle.std.proofs.lemmas.List.{get_or_default}
use Rattle.th_syntax.specs.declared.instr.Instr.{Instr}
use Rattle.th_syntax.specs.declared.instr.Instr.TheVariants.{Nop}
use Rattle.th_syntax.specs.declared.kind.SlotKind.{SlotKind}
use Rattle.th_kinds.specs.States.{seen_state}
use Rattle.th_kinds.specs.Kept.{seen_kept}
use Rattle.th_kinds.specs.Listed.{listed}
use Rattle.th_kinds.specs.Walk.{line, here, kept_at, fallen_behind}
use Rattle.th_kinds.proofs.ListedKinds.{listed_end}
use Rattle.th_kinds.proofs.Steps.{listed_here, same_row}
use Rattle.th_kinds.proofs.table.KindsWalk.here.Goals as goal

pub returns-then-self : goal.returns-then-self
returns-then-self c =
    sym c.self.view_is ∙ listed_end c.self.inside.instrs.now (drop c.self.inside.place (seen_kept c.self.inside.kept.now)) (seen_state c.self.inside.fallen) c.self.inside.place c.if-self.true

pub returns-in-OfKinds : goal.returns-in-OfKinds
returns-in-OfKinds c =
    let rest = listed (drop (suc c.self.inside.place) c.self.inside.instrs.now) (drop (suc c.self.inside.place) (seen_kept c.self.inside.kept.now))
    (fallen_behind (line c.self.inside.instrs.now c.self.inside.place).1 (here (seen_state c.self.inside.fallen) (kept_at (seen_kept c.self.inside.kept.now) c.self.inside.place))) in (
      rest,
      sym c.self.view_is
          ∙ listed_here c.self.inside.instrs.now (seen_kept c.self.inside.kept.now) (seen_state c.self.inside.fallen) c.self.inside.place c.if-self.false c.in-OfKinds.frame.locals.items
          (reverse c.in-OfKinds.frame.stack.items) (sym c.known_at.ensures ∙ ap seen_state c.in-OfKinds.is)
          ∙ same_row (line c.self.inside.instrs.now c.self.inside.place).0 _ c.in-OfKinds.frame.locals.items c.as_slice.result.now (reverse c.in-OfKinds.frame.stack.items) (reverse c.as_slice-in-OfKinds.result.now) rest
          (ap (λ (i : ℕ × Instr). i.0) (get_or_default c.self.inside.instrs.now c.self.inside.place (0, Nop) c.index-self-self.result c.if-self.false))
          (sym c.as_slice.ensures.value) (ap (λ (ks : List SlotKind). reverse ks) (sym c.as_slice-in-OfKinds.ensures.value)),
    )

use Rattle.std.proofs.Common.{refl, List, ℕ, sym, ap, subst, ◌∙◌, ◌++◌, ◌∷◌, [], ◌≡◌, ◌<◌, ◌+◌, get_or, take, length, inl, inr, if◌then◌else◌, arith}
use Rattle.std.proofs.lemmas.Bool.{cases_eq}
use Rattle.std.proofs.lemmas.List.{take_more}
use Rattle.th_base.specs.IdSet.{has}
use Rattle.th_base.specs.declared.number.NodeId.{NodeId}
use Rattle.th_flow.specs.Inverted.{row_at, is_last}
use Rattle.th_flow.proofs.Rows.{note_here, note_there}
use Rattle.th_flow.proofs.inverted.note_each.Goals as goal
use Rattle.th_flow.proofs.inverted.note_each.Goals.{then-row-len+in_ok-note, else-row-len}

pub loop-row-preserved : goal.loop-row-preserved
loop-row-preserved c =
    let list : List ℕ = c.args.list.now in
    let old : List (List NodeId) = c.args.rows.now.items in
    let at = c.loop-row.row-index in
    let place = c.args.place in
    let t : ℕ = get_or list at 0 in
    let inv = c.loop-row.invariant in
    let before : List (List NodeId) = c.loop-row.rows.items in
    let taken = take_more list at 0 c.loop-row-test.true in
    elim c.if-row-len.branch [
      | then-row-len+in_ok-note w ↦ record {
        count = ap (λ v. length v.items) w.rows-is ∙ w.in_ok-note.ensures.count ∙ inv.count;
        rows = λ r less.
            ap (λ v. row_at v.items r) w.rows-is
            ∙ elim (cases_eq r t) [
              | inl same ↦ subst (λ l. row_at w.note.new.rows.items r ≡ row_at old r ++ (if has l r then place ∷ [] else [])) (sym taken)
                  (subst (λ q. row_at w.note.new.rows.items q ≡ row_at old q ++ (if has (take at list ++ t ∷ []) q then place ∷ [] else [])) (sym same)
                  (note_here (row_at old t) (row_at before t) (row_at w.note.new.rows.items t) (take at list) t place (c.requires t (subst (λ q. q < length old) same less))
                  (inv.rows t (subst (λ q. q < length old) same less)) w.in_ok-note.ensures.here))
              | inr other ↦ subst (λ l. row_at w.note.new.rows.items r ≡ row_at old r ++ (if has l r then place ∷ [] else [])) (sym taken)
                  (note_there (row_at old r) (row_at before r) (row_at w.note.new.rows.items r) (take at list) r t place other (inv.rows r less) (w.in_ok-note.ensures.others r other))
            ];
      }
      | else-row-len w ↦ record {
        count = ap (λ v. length v.items) w.rows-is ∙ inv.count;
        rows = λ r less.
            ap (λ v. row_at v.items r) w.rows-is
            ∙ elim (cases_eq r t) [
              | inl same ↦ let past = w.if-row-len.false in let size = c.len.ensures in let count = inv.count in absurd (omega (arith, same, less, past, size, count))
              | inr other ↦ subst (λ l. row_at before r ≡ row_at old r ++ (if has l r then place ∷ [] else [])) (sym taken)
                  (note_there (row_at old r) (row_at before r) (row_at before r) (take at list) r t place other (inv.rows r less) refl)
            ];
      }
    ]

use Rattle.std.proofs.Common.{List, ℕ, [], ◌∷◌, ◌++◌, sym, ap, ◌∙◌}
use Rattle.th_base.specs.Ancestors.{line_listed}
use Rattle.th_base.proofs.Rows.{row_line, listed_once, has_superclass}
use Rattle.th_base.proofs.ancestors.line_above.Goals as goal

pub bounds-rows-above : goal.bounds-rows-above
bounds-rows-above c = c.requires c.in-Some.above.0 (has_superclass c.args.class.now c.in-Some.above c.in-Some.is)

pub returns-in-Some : goal.returns-in-Some
returns-in-Some c =
    let n = c.in-Some.above.0 in
    let inside = c.requires n (has_superclass c.args.class.now c.in-Some.above c.in-Some.is) in
    c.from_vec.ensures ∙ c.in_ok-extend_from_slice.ensures.items
    ∙ ap (λ (l : List ℕ). l ++ c.as_slice.result.now) (c.in_ok-push.ensures.items ∙ ap (λ (l : List ℕ). l ++ c.args.number ∷ []) c.new-line.ensures.items)
    ∙ ap (λ l. c.args.number ∷ l)
    (c.as_slice.ensures ∙ sym (row_line c.args.rows.now n c.index-rows-above.result inside) ∙ listed_once (line_listed c.args.rows.now) c.args.class.now c.in-Some.above c.in-Some.is)

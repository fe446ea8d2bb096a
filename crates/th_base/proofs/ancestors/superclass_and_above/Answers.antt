use Rattle.std.proofs.Common.{sym, ◌∙◌}
use Rattle.th_base.specs.Ancestors.{all_listed}
use Rattle.th_base.proofs.Rows.{row_all, listed_once, has_superclass}
use Rattle.th_base.proofs.ancestors.superclass_and_above.Goals as goal

pub bounds-rows-above : goal.bounds-rows-above
bounds-rows-above c = c.requires c.in-Some.above.0 (has_superclass c.args.class.now c.in-Some.above c.in-Some.is)

pub returns-in-Some : goal.returns-in-Some
returns-in-Some c =
    let n = c.in-Some.above.0 in
    let inside = c.requires n (has_superclass c.args.class.now c.in-Some.above c.in-Some.is) in
    c.in_ok-all.ensures ∙ sym (row_all c.args.rows.now n c.index-rows-above.result inside) ∙ listed_once (all_listed c.args.rows.now) c.args.class.now c.in-Some.above c.in-Some.is

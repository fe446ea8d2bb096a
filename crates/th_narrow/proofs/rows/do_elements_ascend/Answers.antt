use Rattle.std.proofs.Common.{rules}
use Rattle.std.proofs.lemmas.Fn.{always_returns_same}
use Rattle.th_narrow.specs.Rows.{elem_before}
use Rattle.th_narrow.proofs.Ordered.{elements_ordered}
use Rattle.th_narrow.proofs.rows.do_elements_ascend.Goals as goal

pub returns : goal.returns
returns c = elements_ordered c.args.elems.now _ (c.is_sorted_by.ensures.cases (λ x y. elem_before y.0.0 x) (always_returns_same _ _ _ (λ a r q k. search rules)))

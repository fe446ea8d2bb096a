use Rattle.std.proofs.Common.{List, Bool, false, length, get_or, ap, ◌∙◌}
use Rattle.th_base.specs.declared.ancestors.Ancestors.{Ancestors}
use Rattle.th_base.specs.Ancestors.{supertypes_listed, superinterfaces_listed}
use Rattle.th_base.proofs.Rows.{push_false, push_nothing, pushed_length}
use Rattle.th_base.proofs.ancestors.start.Goals as goal

pub loop-preserved : goal.loop-preserved
loop-preserved c = record {
  rows_are = ap (λ (l : List Ancestors). length l) c.in_ok-push.ensures.items ∙ pushed_length c.loop.rows.items _ c.loop.counter c.loop.invariant.rows_are;
  seen_are = ap (λ (l : List Bool). length l) c.in_ok-push-2.ensures.items ∙ pushed_length c.loop.seen.items false c.loop.counter c.loop.invariant.seen_are;
  unmarked = λ x. ap (λ l. get_or l x false) c.in_ok-push-2.ensures.items ∙ push_false c.loop.seen.items c.loop.invariant.unmarked x;
  no_supertypes = λ k. ap (λ l. supertypes_listed l k) c.in_ok-push.ensures.items ∙ push_nothing (λ r. r.supertypes) c.loop.rows.items _ c.new-in-loop.ensures c.loop.invariant.no_supertypes k;
  no_superinterfaces = λ k. ap (λ l. superinterfaces_listed l k) c.in_ok-push.ensures.items ∙ push_nothing (λ r. r.superinterfaces) c.loop.rows.items _ c.new-in-loop-2.ensures c.loop.invariant.no_superinterfaces k;
}

use Rattle.std.proofs.Common.{◌==◌}
use Rattle.th_query.specs.declared.query.Element.{Element}
use Rattle.th_steps.proofs.Mentioned.{chosen_more, chosen_end}
use Rattle.th_steps.proofs.ordering.mention_elements.Goals as goal

pub loop-element-preserved : goal.loop-element-preserved
loop-element-preserved c =
    let none : Element = record { array = 0; value = 0 } in
    chosen_more (λ (x : Element). x.array == c.args.symbol) (λ (x : Element). x.value) c.args.elems.now c.loop-element.element-index none c.loop-element.order.items c.mention_if.new.order.items _ c.loop-element-test.true c.in_ok-mention_if.ensures c.loop-element.invariant

pub returns : goal.returns
returns c = chosen_end (λ (x : Element). x.array == c.args.symbol) (λ (x : Element). x.value) c.args.elems.now c.loop-element.element-index c.loop-element.order.items _ c.loop-element-test.false c.loop-element.invariant

use Rattle.std.proofs.Common.{sym, ap, ◌∙◌, map}
use Rattle.std.specs.Option.{option_map}
use Rattle.std.specs.List.{filter_map}
use Rattle.th_harness.specs.Asked.{asked}
use Rattle.th_harness.specs.Script.{order_in}
use Rattle.th_harness.proofs.Growth.{gives_more, gives_nothing, take_all}
use Rattle.th_harness.proofs.script.read_orders.Goals as goal
use Rattle.th_harness.proofs.script.read_orders.Goals.{in-Some+in_ok-push-in-Some, in-None}

pub loop-line-init : goal.loop-line-init
loop-line-init c = ap (map asked) c.new-orders.ensures.items

pub loop-line-preserved : goal.loop-line-preserved
loop-line-preserved c =
    let xs = c.as_slice-line-items.result.now in
    let i = c.loop-line.line-index in
    elim c.match-read_order.branch [
      | in-Some+in_ok-push-in-Some w ↦ rw w.orders-is
          (gives_more order_in (λ line. line.now) asked xs i _ w.in-Some.order c.loop-line.orders.items w.push.new.self.items c.loop-line-test.true
          (sym c.read_order.ensures ∙ ap (option_map asked) w.in-Some.is) c.loop-line.invariant w.in_ok-push-in-Some.ensures.items)
      | in-None w ↦ rw w.orders-is
          (gives_nothing order_in (λ line. line.now) asked xs i _ c.loop-line.orders.items c.loop-line-test.true
          (sym c.read_order.ensures ∙ ap (option_map asked) w.in-None.is) c.loop-line.invariant)
    ]

pub returns : goal.returns
returns c =
    c.loop-line.invariant
    ∙ ap (λ xs. filter_map order_in (map (λ line. line.now) xs)) (take_all c.as_slice-line-items.result.now c.loop-line.line-index c.loop-line-test.false c.loop-line.auto.line-index-end ∙ c.as_slice-line-items.ensures.value)
    ∙ ap (filter_map order_in) c.in_ok-lines.ensures

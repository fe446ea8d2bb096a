use Rattle.std.proofs.Common.{◌≡◌, take, map}
use Rattle.std.specs.List.{filter_map}
use Rattle.th_harness.specs.Asked.{asked}
use Rattle.th_harness.specs.Script.{order_in}
use Rattle.th_harness.proofs.script.read_orders.Given as goal

-- what the lines so far ask for
abbrev pub invariant-loop-line : goal.invariant-loop-line
invariant-loop-line l = map asked l.orders.items ≡ filter_map order_in (map (λ line. line.now) (take l.line-index l.line-items))

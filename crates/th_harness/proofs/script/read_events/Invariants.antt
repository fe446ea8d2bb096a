use Rattle.std.proofs.Common.{◌≡◌, take, map, None}
use Rattle.std.specs.Prelude.{not, is_some}
use Rattle.std.specs.List.{filter_map, position_from}
use Rattle.th_harness.specs.Asked.{asked}
use Rattle.th_harness.specs.Script.{event_of}
use Rattle.th_harness.proofs.script.read_events.Given as goal

-- the events of the orders so far, each of which names one
abbrev pub invariant-loop-place : goal.invariant-loop-place
invariant-loop-place l = record {
  events : l.events ≡ filter_map (event_of l.fn.program) (map asked (take l.place l.orders));
  all : position_from (λ o. not (is_some (event_of l.fn.program o))) 0 (map asked (take l.place l.orders)) ≡ None;
}

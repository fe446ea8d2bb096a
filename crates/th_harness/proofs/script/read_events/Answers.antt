use Rattle.std.proofs.Common.{sym, ap, ◌∙◌, map, ◌+◌}
use Rattle.std.specs.Prelude.{not, is_some, Ok, Err}
use Rattle.std.specs.List.{filter_map}
use Rattle.std.specs.Option.{option_map_or}
use Rattle.th_harness.specs.declared.script_error.ScriptError.TheVariants.{Event as BadEvent}
use Rattle.th_harness.specs.Asked.{asked}
use Rattle.th_harness.specs.Script.{event_of}
use Rattle.th_harness.proofs.Growth.{gives_one, none_so_far, stops_here}
use Rattle.th_harness.proofs.script.read_events.Goals as goal

pub returns-in-None : goal.returns-in-None
returns-in-None c =
    let files = c.args.program.now in
    ap (λ o. option_map_or (λ place. Err (BadEvent (place + 1))) o (Ok (filter_map (event_of files) (map asked c.args.orders.now))))
    (stops_here (λ o. not (is_some (event_of files o))) asked c.args.orders.now c.loop-place.place _ c.loop-place-test.true c.loop-place.invariant.all
    (ap (λ o. not (is_some o)) (sym c.event_of.ensures ∙ c.in-None.is)))

pub loop-place-preserved : goal.loop-place-preserved
loop-place-preserved c =
    let files = c.args.program.now in
    record {
      events = gives_one (event_of files) asked c.args.orders.now c.loop-place.place _ c.in-Some.event c.loop-place.events c.push.new.self c.loop-place-test.true
          (sym c.event_of.ensures ∙ c.in-Some.is) c.loop-place.invariant.events c.in_ok-push-in-Some.ensures.ok;
      all = none_so_far (λ o. not (is_some (event_of files o))) asked c.args.orders.now c.loop-place.place _ c.loop-place-test.true c.loop-place.invariant.all
          (ap (λ o. not (is_some o)) (sym c.event_of.ensures ∙ c.in-Some.is));
    }

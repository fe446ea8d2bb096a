use Rattle.std.proofs.Common.{◌≤◌, ◌-◌, length, take, arith, refl, sym, ap, ◌∙◌}
use Rattle.std.specs.Prelude.{reverse}
use Rattle.std.specs.Option.{option_copied}
use Rattle.th_machine.proofs.Arguments.{argument_more, not_there}
use Rattle.th_machine.proofs.calling.arguments.Goals as goal

pub unreachable-requires : goal.unreachable-requires
unreachable-requires c =
    let past : length c.args.stack.now ≤ c.args.slots - 1 - c.loop-place.place =
    not_there c.args.stack.now (c.args.slots - 1 - c.loop-place.place) (sym c.get.ensures.value ∙ ap option_copied c.in-None.is) in
    absurd (omega arith)

pub loop-place-preserved : goal.loop-place-preserved
loop-place-preserved c =
    argument_more c.args.stack.now (reverse (take c.args.slots c.args.stack.now)) c.loop-place.found.items c.push.new.self.items c.args.slots c.loop-place.place
    (c.args.slots - 1 - c.loop-place.place) c.in-Some.slot.now c.loop-place-test.true refl (sym c.get.ensures.value ∙ ap option_copied c.in-Some.is) c.in_ok-push-in-Some.ensures.items
    c.loop-place.invariant

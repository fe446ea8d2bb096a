use Rattle.std.proofs.Common.{◌<◌, ◌≤◌, length, arith, sym, ap, ◌∙◌}
use Rattle.std.specs.Option.{option_copied}
use Rattle.std.specs.Prelude.{slice_set}
use Rattle.th_machine.specs.Writing.{field_after}
use Rattle.th_machine.proofs.Arguments.{not_there}
use Rattle.th_machine.proofs.Written.{field_more, same_size, all_set}
use Rattle.th_machine.proofs.writing.set_field.Goals as goal

pub unreachable-requires : goal.unreachable-requires
unreachable-requires c =
    let past : length c.loop-place.fields ≤ c.loop-place.place = not_there c.loop-place.fields c.loop-place.place (sym c.get.ensures.value ∙ ap option_copied c.in-None.is) in
    let size = c.loop-place.invariant.size in
    absurd (omega (arith, size))

pub loop-place-preserved : goal.loop-place-preserved
loop-place-preserved c =
    let within : c.loop-place.place < length c.args.fields.now = omega arith in
    record {
      so_far = field_more (field_after c.args.field c.args.value) c.args.fields.now c.loop-place.fields c.set.new.self c.loop-place.place c.in-Some.found.now
          within c.loop-place.invariant.so_far (sym c.get.ensures.value ∙ ap option_copied c.in-Some.is) (c.set.ensures ∙ ap (slice_set c.loop-place.fields c.loop-place.place) c.field_after.ensures);
      size = same_size c.loop-place.fields c.set.new.self c.loop-place.place c.field_after.result c.set.ensures ∙ c.loop-place.invariant.size;
    }

pub returns : goal.returns
returns c =
    let over : length c.args.fields.now ≤ c.loop-place.place = omega arith in
    all_set (field_after c.args.field c.args.value) c.args.fields.now c.loop-place.fields c.loop-place.place over c.loop-place.invariant.so_far

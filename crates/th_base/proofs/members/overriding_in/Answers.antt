use Rattle.std.proofs.Common.{◌&&◌, not, refl, sym, ap, ◌∙◌}
use Rattle.std.specs.List.{slice_get}
use Rattle.std.specs.Option.{option_and_then, option_copied}
use Rattle.std.specs.Str.{bytes_eq}
use Rattle.th_base.specs.declared.class.MethodInfo.{MethodInfo}
use Rattle.th_base.proofs.MemberPlaces.{find_indexed, got_at}
use Rattle.th_base.proofs.members.overriding_in.Goals as goal

pub returns-in_err-place : goal.returns-in_err-place
returns-in_err-place c =
    let xs = c.args.class.now.methods in
    let indexed = find_indexed (λ (x : MethodInfo). not x.is_static && not x.is_private) (λ x. x.name) (λ x. x.descriptor) c.args.name.now c.args.descriptor.now
    (λ x. (bytes_eq x.name c.args.name.now && bytes_eq x.descriptor c.args.descriptor.now) && (not x.is_static && not x.is_private))
    (λ x. refl) xs c.args.members.now.overriding.entries.items c.requires in
    ap (λ o. option_copied o) c.from_residual.ensures ∙ sym (indexed ∙ ap (option_and_then (slice_get xs)) (sym c.first.ensures ∙ c.in_err-place.was))

pub returns : goal.returns
returns c =
    let xs = c.args.class.now.methods in
    let indexed = find_indexed (λ (x : MethodInfo). not x.is_static && not x.is_private) (λ x. x.name) (λ x. x.descriptor) c.args.name.now c.args.descriptor.now
    (λ x. (bytes_eq x.name c.args.name.now && bytes_eq x.descriptor c.args.descriptor.now) && (not x.is_static && not x.is_private))
    (λ x. refl) xs c.args.members.now.overriding.entries.items c.requires in
    got_at c.as_slice.result.now c.in_ok-place.place c.get.result c.get.ensures.lookup
    ∙ ap (λ l. slice_get l c.in_ok-place.place) c.as_slice.ensures
    ∙ sym (indexed ∙ ap (option_and_then (slice_get xs)) (sym c.first.ensures ∙ c.in_ok-place.was))

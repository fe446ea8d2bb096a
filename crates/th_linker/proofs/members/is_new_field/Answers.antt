use Rattle.std.proofs.Common.{◌≡◌, ◌<◌, Option, Some, None, ap, sym, ◌∙◌, subst, length}
use Rattle.std.proofs.lemmas.Option.{slice_get_within}
use Rattle.th_base.specs.Hierarchy.{resolved_field}
use Rattle.th_syntax.specs.Program.{hierarchy_of}
use Rattle.th_linker.proofs.Known.{asked, not_both}
use Rattle.th_linker.proofs.OwnPlaces.{HasField, field_at, field_inside, field_judged}
use Rattle.th_linker.proofs.members.is_new_field.Goals as goal

pub info_at-requires : goal.info_at-requires
info_at-requires c =
    let h = field_at c.args.program.now c.args.id.0 c.args.at c.args.class.now c.args.field.now c.requires.class c.requires.field in
    slice_get_within (hierarchy_of c.args.program.now) c.args.id.0 h.class h.stands

pub field_number-own-requires : goal.field_number-own-requires
field_number-own-requires c =
    let h = field_at c.args.program.now c.args.id.0 c.args.at c.args.class.now c.args.field.now c.requires.class c.requires.field in
    field_inside c.args.program.now c.args.id.0 c.args.at c.args.class.now c.args.field.now h c.info_at.result.now c.info_at.ensures

pub resolve_field-requires : goal.resolve_field-requires
resolve_field-requires c =
    let h = field_at c.args.program.now c.args.id.0 c.args.at c.args.class.now c.args.field.now c.requires.class c.requires.field in
    subst (λ xs. c.args.id.0 < length xs) (sym c.hierarchy.ensures) (slice_get_within (hierarchy_of c.args.program.now) c.args.id.0 h.class h.stands)

pub unreachable-requires : goal.unreachable-requires
unreachable-requires c =
    let h = field_at c.args.program.now c.args.id.0 c.args.at c.args.class.now c.args.field.now c.requires.class c.requires.field in
    let none : resolved_field (hierarchy_of c.args.program.now) c.args.id.0 c.args.field.now.name c.args.field.now.descriptor ≡ None =
    asked (λ h n d. resolved_field h c.args.id.0 n d) (hierarchy_of c.args.program.now) c.hierarchy.result.now c.args.field.now.name c.as_bytes.result.now c.args.field.now.descriptor c.as_bytes-2.result.now None c.in-None.ensures c.hierarchy.ensures c.as_bytes.ensures c.as_bytes-2.ensures in
    not_both (resolved_field (hierarchy_of c.args.program.now) c.args.id.0 c.args.field.now.name c.args.field.now.descriptor) (c.args.id.0, h.first) h.found none

pub returns : goal.returns
returns c =
    let h = field_at c.args.program.now c.args.id.0 c.args.at c.args.class.now c.args.field.now c.requires.class c.requires.field in
    let some : resolved_field (hierarchy_of c.args.program.now) c.args.id.0 c.args.field.now.name c.args.field.now.descriptor ≡ Some (c.in-Some.field-0-0.0, c.in-Some.first.now) =
    asked (λ h n d. resolved_field h c.args.id.0 n d) (hierarchy_of c.args.program.now) c.hierarchy.result.now c.args.field.now.name c.as_bytes.result.now c.args.field.now.descriptor c.as_bytes-2.result.now (Some (c.in-Some.field-0-0.0, c.in-Some.first.now)) c.in-Some.ensures c.hierarchy.ensures c.as_bytes.ensures c.as_bytes-2.ensures in
    field_judged c.args.program.now c.args.id.0 c.args.at c.args.class.now c.args.field.now h c.info_at.result.now c.info_at.ensures c.field_number-own.result c.in-Some.field-0-0.0 c.in-Some.first.now c.field_number-own.ensures some

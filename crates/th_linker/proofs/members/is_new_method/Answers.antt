use Rattle.std.proofs.Common.{◌≡◌, ◌<◌, Option, Some, None, ap, sym, ◌∙◌, subst, length}
use Rattle.std.proofs.lemmas.Option.{slice_get_within}
use Rattle.th_base.specs.Hierarchy.{declared_method}
use Rattle.th_syntax.specs.Program.{hierarchy_of}
use Rattle.th_linker.proofs.Known.{asked, not_both}
use Rattle.th_linker.proofs.OwnPlaces.{HasMethod, method_at, method_inside, method_judged}
use Rattle.th_linker.proofs.members.is_new_method.Goals as goal

pub info_at-requires : goal.info_at-requires
info_at-requires c =
    let h = method_at c.args.program.now c.args.id.0 c.args.at c.args.class.now c.args.method.now c.requires.class c.requires.method in
    slice_get_within (hierarchy_of c.args.program.now) c.args.id.0 h.class h.stands

pub method_number-own-requires : goal.method_number-own-requires
method_number-own-requires c =
    let h = method_at c.args.program.now c.args.id.0 c.args.at c.args.class.now c.args.method.now c.requires.class c.requires.method in
    method_inside c.args.program.now c.args.id.0 c.args.at c.args.class.now c.args.method.now h c.info_at.result.now c.info_at.ensures

pub declared_method-requires : goal.declared_method-requires
declared_method-requires c =
    let h = method_at c.args.program.now c.args.id.0 c.args.at c.args.class.now c.args.method.now c.requires.class c.requires.method in
    subst (λ xs. c.args.id.0 < length xs) (sym c.hierarchy.ensures) (slice_get_within (hierarchy_of c.args.program.now) c.args.id.0 h.class h.stands)

pub unreachable-requires : goal.unreachable-requires
unreachable-requires c =
    let h = method_at c.args.program.now c.args.id.0 c.args.at c.args.class.now c.args.method.now c.requires.class c.requires.method in
    let none : declared_method (hierarchy_of c.args.program.now) c.args.method.now.name c.args.method.now.descriptor c.args.id.0 ≡ None =
    asked (λ h n d. declared_method h n d c.args.id.0) (hierarchy_of c.args.program.now) c.hierarchy.result.now c.args.method.now.name c.as_bytes.result.now c.args.method.now.descriptor c.as_bytes-2.result.now None c.in-None.ensures c.hierarchy.ensures c.as_bytes.ensures c.as_bytes-2.ensures in
    not_both (declared_method (hierarchy_of c.args.program.now) c.args.method.now.name c.args.method.now.descriptor c.args.id.0) h.first h.found none

pub returns : goal.returns
returns c =
    let h = method_at c.args.program.now c.args.id.0 c.args.at c.args.class.now c.args.method.now c.requires.class c.requires.method in
    let some : declared_method (hierarchy_of c.args.program.now) c.args.method.now.name c.args.method.now.descriptor c.args.id.0 ≡ Some c.in-Some.first.now =
    asked (λ h n d. declared_method h n d c.args.id.0) (hierarchy_of c.args.program.now) c.hierarchy.result.now c.args.method.now.name c.as_bytes.result.now c.args.method.now.descriptor c.as_bytes-2.result.now (Some c.in-Some.first.now) c.in-Some.ensures c.hierarchy.ensures c.as_bytes.ensures c.as_bytes-2.ensures in
    method_judged c.args.program.now c.args.id.0 c.args.at c.args.class.now c.args.method.now h c.info_at.result.now c.info_at.ensures c.method_number-own.result c.in-Some.first.now c.method_number-own.ensures some

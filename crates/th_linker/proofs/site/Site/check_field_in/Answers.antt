use Rattle.std.proofs.Common.{◌≡◌, ℕ, [], ◌∷◌, Option, Some, None, ap, sym, subst, ◌∙◌}
use Rattle.th_base.specs.declared.class.FieldInfo.{FieldInfo}
use Rattle.th_base.specs.Hierarchy.{resolved_field}
use Rattle.th_syntax.specs.declared.cause.TheConstants as causes
use Rattle.th_syntax.specs.Flaws.{unless}
use Rattle.th_syntax.specs.LinkChecks.{field_faults_in, field_text, fault_of, agrees}
use Rattle.th_syntax.specs.Program.{hierarchy_of}
use Rattle.th_linker.specs.Checking.{Checks}
use Rattle.th_linker.specs.Sites.{refusals_at}
use Rattle.th_linker.proofs.Known.{asked}
use Rattle.th_linker.proofs.MembersFound.{field_found, field_missing}
use Rattle.th_linker.proofs.site.Site.check_field_in.Goals as goal

pub returns-in-Some : goal.returns-in-Some
returns-in-Some c =
    let r = c.args.field.now in
    let e : resolved_field (hierarchy_of c.args.self.now.program.now) c.args.owner.0 r.name r.descriptor ≡ Some (c.in-Some.field-0-0.0, c.in-Some.found.now) =
    asked (λ h n d. resolved_field h c.args.owner.0 n d) (hierarchy_of c.args.self.now.program.now) c.hierarchy.result.now r.name c.as_bytes-name.result.now r.descriptor c.as_bytes-descriptor.result.now
    (Some (c.in-Some.field-0-0.0, c.in-Some.found.now)) c.in-Some.ensures c.hierarchy.ensures c.as_bytes-name.ensures c.as_bytes-descriptor.ensures in
    let same = field_found c.args.self.now.program.now c.args.is_static r c.args.owner.0 c.in-Some.field-0-0.0 c.in-Some.found.now c.agrees.result e c.agrees.ensures in
    subst (λ faults. Checks c.check_field_fit.result (refusals_at c.args.self.now faults)) (sym same) c.check_field_fit.ensures

pub returns-in_ok-field_text-in-None : goal.returns-in_ok-field_text-in-None
returns-in_ok-field_text-in-None c =
    let r = c.args.field.now in
    let e : resolved_field (hierarchy_of c.args.self.now.program.now) c.args.owner.0 r.name r.descriptor ≡ None =
    asked (λ h n d. resolved_field h c.args.owner.0 n d) (hierarchy_of c.args.self.now.program.now) c.hierarchy.result.now r.name c.as_bytes-name.result.now r.descriptor c.as_bytes-descriptor.result.now
    None c.in-None.ensures c.hierarchy.ensures c.as_bytes-name.ensures c.as_bytes-descriptor.ensures in
    let text : c.in_ok-field_text-in-None.field-0 ≡ field_text r = c.in_ok-field_text-in-None.ensures in
    let same : field_faults_in c.args.self.now.program.now c.args.is_static r c.args.owner.0 ≡ fault_of causes.MISSING_MEMBER c.in_ok-field_text-in-None.field-0 ∷ [] =
    field_missing c.args.self.now.program.now c.args.is_static r c.args.owner.0 e ∙ ap (λ t. fault_of causes.MISSING_MEMBER t ∷ []) (sym text) in
    subst (λ faults. Checks c.refuse.result (refusals_at c.args.self.now faults)) (sym same) c.refuse.ensures

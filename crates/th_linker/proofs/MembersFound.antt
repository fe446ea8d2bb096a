-- What is refused of a field or a method that is found, or missing.
use Rattle.std.proofs.Common.{◌≡◌, ◌&&◌, ℕ, Bool, false, List, [], ◌∷◌, Option, Some, None, ap, sym, ◌∙◌}
use Rattle.std.specs.Prelude.{slice_get}
use Rattle.std.specs.Option.{option_map_or}
use Rattle.th_base.specs.declared.class.FieldInfo.{FieldInfo}
use Rattle.th_base.specs.declared.class.MethodInfo.{MethodInfo}
use Rattle.th_base.specs.Hierarchy.{resolved_field, resolved_method}
use Rattle.th_syntax.specs.declared.cause.TheConstants as cause
use Rattle.th_syntax.specs.declared.class_file.ClassFile.{ClassFile}
use Rattle.th_syntax.specs.declared.instr.MemberRef.{MemberRef}
use Rattle.th_syntax.specs.Flags.{is_interface}
use Rattle.th_syntax.specs.Flaws.{unless}
use Rattle.th_syntax.specs.LinkChecks.{Fault, field_faults_in, method_faults_in, field_text, method_text, fault_of, agrees}
use Rattle.th_syntax.specs.Program.{all_classes, hierarchy_of}

abbrev faults_of : Bool → MemberRef → Option (ℕ × FieldInfo) → List Fault
faults_of static_one r o =
    option_map_or (λ (f : ℕ × FieldInfo). unless (agrees static_one f.1.is_static) (fault_of cause.MEMBER (field_text r))) o (fault_of cause.MISSING_MEMBER (field_text r) ∷ [])

pub field_found : (files : List ClassFile) (static_one : Bool) (r : MemberRef) (owner class : ℕ) (f : FieldInfo) (fits : Bool) → resolved_field (hierarchy_of files) owner r.name r.descriptor ≡ Some (class, f)
    → fits ≡ agrees static_one f.is_static → field_faults_in files static_one r owner ≡ unless fits (fault_of cause.MEMBER (field_text r))
field_found files static_one r owner class f fits e is = ap (faults_of static_one r) e ∙ ap (λ b. unless b (fault_of cause.MEMBER (field_text r))) (sym is)

pub field_missing : (files : List ClassFile) (static_one : Bool) (r : MemberRef) (owner : ℕ) → resolved_field (hierarchy_of files) owner r.name r.descriptor ≡ None
    → field_faults_in files static_one r owner ≡ fault_of cause.MISSING_MEMBER (field_text r) ∷ []
field_missing files static_one r owner e = ap (faults_of static_one r) e

-- of a class's number whether it is an interface
abbrev of_class : List ClassFile → ℕ → Bool
of_class files owner = option_map_or is_interface (slice_get (all_classes files) owner) false

abbrev method_faults_of : Bool → Bool → Bool → MemberRef → Option (ℕ × MethodInfo) → List Fault
method_faults_of static_one of_interface interface r o =
    option_map_or (λ (m : ℕ × MethodInfo). unless (agrees static_one m.1.is_static && agrees of_interface interface) (fault_of cause.MEMBER (method_text r))) o (fault_of cause.MISSING_MEMBER (method_text r) ∷ [])

pub method_found : (files : List ClassFile) (static_one of_interface : Bool) (r : MemberRef) (owner class : ℕ) (m : MethodInfo) (interface fits : Bool) → resolved_method (hierarchy_of files) owner r.name r.descriptor ≡ Some (class, m)
    → interface ≡ of_class files owner → fits ≡ (agrees static_one m.is_static && agrees of_interface interface) → method_faults_in files static_one of_interface r owner ≡ unless fits (fault_of cause.MEMBER (method_text r))
method_found files static_one of_interface r owner class m interface fits e same is =
    ap (method_faults_of static_one of_interface (of_class files owner) r) e
    ∙ ap (λ b. unless (agrees static_one m.is_static && agrees of_interface b) (fault_of cause.MEMBER (method_text r))) (sym same)
    ∙ ap (λ b. unless b (fault_of cause.MEMBER (method_text r))) (sym is)

pub method_missing : (files : List ClassFile) (static_one of_interface : Bool) (r : MemberRef) (owner : ℕ) → resolved_method (hierarchy_of files) owner r.name r.descriptor ≡ None
    → method_faults_in files static_one of_interface r owner ≡ fault_of cause.MISSING_MEMBER (method_text r) ∷ []
method_missing files static_one of_interface r owner e = ap (method_faults_of static_one of_interface (of_class files owner) r) e

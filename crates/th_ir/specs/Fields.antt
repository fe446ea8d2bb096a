-- What a field is: the fields of the classes by number, and two that no class declares, the length
-- of an array and the stage of an Activity. All that is said of a field is asked here.
use Rattle.std.specs.Prelude.{ℕ, ◌+◌, ◌≡◌, ◌==◌, ◌&&◌, ◌||◌, nat_lt, nat_le, Bool, true, false, not, List, [], ◌∷◌, ◌++◌, length, map, Option, None, Some, slice_get, if◌then◌else◌}
use Rattle.std.specs.Option.{option_and_then, option_map_or}
use Rattle.th_base.specs.declared.class.ClassInfo.{ClassInfo}
use Rattle.th_base.specs.declared.class.FieldInfo.{FieldInfo}
use Rattle.th_base.specs.declared.class.MethodInfo.{MethodInfo}
use Rattle.th_base.specs.declared.built_in.TheConstants.{BUILT_IN_COUNT}
use Rattle.th_base.specs.Hierarchy.{is_subclass}
use Rattle.th_base.specs.Launchable.{is_launchable}
use Rattle.th_base.specs.ValueKinds.{is_reference, is_int}
use Rattle.th_ir.specs.declared.field.FieldKind.{FieldKind}
use Rattle.th_ir.specs.declared.field.FieldKind.TheVariants.{Int, Ref}
use Rattle.th_ir.specs.declared.field.TheConstants.{LENGTH, STAGE}
use Rattle.th_ir.specs.declared.program.RegProgram.{RegProgram}
use Rattle.th_ir.specs.Sites.{site_class, is_array_site}

-- the numbers of the two fields that no class declares
abbrev pub length_field : ℕ
length_field = LENGTH.0

abbrev pub stage_field : ℕ
stage_field = STAGE.0

-- a field with the class that declares it
abbrev pub owned_fields_from : ℕ → List ClassInfo → List (ℕ × FieldInfo)
owned_fields_from c [] = []
owned_fields_from c (k ∷ ks) = map (λ f. (c, f)) k.fields ++ owned_fields_from (c + 1) ks

-- the fields of all classes in order: a field's number is its place
abbrev pub owned_fields : List ClassInfo → List (ℕ × FieldInfo)
owned_fields h = owned_fields_from 0 h

abbrev pub field_at : List ClassInfo → ℕ → Option (ℕ × FieldInfo)
field_at h f = slice_get (owned_fields h) f

abbrev pub field_count : List ClassInfo → ℕ
field_count h = length (owned_fields h)

-- the number is a field's
abbrev pub field_known : List ClassInfo → ℕ → Bool
field_known h f = nat_lt f (field_count h) || (f == stage_field || f == length_field)

-- what the register form keeps of a value of this descriptor: references and ints, no longs
abbrev pub kind_of : List ℕ → Option FieldKind
kind_of descriptor = if is_reference descriptor then Some Ref else if is_int descriptor then Some Int else None

abbrev pub is_kept : List ℕ → Bool
is_kept descriptor = is_reference descriptor || is_int descriptor

-- the field belongs to instances, and is kept
abbrev pub is_kept_instance : FieldInfo → Bool
is_kept_instance field = not field.is_static && is_kept field.descriptor

-- what a field holds; none for a long and for what is no field
abbrev pub field_kind : List ClassInfo → ℕ → Option FieldKind
field_kind h f =
    if f == stage_field || f == length_field then Some Int else option_and_then (λ d. kind_of d.1.descriptor) (field_at h f)

abbrev pub is_ref_kind : Option FieldKind → Bool
is_ref_kind (Some Ref) = true
is_ref_kind (Some Int) = false
is_ref_kind None = false

-- the field holds references
abbrev pub is_ref_field : List ClassInfo → ℕ → Bool
is_ref_field h f = is_ref_kind (field_kind h f)

-- a static field of the register form
abbrev pub is_static_field : List ClassInfo → ℕ → Bool
is_static_field h f = option_map_or (λ d. d.1.is_static && is_kept d.1.descriptor) (field_at h f) false

-- an instance field of the register form: a declared one, or the stage
abbrev pub is_instance_field : List ClassInfo → ℕ → Bool
is_instance_field h f = f == stage_field || option_map_or (λ d. is_kept_instance d.1) (field_at h f) false

-- a static field that a class of a file declares
abbrev pub is_file_static : List ClassInfo → ℕ → Bool
is_file_static h f = option_map_or (λ d. d.1.is_static && nat_le BUILT_IN_COUNT d.0) (field_at h f) false

-- the objects of a class have the field: the class or a superclass declares it, it isn't static, and
-- it is kept; those of launchable classes have a stage
abbrev pub class_has : List ClassInfo → ℕ → ℕ → Bool
class_has h c f =
    if f == stage_field then is_launchable h c
    else option_map_or (λ d. is_kept_instance d.1 && is_subclass h c d.0) (field_at h f) false

-- the objects or arrays of a site have the field
abbrev pub has_field : List ClassInfo → RegProgram → ℕ → ℕ → Bool
has_field h p s f = if f == length_field then is_array_site p s else option_map_or (λ c. class_has h c f) (site_class h p s) false

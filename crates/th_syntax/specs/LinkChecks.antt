-- The checks that link class files with each other. They make passes over the classes in order: names,
-- supertypes, members, and what reachable instructions name. Each pass gives its refusals in the order in
-- which they count.
use Rattle.std.specs.Prelude.{ℕ, ◌&&◌, ◌||◌, not, Bool, true, false, List, [], ◌∷◌, ◌++◌, map, find, length, codes, nat_le, Option, None, Some, is_some, slice_get, if◌then◌else◌}
use Rattle.std.specs.List.{flat_map, list_any}
use Rattle.std.specs.Option.{option_map_or}
use Rattle.std.specs.Str.{bytes_eq}
use Rattle.th_base.specs.declared.built_in.TheConstants.{OBJECT}
use Rattle.th_base.specs.declared.handler.TheConstants.{TAKES_NOTHING}
use Rattle.th_base.specs.declared.class.FieldInfo.{FieldInfo}
use Rattle.th_base.specs.declared.class.MethodInfo.{MethodInfo}
use Rattle.th_base.specs.BuiltIn.{is_built_in}
use Rattle.th_base.specs.Hierarchy.{resolved_field, resolved_method}
use Rattle.th_base.specs.Subtype.{JavaType, ClassType, ArrayType, PrimitiveType, named_type}
use Rattle.th_syntax.specs.declared.cause.TheConstants as cause
use Rattle.th_syntax.specs.declared.limit.TheConstants.{MOST_METHODS}
use Rattle.th_syntax.specs.declared.class_file.ClassFile.{ClassFile}
use Rattle.th_syntax.specs.declared.class_file.Member.{Member}
use Rattle.th_syntax.specs.declared.instr.Instr.{Instr}
use Rattle.th_syntax.specs.declared.instr.Instr.TheVariants.{GetStatic, PutStatic, GetField, PutField, InvokeVirtual, InvokeSpecial, InvokeInterface, InvokeStatic, New, ANewArray, CheckCast, InstanceOf}
use Rattle.th_syntax.specs.declared.instr.MemberRef.{MemberRef}
use Rattle.th_syntax.specs.declared.refusal.Refusal.{Refusal}
use Rattle.th_syntax.specs.Arrays.{begins_array}
use Rattle.th_syntax.specs.Flags.{is_static, is_interface, is_abstract_method}
use Rattle.th_syntax.specs.Flaws.{unless}
use Rattle.th_syntax.specs.Flow.{reached_code}
use Rattle.th_syntax.specs.Program.{all_classes, methods_of, number_named, hierarchy_of}
use Rattle.th_syntax.specs.WellFormed.{is_class_initialiser}

-- a refusal of a class, by its number, by the member or name at fault and by an offset in code
abbrev pub refusal_of : ℕ → List ℕ → List ℕ → ℕ → Refusal
refusal_of number class member offset = record { number = number; class = class; member = member; offset = offset }

-- a refusal of a class that lies in no instruction
abbrev pub refusal_at : ℕ → ClassFile → List ℕ → Refusal
refusal_at number c member = refusal_of number c.name member 0

-- what a check finds at each item, where it is also given the items before
abbrev pub found_along : {A : Type 0} → (List A → A → List Refusal) → List A → List A → List Refusal
found_along check before [] = []
found_along check before (x ∷ xs) = check before x ++ found_along check (before ++ x ∷ []) xs

-- ---- the first pass: names of classes

-- a class has another name than those before it, and than the built-in ones
abbrev pub class_name_refusals : List ClassFile → ClassFile → List Refusal
class_name_refusals before c =
    unless (not (list_any (λ d. bytes_eq d.name c.name) before)) (refusal_at cause.DUPLICATE c [])
    ++ unless (not (is_built_in c.name)) (refusal_at cause.BUILT_IN c [])

abbrev pub name_refusals : List ClassFile → List Refusal
name_refusals files = found_along class_name_refusals [] files

-- ---- the second pass: supertypes

-- the class of a name
abbrev pub class_of_name : List ClassFile → List ℕ → Option ClassFile
class_of_name files name = find (λ c. bytes_eq c.name name) (all_classes files)

-- a class names a supertype: it is there, and passes a test
abbrev pub supertype_name_refusals : List ClassFile → ClassFile → (ClassFile → Bool) → List ℕ → List Refusal
supertype_name_refusals files c fits name =
    option_map_or (λ s. unless (fits s) (refusal_at cause.SUPER c name)) (class_of_name files name)
    (refusal_at cause.MISSING_CLASS c name ∷ [])

-- a superclass is no interface, and that of an interface is java/lang/Object (Java specification 4.1)
abbrev pub is_fit_superclass : ClassFile → ClassFile → Bool
is_fit_superclass c s = not (is_interface s) && (not (is_interface c) || bytes_eq s.name OBJECT.now)

-- a class has a superclass
abbrev pub superclass_refusals : List ClassFile → ClassFile → List Refusal
superclass_refusals files c =
    option_map_or (supertype_name_refusals files c (is_fit_superclass c)) c.super_name (refusal_at cause.SUPER c [] ∷ [])

-- superinterfaces are interfaces
abbrev pub interface_refusals : List ClassFile → ClassFile → List Refusal
interface_refusals files c = flat_map (supertype_name_refusals files c is_interface) c.interfaces

-- of each class the superclass, then the superinterfaces
abbrev pub supertype_refusals : List ClassFile → List Refusal
supertype_refusals files = flat_map (λ c. superclass_refusals files c ++ interface_refusals files c) files

-- the name of the class of a number
abbrev pub name_of : List ClassFile → ℕ → List ℕ
name_of files n = option_map_or (λ c. c.name) (slice_get (all_classes files) n) []

-- a class stands above itself by this supertype (Java language specification 8.1.4, 9.1.3)
abbrev pub cycle_refusal : List ClassFile → ℕ → ℕ → Refusal
cycle_refusal files c s = refusal_of cause.SUPER (name_of files c) (name_of files s) 0

-- ---- the third pass: members

-- a member of this name and descriptor is among these
abbrev pub has_member : List Member → List ℕ → List ℕ → Bool
has_member members name descriptor = list_any (λ m. bytes_eq m.name name && bytes_eq m.descriptor descriptor) members

-- a field comes once (Java specification 4.5)
abbrev pub field_refusals : ClassFile → List Member → Member → List Refusal
field_refusals c before f =
    unless (not (has_member before f.name f.descriptor)) (refusal_at cause.MEMBER c (f.name ++ codes ":" ++ f.descriptor))

-- a method has code exactly where it isn't abstract (Java specification 4.7.3)
abbrev pub is_code_fit : Member → Bool
is_code_fit m = if is_abstract_method m then not (is_some m.code) else is_some m.code

-- a class's initialiser is static, takes and gives nothing, and isn't abstract (Java specification 2.9)
abbrev pub is_initialiser_fit : Member → Bool
is_initialiser_fit m =
    not (is_class_initialiser m.name) || (is_static m && bytes_eq m.descriptor TAKES_NOTHING.now && not (is_abstract_method m))

-- a method comes once (Java specification 4.6), with code or without, and initialisers are fit
abbrev pub method_refusals : ClassFile → List Member → Member → List Refusal
method_refusals c before m =
    unless (not (has_member before m.name m.descriptor) && is_code_fit m && is_initialiser_fit m)
    (refusal_at cause.MEMBER c (m.name ++ m.descriptor))

-- of each class the fields, then the methods
abbrev pub member_refusals : List ClassFile → List Refusal
member_refusals files = flat_map (λ c. found_along (field_refusals c) [] c.fields ++ found_along (method_refusals c) [] c.methods) files

-- ---- the fourth pass: what reachable instructions name

-- what an instruction names of the program: a class by its name or an array by its descriptor, a field
-- or a method; whether the member is static, and whether the method's class is an interface
pub data Use : Type 0 where
  nothing : Use
  class_use : List ℕ → Use
  field_use : (static_one : Bool) → MemberRef → Use
  method_use : (static_one : Bool) → (of_interface : Bool) → MemberRef → Use

-- what each instruction names (Java specification 6.5); others name nothing
abbrev pub use_of : Instr → Use
use_of (GetStatic r) = field_use true r
use_of (PutStatic r) = field_use true r
use_of (GetField r) = field_use false r
use_of (PutField r) = field_use false r
use_of (InvokeVirtual r) = method_use false false r
use_of (InvokeSpecial r) = method_use false false r
use_of (InvokeInterface r) = method_use false true r
use_of (InvokeStatic r) = method_use true false r
use_of (New name) = class_use name
use_of (ANewArray name) = class_use name
use_of (CheckCast name) = class_use name
use_of (InstanceOf name) = class_use name
use_of other = nothing

-- A cause, by its number, and the member or name at fault.
pub record Fault : Type 0 where
  pub number : ℕ
  pub member : List ℕ

abbrev pub fault_of : ℕ → List ℕ → Fault
fault_of number member = record { number = number; member = member }

-- the class that a type names: of an array that of its elements, none where these are primitive
abbrev pub class_in_type : JavaType → Option (List ℕ)
class_in_type (ClassType name) = Some name
class_in_type (ArrayType component) = class_in_type component
class_in_type (PrimitiveType letter) = None

-- a class that is named is there
abbrev pub class_faults : List ClassFile → List ℕ → List Fault
class_faults files name = unless (is_some (number_named files name)) (fault_of cause.MISSING_CLASS name)

-- so is the class of an array's elements
abbrev pub type_faults : List ClassFile → List ℕ → List Fault
type_faults files name = option_map_or (class_faults files) (class_in_type (named_type name)) []

-- two answers are one
abbrev pub agrees : Bool → Bool → Bool
agrees true b = b
agrees false b = not b

-- a field's owner, name and descriptor as they are printed
abbrev pub field_text : MemberRef → List ℕ
field_text r = r.owner ++ codes "." ++ r.name ++ codes ":" ++ r.descriptor

-- a method's
abbrev pub method_text : MemberRef → List ℕ
method_text r = r.owner ++ codes "." ++ r.name ++ r.descriptor

-- the field is found, and static or not as it must be
abbrev pub field_faults_in : List ClassFile → Bool → MemberRef → ℕ → List Fault
field_faults_in files static_one r owner =
    option_map_or (λ (f : ℕ × FieldInfo). unless (agrees static_one f.1.is_static) (fault_of cause.MEMBER (field_text r)))
    (resolved_field (hierarchy_of files) owner r.name r.descriptor)
    (fault_of cause.MISSING_MEMBER (field_text r) ∷ [])

-- the method is found, and static or not as it must be; and so is its class an interface or not
abbrev pub method_faults_in : List ClassFile → Bool → Bool → MemberRef → ℕ → List Fault
method_faults_in files static_one of_interface r owner =
    option_map_or (λ (m : ℕ × MethodInfo).
    unless (agrees static_one m.1.is_static && agrees of_interface (option_map_or is_interface (slice_get (all_classes files) owner) false))
    (fault_of cause.MEMBER (method_text r)))
    (resolved_method (hierarchy_of files) owner r.name r.descriptor)
    (fault_of cause.MISSING_MEMBER (method_text r) ∷ [])

-- an owner is there, and what follows from its number
abbrev pub owner_faults : List ClassFile → List ℕ → (ℕ → List Fault) → List Fault
owner_faults files owner faults = option_map_or faults (number_named files owner) (fault_of cause.MISSING_CLASS owner ∷ [])

-- The faults of what an instruction names. No method of an array is found.
abbrev pub use_faults : List ClassFile → Use → List Fault
use_faults files nothing = []
use_faults files (class_use name) = type_faults files name
use_faults files (field_use static_one r) = owner_faults files r.owner (field_faults_in files static_one r)
use_faults files (method_use static_one of_interface r) =
    if begins_array r.owner
    then type_faults files r.owner ++ fault_of cause.MISSING_MEMBER (method_text r) ∷ []
    else owner_faults files r.owner (method_faults_in files static_one of_interface r)

abbrev pub instr_refusals : List ClassFile → ClassFile → ℕ × Instr → List Refusal
instr_refusals files c i = map (λ (f : Fault). refusal_of f.number c.name f.member i.0) (use_faults files (use_of i.1))

-- of the instructions that a path from the start reaches, in order
abbrev pub code_refusals : List ClassFile → ClassFile → Member → List Refusal
code_refusals files c m = option_map_or (λ code. flat_map (instr_refusals files c) (reached_code code.instrs)) m.code []

abbrev pub use_refusals : List ClassFile → List Refusal
use_refusals files = flat_map (λ c. flat_map (code_refusals files c) c.methods) files

-- ---- after the passes

-- the methods of a program, with those of the built-in classes, are not too many
abbrev pub are_few : List ClassFile → Bool
are_few files = nat_le (length (methods_of files)) MOST_METHODS

-- too many methods lie in no class
abbrev pub methods_refusal : Refusal
methods_refusal = refusal_of cause.LIMIT [] (codes "methods") 0

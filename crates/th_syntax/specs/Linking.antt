-- Which class files are linked with each other, why others are refused first, and what linked
-- instructions name.
use Rattle.std.specs.Prelude.{ℕ, ◌≡◌, true, false, Bool, List, [], Some, slice_get, ⊤}
use Rattle.th_base.specs.declared.class.FieldInfo.{FieldInfo}
use Rattle.th_base.specs.declared.class.MethodInfo.{MethodInfo}
use Rattle.th_base.specs.Cycles.{IsFirstCycle}
use Rattle.th_base.specs.Hierarchy.{IsAcyclic, resolved_method}
use Rattle.th_base.specs.Subtype.{named_type}
use Rattle.th_syntax.specs.declared.class_file.ClassFile.{ClassFile}
use Rattle.th_syntax.specs.declared.instr.MemberRef.{MemberRef}
use Rattle.th_syntax.specs.declared.refusal.Refusal.{Refusal}
use Rattle.th_syntax.specs.Fields.{field_resolved}
use Rattle.th_syntax.specs.Flags.{is_interface}
use Rattle.th_syntax.specs.LinkChecks.{name_refusals, supertype_refusals, cycle_refusal, member_refusals, use_refusals, are_few, methods_refusal, Use, nothing, class_use, field_use, method_use, class_in_type}
use Rattle.th_syntax.specs.Program.{all_classes, hierarchy_of, number_named}

-- the names and the supertypes of class files are in order: their hierarchy may be asked
pub record AreOrdered (files : List ClassFile) : Type 0 where
  pub names : name_refusals files ≡ []
  pub supertypes : supertype_refusals files ≡ []
  pub acyclic : IsAcyclic (hierarchy_of files)

-- no check fails
pub record IsLinked (files : List ClassFile) : Type 0 where
  pub ordered : AreOrdered files
  pub members : member_refusals files ≡ []
  pub uses : use_refusals files ≡ []
  pub few : are_few files ≡ true

-- The first refusal is the first one of the first pass that finds any. Cycles are looked for after all
-- other checks of supertypes, and methods are counted after the passes.
pub data IsFirstRefusal (files : List ClassFile) (refusal : Refusal) : Type 0 where
  by_name : slice_get (name_refusals files) 0 ≡ Some refusal → IsFirstRefusal files refusal
  by_supertype : name_refusals files ≡ [] → slice_get (supertype_refusals files) 0 ≡ Some refusal → IsFirstRefusal files refusal
  by_cycle : name_refusals files ≡ [] → supertype_refusals files ≡ [] → (c s : ℕ) → IsFirstCycle (hierarchy_of files) c s
      → refusal ≡ cycle_refusal files c s → IsFirstRefusal files refusal
  by_member : AreOrdered files → slice_get (member_refusals files) 0 ≡ Some refusal → IsFirstRefusal files refusal
  by_use : AreOrdered files → member_refusals files ≡ [] → slice_get (use_refusals files) 0 ≡ Some refusal → IsFirstRefusal files refusal
  by_methods : AreOrdered files → member_refusals files ≡ [] → use_refusals files ≡ [] → are_few files ≡ false
      → refusal ≡ methods_refusal → IsFirstRefusal files refusal

-- ---- what an instruction names stands in the program

-- a class, or that of an array's elements, is there
pub record IsClassThere (files : List ClassFile) (name : List ℕ) : Type 0 where
  pub number : ℕ
  pub named : number_named files name ≡ Some number

-- a field resolves to one that is static or not
pub record IsFieldFound (files : List ClassFile) (static_one : Bool) (r : MemberRef) : Type 0 where
  pub found : ℕ × FieldInfo
  pub resolved : field_resolved files r ≡ Some found
  pub static_or_not : found.1.is_static ≡ static_one

-- a method's owner is an interface or not, and the method resolves to one that is static or not
pub record IsMethodFound (files : List ClassFile) (static_one of_interface : Bool) (r : MemberRef) : Type 0 where
  pub owner : ℕ
  pub owner_named : number_named files r.owner ≡ Some owner
  pub class : ClassFile
  pub owner_stands : slice_get (all_classes files) owner ≡ Some class
  pub interface_or_not : is_interface class ≡ of_interface
  pub found : ℕ × MethodInfo
  pub resolved : resolved_method (hierarchy_of files) owner r.name r.descriptor ≡ Some found
  pub static_or_not : found.1.is_static ≡ static_one

abbrev pub Stands : List ClassFile → Use → Type 0
Stands files nothing = ⊤
Stands files (class_use name) = (class : List ℕ) → class_in_type (named_type name) ≡ Some class → IsClassThere files class
Stands files (field_use static_one r) = IsFieldFound files static_one r
Stands files (method_use static_one of_interface r) = IsMethodFound files static_one of_interface r

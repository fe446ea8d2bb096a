-- What is said of every run: where the values of static fields and the objects of Activity classes
-- come from, where code frames stand, and that objects keep their types.
use Rattle.std.specs.Prelude.{ℕ, ◌≡◌, ◌⊎◌, true, List, Some, slice_get, ⊤}
use Rattle.th_base.specs.declared.built_in.TheConstants.{STRING_NUMBER}
use Rattle.th_base.specs.declared.class.FieldInfo.{FieldInfo}
use Rattle.th_base.specs.declared.number.FieldId.{FieldId}
use Rattle.th_syntax.specs.declared.class_file.ClassFile.{ClassFile}
use Rattle.th_syntax.specs.declared.class_file.Code.{Code}
use Rattle.th_syntax.specs.declared.class_file.Constant.{Constant}
use Rattle.th_syntax.specs.declared.instr.Instr.{Instr}
use Rattle.th_syntax.specs.declared.instr.Instr.TheVariants.{PutStatic, New}
use Rattle.th_syntax.specs.declared.instr.MemberRef.{MemberRef}
use Rattle.th_syntax.specs.Flow.{IsReached}
use Rattle.th_syntax.specs.Machine.{Value, Object, Instance, class_id, Frame, CodeFrame, InitFrame, LaunchFrame}
use Rattle.th_syntax.specs.Program.{is_launchable, Owned, fields_of, number_named, code_of, instr_at}
use Rattle.th_syntax.specs.Initial.{default_value, constant_value}
use Rattle.th_syntax.specs.Fields.{field_resolved}
use Rattle.th_syntax.specs.Changes.{AreOfOneType}

-- a path of a method's code leads to the offset
pub record IsReachedIn (files : List ClassFile) (method offset : ℕ) : Type 0 where
  pub code : Code
  pub is_code : code_of files method ≡ Some code
  pub reached : IsReached code.instrs offset

-- an instruction of a method stands at an offset to which a path leads
pub record IsReachedInstr (files : List ClassFile) (i : Instr) : Type 0 where
  pub method : ℕ
  pub offset : ℕ
  pub stands : instr_at files method offset ≡ Some i
  pub reached : IsReachedIn files method offset

-- a value that a field has with no store: 0 or null, or its ConstantValue
pub record IsOriginal (files : List ClassFile) (field : ℕ) (v : Value) : Type 0 where
  pub declared : Owned
  pub numbered : slice_get (fields_of files) field ≡ Some declared
  pub value : (v ≡ default_value declared.member.descriptor)
      ⊎ ((c : Constant) × (declared.member.constant ≡ Some c) × (v ≡ constant_value files c))

-- a `putstatic` of the program that is reached resolves to the field
pub record IsStoredInto (files : List ClassFile) (field : ℕ) : Type 0 where
  pub reference : MemberRef
  pub stored : IsReachedInstr files (PutStatic reference)
  pub resolved : ℕ × FieldInfo
  pub resolves : field_resolved files reference ≡ Some resolved
  pub numbered : resolved.1.id.0 ≡ field

-- a `new` of the program that is reached names the class
pub record IsCreated (files : List ClassFile) (class : ℕ) : Type 0 where
  pub name : List ℕ
  pub created : IsReachedInstr files (New name)
  pub names : number_named files name ≡ Some class

-- the harness launches objects of the class, or a `new` of the program names it
abbrev pub IsMade : List ClassFile → ℕ → Type 0
IsMade files class = (is_launchable files class ≡ true) ⊎ IsCreated files class

-- a code frame stands at an offset to which a path leads
abbrev pub IsOnPath : List ClassFile → Frame → Type 0
IsOnPath files (CodeFrame method offset locals stack) = IsReachedIn files method.0 offset
IsOnPath files (InitFrame class stage) = ⊤
IsOnPath files (LaunchFrame class stage) = ⊤

-- a code frame stands at an instruction of its method
abbrev pub IsAtInstruction : List ClassFile → Frame → Type 0
IsAtInstruction files (CodeFrame method offset locals stack) = (i : Instr) × (instr_at files method.0 offset ≡ Some i)
IsAtInstruction files (InitFrame class stage) = ⊤
IsAtInstruction files (LaunchFrame class stage) = ⊤

-- wherever a path of a method's code leads an instruction stands (Java specification 4.9.1)
abbrev pub EveryPathStands : List ClassFile → Type 0
EveryPathStands files = (method offset : ℕ) → IsReachedIn files method offset → (i : Instr) × (instr_at files method offset ≡ Some i)

-- at the address stands an object of the same class, or an array of the same type
pub record KeepsType (o : Object) (heap : List Object) (address : ℕ) : Type 0 where
  pub now : Object
  pub stands : slice_get heap address ≡ Some now
  pub same : AreOfOneType o now

-- at the address stands a String
pub record IsString (heap : List Object) (address : ℕ) : Type 0 where
  pub fields : List (FieldId × Value)
  pub stands : slice_get heap address ≡ Some (Instance (class_id STRING_NUMBER) fields)

-- What is asked of a program whose runs keep to kinds.
use Rattle.std.specs.Prelude.{ℕ, ◌≡◌, true, false, List, codes, Some, slice_get, Contains, ⊤}
use Rattle.th_base.specs.declared.class.MethodInfo.{MethodInfo}
use Rattle.th_base.specs.Hierarchy.{declared_method}
use Rattle.th_syntax.specs.declared.class_file.ClassFile.{ClassFile}
use Rattle.th_syntax.specs.declared.class_file.Code.{Code}
use Rattle.th_syntax.specs.declared.class_file.Constant.{Constant}
use Rattle.th_syntax.specs.declared.instr.Instr.{Instr}
use Rattle.th_syntax.specs.declared.instr.Instr.TheVariants.{Str, New}
use Rattle.th_syntax.specs.Changes.{FallsThrough}
use Rattle.th_syntax.specs.Descriptors.{MethodType, is_floating_method, method_type_of}
use Rattle.th_syntax.specs.Facts.{IsReachedInstr}
use Rattle.th_syntax.specs.Flags.{is_static}
use Rattle.th_syntax.specs.Flow.{instr_in, offset_after, successors_of}
use Rattle.th_syntax.specs.Initial.{constant_value}
use Rattle.th_syntax.specs.Kinds.{KindsAt}
use Rattle.th_syntax.specs.KindRows.{field_slots}
use Rattle.th_syntax.specs.KindTable.{HasKinds}
use Rattle.th_syntax.specs.LinkChecks.{Use, nothing, class_use, field_use, method_use, use_of}
use Rattle.th_syntax.specs.Linking.{IsLinked}
use Rattle.th_syntax.specs.Program.{Owned, fields_of, methods_of, hierarchy_of, is_launchable, number_named, code_of}
use Rattle.th_syntax.specs.Strings.{string_number_of}
use Rattle.th_runs.specs.Fitting.{type_slots, IsOfType}

-- code that control doesn't leave but by its returns (Java specification 4.9.1): an instruction stands at its
-- start and wherever one leads, and behind each behind which control goes on
pub record IsClosed (instrs : List (ℕ × Instr)) : Type 0 where
  pub begins : (i : Instr) × (instr_in instrs 0 ≡ Some i)
  pub leads : (offset to : ℕ) (i : Instr) → instr_in instrs offset ≡ Some i → Contains (successors_of instrs (offset, i)) to
      → (j : Instr) × (instr_in instrs to ≡ Some j)
  pub goes_on : (offset : ℕ) (i : Instr) → instr_in instrs offset ≡ Some i → FallsThrough i
      → (next : ℕ) × (offset_after instrs offset ≡ Some next)

-- the descriptor of a member that an instruction names is one of the profile
abbrev pub IsDescribed : Use → Type 0
IsDescribed nothing = ⊤
IsDescribed (class_use name) = ⊤
IsDescribed (field_use static_one r) = field_slots r.descriptor ≡ type_slots r.descriptor
IsDescribed (method_use static_one of_interface r) = (m : MethodType) × (method_type_of r.descriptor ≡ Some m) × (is_floating_method m ≡ false)

-- linked class files whose code is closed and has kinds without conflict
pub record IsSound (files : List ClassFile) : Type 0 where
  pub linked : IsLinked files
  pub kinds : (method : ℕ) (o : Owned) (code : Code) → slice_get (methods_of files) method ≡ Some o → o.member.code ≡ Some code
      → (t : ℕ → KindsAt) × HasKinds o.member code t
  pub closed : (method : ℕ) (code : Code) → code_of files method ≡ Some code → IsClosed code.instrs
  pub described : (i : Instr) → IsReachedInstr files i → IsDescribed (use_of i)
  pub constants : (field : ℕ) (f : Owned) (c : Constant) → slice_get (fields_of files) field ≡ Some f → is_static f.member ≡ true
      → f.member.constant ≡ Some c → IsOfType f.member.descriptor (constant_value files c)
  pub strings : (text : List ℕ) → IsReachedInstr files (Str text) → (a : ℕ) × (string_number_of files text ≡ Some a)
  pub news : (name : List ℕ) → IsReachedInstr files (New name) → (c : ℕ) × (number_named files name ≡ Some c)
  pub launches : (c : ℕ) → is_launchable files c ≡ true
      → (m : MethodInfo) × (code : Code) × (declared_method (hierarchy_of files) (codes "<init>") (codes "()V") c ≡ Some m)
      × (code_of files m.id.0 ≡ Some code) × (m.is_static ≡ false)
  pub initialisers : (c : ℕ) (m : MethodInfo) → declared_method (hierarchy_of files) (codes "<clinit>") (codes "()V") c ≡ Some m → m.is_static ≡ true

-- What every reachable state keeps, in one record: what `Facts` says of its parts, and how far classes
-- are initialised (Java specification 5.5).
use Rattle.std.specs.Prelude.{ℕ, ◌≡◌, ◌⊎◌, true, List, [], ◌∷◌, Some, slice_get, ⊤}
use Rattle.std.specs.List.{AllByRecursion}
use Rattle.th_base.specs.declared.number.ClassId.{ClassId}
use Rattle.th_base.specs.declared.number.FieldId.{FieldId}
use Rattle.th_base.specs.Hierarchy.{superclass_of}
use Rattle.th_syntax.specs.declared.class_file.ClassFile.{ClassFile}
use Rattle.th_syntax.specs.Machine.{Value, Instance, Mark, Untouched, InProgress, OpenSuperclass, CallInitialiser, EndInit, Frame, CodeFrame, InitFrame, LaunchFrame, State}
use Rattle.th_syntax.specs.Program.{Owned, fields_of, hierarchy_of, is_activity}
use Rattle.th_syntax.specs.Initial.{default_value}
use Rattle.th_syntax.specs.Strings.{string_constants}
use Rattle.th_syntax.specs.Facts.{IsOriginal, IsStoredInto, IsMade, IsOnPath, IsString}

-- the class isn't untouched
abbrev pub IsTouched : List Mark → ℕ → Type 0
IsTouched marks c = slice_get marks c ≡ Some Untouched → ⊥

-- the frame is no initialisation that has its superclass to open yet
abbrev pub IsPastOpening : Frame → Type 0
IsPastOpening (CodeFrame method offset locals stack) = ⊤
IsPastOpening (InitFrame c OpenSuperclass) = ⊥
IsPastOpening (InitFrame c CallInitialiser) = ⊤
IsPastOpening (InitFrame c EndInit) = ⊤
IsPastOpening (LaunchFrame c stage) = ⊤

-- only the frame on top may be such an initialisation
abbrev pub OpensOnTop : List Frame → Type 0
OpensOnTop [] = ⊤
OpensOnTop (frame ∷ below) = AllByRecursion IsPastOpening below

-- the frame on top is such an initialisation, of this class
abbrev pub IsOpening : List Frame → ℕ → Type 0
IsOpening [] c = ⊥
IsOpening (CodeFrame method offset locals stack ∷ below) c = ⊥
IsOpening (InitFrame d OpenSuperclass ∷ below) c = d.0 ≡ c
IsOpening (InitFrame d CallInitialiser ∷ below) c = ⊥
IsOpening (InitFrame d EndInit ∷ below) c = ⊥
IsOpening (LaunchFrame d stage ∷ below) c = ⊥

-- code stands where paths lead; static fields hold what they begin with or what is stored into them;
-- objects of Activity classes are made by the harness or by the program; String constants stay; an
-- initialisation that has its superclass to open yet is on top; but for its class, superclasses of
-- classes that aren't untouched aren't either; nor are classes of objects; fields of untouched classes
-- hold 0 or null; and where nothing runs no class is in progress
pub record IsKept (files : List ClassFile) (s : State) : Type 0 where
  pub frames : AllByRecursion (IsOnPath files) s.frames
  pub statics : (field : ℕ) (v : Value) → slice_get s.statics field ≡ Some v → IsOriginal files field v ⊎ IsStoredInto files field
  pub activities : (address : ℕ) (class : ClassId) (fields : List (FieldId × Value))
      → slice_get s.heap address ≡ Some (Instance class fields) → is_activity files class.0 ≡ true → IsMade files class.0
  pub strings : (address : ℕ) (text : List ℕ) → slice_get (string_constants files) address ≡ Some text → IsString s.heap address
  pub opening : OpensOnTop s.frames
  pub superclasses : (c k : ℕ) → superclass_of (hierarchy_of files) c ≡ Some k → IsTouched s.marks c
      → IsTouched s.marks k ⊎ IsOpening s.frames c
  pub objects : (address : ℕ) (class : ClassId) (fields : List (FieldId × Value)) → slice_get s.heap address ≡ Some (Instance class fields)
      → IsTouched s.marks class.0
  pub unwritten : (field : ℕ) (f : Owned) (v : Value) → slice_get (fields_of files) field ≡ Some f
      → slice_get s.marks f.owner ≡ Some Untouched → slice_get s.statics field ≡ Some v → v ≡ default_value f.member.descriptor
  pub idle : s.frames ≡ [] → (c : ℕ) → slice_get s.marks c ≡ Some InProgress → ⊥

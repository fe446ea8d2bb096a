-- Which static fields and Activity classes are joined in a state. All of it is this project's own.
use Rattle.std.specs.Prelude.{ℕ, ◌≡◌, true, List, Some, slice_get, Contains}
use Rattle.th_syntax.specs.declared.class_file.ClassFile.{ClassFile}
use Rattle.th_syntax.specs.Flags.{is_static}
use Rattle.th_syntax.specs.Machine.{Value, Address, Object, Instance, Array, State, parts_of}
use Rattle.th_syntax.specs.Program.{Owned, fields_of, is_activity}
use Rattle.th_base.specs.ValueKinds.{is_reference}

-- a value leads to the object at an address through zero or more instance fields and elements
pub data Leads (heap : List Object) (to : ℕ) : Value → Type 0 where
  here : Leads heap to (Address to)
  through : {a : ℕ} {v : Value} (o : Object) → slice_get heap a ≡ Some o → Contains (parts_of o) v → Leads heap to v
      → Leads heap to (Address a)

-- the object's class is exactly this one
abbrev pub IsOfClass : Object → ℕ → Type 0
IsOfClass (Instance c fields) class = c.0 ≡ class
IsOfClass (Array descriptor elements) class = ⊥

-- a static field of reference type, by its number. Only the files' classes declare fields.
pub record IsStaticReference (files : List ClassFile) (field : ℕ) : Type 0 where
  pub declared : Owned
  pub numbered : slice_get (fields_of files) field ≡ Some declared
  pub static_one : is_static declared.member ≡ true
  pub reference : is_reference declared.member.descriptor ≡ true

-- a static field of reference type leads to an object whose class is exactly this one
pub record IsHolding (files : List ClassFile) (s : State) (field class : ℕ) : Type 0 where
  pub is_field : IsStaticReference files field
  pub value : Value
  pub held : slice_get s.statics field ≡ Some value
  pub address : ℕ
  pub leads : Leads s.heap address value
  pub object : Object
  pub stands : slice_get s.heap address ≡ Some object
  pub exactly : IsOfClass object class

-- a static field and a class are joined: the field leads to an object of this class, which is Activity
-- or a subclass of it
pub record IsJoined (files : List ClassFile) (s : State) (field class : ℕ) : Type 0 where
  pub holds : IsHolding files s field class
  pub is_activity_class : is_activity files class ≡ true

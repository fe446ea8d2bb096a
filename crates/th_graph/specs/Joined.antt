-- Which static fields and Activity classes are joined in a state of the register machine.
use Rattle.std.specs.Prelude.{ℕ, ◌≡◌, true, List, Some, slice_get}
use Rattle.th_base.specs.declared.class.ClassInfo.{ClassInfo}
use Rattle.th_base.specs.Launchable.{is_activity}
use Rattle.th_ir.specs.declared.program.RegProgram.{RegProgram}
use Rattle.th_ir.specs.Fields.{is_file_static, is_ref_field}
use Rattle.th_ir.specs.Sites.{site_class}
use Rattle.th_ir.specs.Machine.{RegValue, Address, RegObject, RegState, field_value, element_value}

-- a value leads to the object at an address through zero or more fields and elements
pub data Leads (heap : List RegObject) (to : ℕ) : RegValue → Type 0 where
  here : Leads heap to (Address to)
  by_field : {a : ℕ} {v : RegValue} (o : RegObject) (f : ℕ) → slice_get heap a ≡ Some o → field_value f o.contents ≡ Some v → Leads heap to v
      → Leads heap to (Address a)
  by_element : {a : ℕ} {v : RegValue} (o : RegObject) (k : ℕ) → slice_get heap a ≡ Some o → element_value k o.contents ≡ Some v → Leads heap to v
      → Leads heap to (Address a)

-- a static field of reference type of a class of a file leads to an object of exactly this class, which
-- is an Activity's
pub record IsJoined (h : List ClassInfo) (p : RegProgram) (s : RegState) (field class : ℕ) : Type 0 where
  pub static : is_file_static h field ≡ true
  pub reference : is_ref_field h field ≡ true
  pub activity : is_activity h class ≡ true
  pub address : ℕ
  pub leads : Leads s.heap address (s.statics field)
  pub object : RegObject
  pub stands : slice_get s.heap address ≡ Some object
  pub exactly : site_class h p object.site ≡ Some class

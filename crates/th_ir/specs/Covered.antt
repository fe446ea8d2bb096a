-- When facts cover a state.
use Rattle.std.specs.Prelude.{ℕ, ◌≡◌, ⊤, Bool, true, List, Some, slice_get}
use Rattle.th_base.specs.declared.class.ClassInfo.{ClassInfo}
use Rattle.th_ir.specs.declared.program.RegProgram.{RegProgram}
use Rattle.th_ir.specs.Program.{Among}
use Rattle.th_ir.specs.Fields.{has_field}
use Rattle.th_ir.specs.Sites.{is_array_site}
use Rattle.th_ir.specs.Machine.{RegValue, IntValue, NullValue, Address, RegObject, RegFrame, RegState, field_value, element_value}
use Rattle.th_ir.specs.FactSets.{FactSets}

-- an address is in the heap, and the site of its object is in the set
abbrev pub HasSite : List RegObject → (ℕ → Bool) → RegValue → Type 0
HasSite heap set (IntValue n) = ⊤
HasSite heap set NullValue = ⊤
HasSite heap set (Address a) = (o : RegObject) × (slice_get heap a ≡ Some o) × (set o.site ≡ true)

-- the objects of the site have the field, and the set has the site of what it holds
pub record FieldCovered (h : List ClassInfo) (p : RegProgram) (t : FactSets) (heap : List RegObject) (s f : ℕ) (v : RegValue) : Type 0 where
  pub has_slot : has_field h p s f ≡ true
  pub site : HasSite heap (t.cell s f) v

pub record ElementCovered (p : RegProgram) (t : FactSets) (heap : List RegObject) (s : ℕ) (v : RegValue) : Type 0 where
  pub has_slot : is_array_site p s ≡ true
  pub site : HasSite heap (t.elem s) v

-- what each register, static field, field and element holds is of a site of the place's set; an
-- object with a field or an element is of a site that has it; and each frame's method may run
pub record Covers (h : List ClassInfo) (p : RegProgram) (t : FactSets) (s : RegState) : Type 0 where
  pub regs : (f : RegFrame) → Among s.frames f → (r : ℕ) → HasSite s.heap (t.reg r) (f.regs r)
  pub statics : (f : ℕ) → HasSite s.heap (t.static f) (s.statics f)
  pub fields : (a : ℕ) (o : RegObject) (f : ℕ) (v : RegValue) → slice_get s.heap a ≡ Some o → field_value f o.contents ≡ Some v
      → FieldCovered h p t s.heap o.site f v
  pub elements : (a : ℕ) (o : RegObject) (k : ℕ) (v : RegValue) → slice_get s.heap a ≡ Some o → element_value k o.contents ≡ Some v
      → ElementCovered p t s.heap o.site v
  pub methods : (f : RegFrame) → Among s.frames f → t.reached f.method ≡ true

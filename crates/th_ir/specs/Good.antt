-- What every reachable state keeps: the invariant, in eight parts.
use Rattle.std.specs.Prelude.{ℕ, ◌<◌, ◌^◌, ◌==◌, pos, ◌≡◌, ⊤, Bool, true, false, List, [], ◌∷◌, length, Option, None, Some, slice_get, if◌then◌else◌}
use Rattle.std.specs.List.{AllByRecursion}
use Rattle.th_base.specs.declared.class.ClassInfo.{ClassInfo}
use Rattle.th_base.specs.IdSet.{has}
use Rattle.th_base.specs.Hierarchy.{first_some}
use Rattle.th_ir.specs.declared.program.RegProgram.{RegProgram}
use Rattle.th_ir.specs.declared.program.Node.{Node}
use Rattle.th_ir.specs.declared.stmt.Stmt.{Stmt}
use Rattle.th_ir.specs.declared.stmt.Stmt.TheVariants.{Nop, Const, Null, Str, Copy, Arith, Neg, AddConst, Narrow, AnyInt, Assume, GetStatic, PutStatic, GetField, PutField, GetElem, PutElem, Length, New, NewArray, Cast, InstanceOf, Call, Init, Return, Pick, NonNull, Halt}
use Rattle.th_ir.specs.Program.{AreDistinct, node_at, is_ref, is_harness}
use Rattle.th_ir.specs.Fields.{stage_field, is_ref_field, is_static_field, class_has}
use Rattle.th_ir.specs.Sites.{site_class, is_array_site, is_ref_array, is_string_site, launch_class}
use Rattle.th_ir.specs.Calls.{IsTarget, IsInitialiser}
use Rattle.th_ir.specs.Machine.{RegValue, IntValue, NullValue, Address, Contents, Instance, Array, RegObject, RegFrame, RegState, field_value, first_value}
use Rattle.th_ir.specs.Effects.{IsInt}
use Rattle.th_ir.specs.Step.{launch_register}
use Rattle.th_ir.specs.FactSets.{FactSets}

-- ---- what a place holds

-- a place of references, or of ints, holds a value of its kind; an int is one of 32 bits; an address
-- is in the heap, and the site of its object is in the set of the place
abbrev pub IsHeld : List RegObject → (ℕ → Bool) → Bool → RegValue → Type 0
IsHeld heap set ref (IntValue n) = (ref ≡ false) × IsInt n
IsHeld heap set ref NullValue = ref ≡ true
IsHeld heap set ref (Address a) = (ref ≡ true) × ((o : RegObject) × (slice_get heap a ≡ Some o) × (set o.site ≡ true))

-- ---- objects

-- an object of a class has exactly the class's fields
abbrev pub IsFieldHeld : List ClassInfo → List RegObject → (ℕ → Bool) → ℕ → ℕ → Option RegValue → Type 0
IsFieldHeld h heap set c f None = class_has h c f ≡ false
IsFieldHeld h heap set c f (Some v) = (class_has h c f ≡ true) × IsHeld heap set (is_ref_field h f) v

-- what an object holds is what its site makes, and within the facts; an array is no longer than an int says
abbrev pub IsContents : List ClassInfo → RegProgram → FactSets → List RegObject → ℕ → Contents → Type 0
IsContents h p t heap s (Instance fields) =
    (c : ℕ) × (site_class h p s ≡ Some c) × ((f : ℕ) → IsFieldHeld h heap (t.cell s f) c f (fields f))
IsContents h p t heap s (Array elements) =
    (is_array_site p s ≡ true) × (length elements < 2 ^ 31) × AllByRecursion (IsHeld heap (t.elem s) (is_ref_array p s)) elements

-- ---- static fields

-- a static field holds what its kind and the facts say; what is no static field holds its first value
pub record IsStaticValue (h : List ClassInfo) (t : FactSets) (heap : List RegObject) (f : ℕ) (v : RegValue) : Type 0 where
  pub held : IsHeld heap (t.static f) (is_ref_field h f) v
  pub others : is_static_field h f ≡ false → v ≡ first_value (is_ref_field h f)

-- ---- launched objects

-- the address is that of an object made at a site of launches
pub record IsLaunchObject (p : RegProgram) (heap : List RegObject) (a : ℕ) : Type 0 where
  pub object : RegObject
  pub stands : slice_get heap a ≡ Some object
  pub class : ℕ
  pub launch : launch_class p object.site ≡ Some class

abbrev pub picked_into : Stmt → Option ℕ
picked_into (Pick dst k) = Some dst.0
picked_into _ = None

-- the register in which a method that calls a handler has the launched object
abbrev pub pick_register : RegProgram → ℕ → Option ℕ
pick_register p m = first_some (λ n. if n.method.0 == m then picked_into n.stmt else None) p.nodes

-- the register of a launch is null, or has the new object, which isn't launched yet
abbrev pub IsLaunchValue : RegProgram → List RegObject → List ℕ → RegValue → Type 0
IsLaunchValue p heap launched (IntValue n) = ⊥
IsLaunchValue p heap launched NullValue = ⊤
IsLaunchValue p heap launched (Address a) = IsLaunchObject p heap a × (has launched a ≡ false)

-- the register of a Pick is null, or has a launched object
abbrev pub IsPickValue : List ℕ → RegValue → Type 0
IsPickValue launched (IntValue n) = ⊥
IsPickValue launched NullValue = ⊤
IsPickValue launched (Address a) = has launched a ≡ true

-- ---- frames

-- a register of a frame of the method holds what its kind and the facts say, and that of a launch
-- and that of a Pick what these give
pub record IsReg (p : RegProgram) (t : FactSets) (heap : List RegObject) (launched : List ℕ) (m r : ℕ) (v : RegValue) : Type 0 where
  pub held : IsHeld heap (t.reg r) (is_ref p r) v
  pub launch : launch_register p m ≡ Some r → IsLaunchValue p heap launched v
  pub pick : pick_register p m ≡ Some r → IsPickValue launched v

-- a frame stands at a node of its method, which may run
pub record IsFrame (p : RegProgram) (t : FactSets) (heap : List RegObject) (launched : List ℕ) (f : RegFrame) : Type 0 where
  pub node : Node
  pub stands : node_at p f.node ≡ Some node
  pub within : node.method.0 ≡ f.method
  pub reached : t.reached f.method ≡ true
  pub regs : (r : ℕ) → IsReg p t heap launched f.method r (f.regs r)

-- a frame at this node, with this statement, waits for a frame of the method: at a Call that may take
-- it and has a call edge to it, or at an Init of a class that it initialises
abbrev pub Waits : List ClassInfo → RegProgram → FactSets → ℕ → Stmt → ℕ → Type 0
Waits h p t n (Call dst kind k args) m = (t.call n m ≡ true) × IsTarget h p kind k.0 m
Waits h p t n (Init k) m = IsInitialiser h k.0 m
Waits h p t n _ m = ⊥

-- the frame stands at a node that waits for the method
pub record StandsWaiting (h : List ClassInfo) (p : RegProgram) (t : FactSets) (g : RegFrame) (m : ℕ) : Type 0 where
  pub node : Node
  pub stands : node_at p g.node ≡ Some node
  pub waits : Waits h p t g.node node.stmt m

-- the bottom frame is of the harness and no other is; each frame but the innermost waits for the one
-- inside it
abbrev pub AreStacked : List ClassInfo → RegProgram → FactSets → List RegFrame → Type 0
AreStacked h p t [] = ⊤
AreStacked h p t (f ∷ []) = is_harness p f.method ≡ true
AreStacked h p t (f ∷ g ∷ below) = (is_harness p f.method ≡ false) × StandsWaiting h p t g f.method × AreStacked h p t (g ∷ below)

-- ---- stages

-- an object that isn't launched is at stage 0
abbrev pub AreStaged : List RegObject → List ℕ → Type 0
AreStaged heap launched =
    (a : ℕ) (o : RegObject) (v : RegValue) → slice_get heap a ≡ Some o → field_value stage_field o.contents ≡ Some v
    → has launched a ≡ false → v ≡ IntValue (pos 0)

-- ---- all of it

-- objects; String constants, each at its site's number; static fields; launched objects, and that
-- none is launched twice; frames, each alone and as a stack; stages
pub record IsGood (h : List ClassInfo) (p : RegProgram) (t : FactSets) (s : RegState) : Type 0 where
  pub heap : (a : ℕ) (o : RegObject) → slice_get s.heap a ≡ Some o → IsContents h p t s.heap o.site o.contents
  pub strings : (a : ℕ) → is_string_site p a ≡ true → (o : RegObject) × (slice_get s.heap a ≡ Some o) × (o.site ≡ a)
  pub statics : (f : ℕ) → IsStaticValue h t s.heap f (s.statics f)
  pub launched : AllByRecursion (IsLaunchObject p s.heap) s.launched
  pub distinct : AreDistinct s.launched
  pub frames : AllByRecursion (IsFrame p t s.heap s.launched) s.frames
  pub stack : AreStacked h p t s.frames
  pub staged : AreStaged s.heap s.launched

-- What holds of each statement of a well-formed program.
use Rattle.std.specs.Prelude.{ℕ, ℤ, ◌≡◌, ⊤, true, false, List, [], ◌∷◌, map, Option, None, Some, slice_get}
use Rattle.std.specs.List.{AllByRecursion}
use Rattle.th_base.specs.declared.class.ClassInfo.{ClassInfo}
use Rattle.th_base.specs.declared.class.MethodInfo.{MethodInfo}
use Rattle.th_base.specs.declared.number.FieldId.{FieldId}
use Rattle.th_base.specs.declared.number.MethodId.{MethodId}
use Rattle.th_base.specs.declared.number.Reg.{Reg}
use Rattle.th_base.specs.IdSet.{has}
use Rattle.th_base.specs.Launchable.{is_launchable}
use Rattle.th_ir.specs.declared.program.RegProgram.{RegProgram}
use Rattle.th_ir.specs.declared.program.Method.{Method}
use Rattle.th_ir.specs.declared.program.Node.{Node}
use Rattle.th_ir.specs.declared.stmt.CallKind.{CallKind}
use Rattle.th_ir.specs.declared.stmt.CallKind.TheVariants.{Virtual, Special, Static}
use Rattle.th_ir.specs.declared.stmt.Condition.{Condition}
use Rattle.th_ir.specs.declared.stmt.Condition.TheVariants.{Ints, SameRef, OtherRef, IsNull, NotNull, Key, NoKey}
use Rattle.th_ir.specs.declared.stmt.Stmt.{Stmt}
use Rattle.th_ir.specs.declared.stmt.Stmt.TheVariants.{Nop, Const, Null, Str, Copy, Arith, Neg, AddConst, Narrow, AnyInt, Assume, GetStatic, PutStatic, GetField, PutField, GetElem, PutElem, Length, New, NewArray, Cast, InstanceOf, Call, Init, Return, Pick, NonNull, Halt}
use Rattle.th_ir.specs.Program.{AreDistinct, method_at, node_at, is_harness, is_ref, registers_set, registers_read}
use Rattle.th_ir.specs.Fields.{stage_field, is_ref_field, is_static_field, is_instance_field}
use Rattle.th_ir.specs.Sites.{site_class, is_array_site, is_ref_elem, is_string_site, launch_class}
use Rattle.th_ir.specs.Calls.{declared_at, IsTarget, IsInitialiser}
use Rattle.th_ir.specs.Effects.{IsInt}

-- ---- kinds of registers

abbrev pub IsRefReg : RegProgram → Reg → Type 0
IsRefReg p r = is_ref p r.0 ≡ true

abbrev pub IsIntReg : RegProgram → Reg → Type 0
IsIntReg p r = is_ref p r.0 ≡ false

-- the register holds what the field holds
abbrev pub IsFieldReg : List ClassInfo → RegProgram → FieldId → Reg → Type 0
IsFieldReg h p f r = is_ref p r.0 ≡ is_ref_field h f.0

-- ---- methods that are entered

-- the method has nodes, and its entry is one of them
pub record HasEntry (p : RegProgram) (m : ℕ) : Type 0 where
  pub method : Method
  pub stands : method_at p m ≡ Some method
  pub node : Node
  pub entry : node_at p method.entry.0 ≡ Some node
  pub within : node.method.0 ≡ m

-- a method that a Call or an Init may enter: it has nodes, and is none of the harness
pub record IsCallee (p : RegProgram) (m : ℕ) : Type 0 where
  pub entry : HasEntry p m
  pub own : is_harness p m ≡ false

-- arguments and parameters are as many, and of the same kinds in order
abbrev pub FitParameters : RegProgram → List Reg → List Reg → Type 0
FitParameters p [] [] = ⊤
FitParameters p [] (q ∷ params) = ⊥
FitParameters p (a ∷ args) [] = ⊥
FitParameters p (a ∷ args) (q ∷ params) = (is_ref p q.0 ≡ is_ref p a.0) × FitParameters p args params

-- a Return gives a result of the kind of the Call's, or both have none
abbrev pub FitsResult : RegProgram → Option Reg → Option Reg → Type 0
FitsResult p None None = ⊤
FitsResult p None (Some src) = ⊥
FitsResult p (Some dst) None = ⊥
FitsResult p (Some dst) (Some src) = is_ref p dst.0 ≡ is_ref p src.0

-- a Call's arguments and result fit a method that it may take
pub record FitsCallee (p : RegProgram) (dst : Option Reg) (args : List Reg) (to : ℕ) : Type 0 where
  pub callee : IsCallee p to
  pub arguments : (method : Method) → method_at p to ≡ Some method → FitParameters p args method.params
  pub result : (n : ℕ) (node : Node) (src : Option Reg) → node_at p n ≡ Some node → node.method.0 ≡ to → node.stmt ≡ Return src
      → FitsResult p dst src

-- ---- calls

-- the number is that of an instance method that a class declares
pub record IsInstanceMethod (h : List ClassInfo) (m : ℕ) : Type 0 where
  pub declared : ℕ × MethodInfo
  pub stands : declared_at h m ≡ Some declared
  pub instance : declared.1.is_static ≡ false

pub record IsStaticMethod (h : List ClassInfo) (m : ℕ) : Type 0 where
  pub declared : ℕ × MethodInfo
  pub stands : declared_at h m ≡ Some declared
  pub static : declared.1.is_static ≡ true

-- the first argument is a reference
pub record HasReceiver (p : RegProgram) (args : List Reg) : Type 0 where
  pub receiver : Reg
  pub first : slice_get args 0 ≡ Some receiver
  pub kind : IsRefReg p receiver

abbrev pub HoldsInstanceMethod : List ClassInfo → Option MethodId → Type 0
HoldsInstanceMethod h None = ⊤
HoldsInstanceMethod h (Some t) = IsInstanceMethod h t.0

-- what a call of this kind names: with a receiver instance methods, else a static one
abbrev pub NamesMethod : List ClassInfo → RegProgram → CallKind → ℕ → List Reg → Type 0
NamesMethod h p Virtual m args = IsInstanceMethod h m × HasReceiver p args
NamesMethod h p (Special t) m args = IsInstanceMethod h m × HasReceiver p args × HoldsInstanceMethod h t
NamesMethod h p Static m args = IsStaticMethod h m

pub record IsProperCall (h : List ClassInfo) (p : RegProgram) (dst : Option Reg) (kind : CallKind) (m : ℕ) (args : List Reg) : Type 0 where
  pub names : NamesMethod h p kind m args
  pub targets : (to : ℕ) → IsTarget h p kind m to → FitsCallee p dst args to

-- ---- each statement

abbrev pub IsProperCondition : RegProgram → Condition → Type 0
IsProperCondition p (Ints relation a None) = IsIntReg p a
IsProperCondition p (Ints relation a (Some b)) = IsIntReg p a × IsIntReg p b
IsProperCondition p (SameRef a b) = IsRefReg p a × IsRefReg p b
IsProperCondition p (OtherRef a b) = IsRefReg p a × IsRefReg p b
IsProperCondition p (IsNull a) = IsRefReg p a
IsProperCondition p (NotNull a) = IsRefReg p a
IsProperCondition p (Key a n) = IsIntReg p a × IsInt n
IsProperCondition p (NoKey a ns) = IsIntReg p a × AllByRecursion IsInt ns

-- a statement uses each register by its kind; its fields, sites, classes, methods and numbers are
-- there and of the sort that it needs
abbrev pub IsProper : List ClassInfo → RegProgram → Stmt → Type 0
IsProper h p Nop = ⊤
IsProper h p (Const dst n) = IsIntReg p dst × IsInt n
IsProper h p (Null dst) = IsRefReg p dst
IsProper h p (Str dst site) = IsRefReg p dst × (is_string_site p site.0 ≡ true)
IsProper h p (Copy pairs) = AllByRecursion (λ m. is_ref p m.0.0 ≡ is_ref p m.1.0) pairs × AreDistinct (map (λ m. m.0.0) pairs)
IsProper h p (Arith dst op a b) = IsIntReg p dst × IsIntReg p a × IsIntReg p b
IsProper h p (Neg dst a) = IsIntReg p dst × IsIntReg p a
IsProper h p (AddConst dst a n) = IsIntReg p dst × IsIntReg p a × IsInt n
IsProper h p (Narrow dst op a) = IsIntReg p dst × IsIntReg p a
IsProper h p (AnyInt dst) = IsIntReg p dst
IsProper h p (Assume condition) = IsProperCondition p condition
IsProper h p (GetStatic dst f) = IsFieldReg h p f dst × (is_static_field h f.0 ≡ true)
IsProper h p (PutStatic f src) = IsFieldReg h p f src × (is_static_field h f.0 ≡ true)
IsProper h p (GetField dst base f) = IsFieldReg h p f dst × IsRefReg p base × (is_instance_field h f.0 ≡ true)
IsProper h p (PutField base f src) = IsFieldReg h p f src × IsRefReg p base × (is_instance_field h f.0 ≡ true)
IsProper h p (GetElem dst array kind) = (is_ref p dst.0 ≡ is_ref_elem (Some kind)) × IsRefReg p array
IsProper h p (PutElem array src) = IsRefReg p array × IsRefReg p src
IsProper h p (Length dst array) = IsIntReg p dst × IsRefReg p array
IsProper h p (New dst site) = IsRefReg p dst × ((k : ℕ) × (site_class h p site.0 ≡ Some k))
IsProper h p (NewArray dst site count) = IsRefReg p dst × (is_array_site p site.0 ≡ true) × IsIntReg p count
IsProper h p (Cast dst src text) = IsRefReg p dst × IsRefReg p src
IsProper h p (InstanceOf dst src text) = IsIntReg p dst × IsRefReg p src
IsProper h p (Call dst kind m args) = IsProperCall h p dst kind m.0 args
IsProper h p (Init k) = ((i : ClassInfo) × (slice_get h k.0 ≡ Some i)) × ((m : ℕ) → IsInitialiser h k.0 m → IsCallee p m)
IsProper h p (Return src) = ⊤
IsProper h p (Pick dst k) = IsRefReg p dst × (is_launchable h k.0 ≡ true)
IsProper h p (NonNull src) = IsRefReg p src
IsProper h p Halt = ⊤

-- but for Copy and Call no statement reads a register that it sets
abbrev pub SetsNoOperand : Stmt → Type 0
SetsNoOperand (Copy pairs) = ⊤
SetsNoOperand (Call dst kind m args) = ⊤
SetsNoOperand stmt = AllByRecursion (λ r. has (map (λ x. x.0) (registers_read stmt)) r.0 ≡ false) (registers_set stmt)

-- only the harness makes objects at the sites of launches, picks launched objects and sets stages
abbrev pub IsOrdinary : RegProgram → Stmt → Type 0
IsOrdinary p (New dst site) = launch_class p site.0 ≡ None
IsOrdinary p (Pick dst k) = ⊥
IsOrdinary p (PutField base f src) = f.0 ≡ stage_field → ⊥
IsOrdinary p _ = ⊤

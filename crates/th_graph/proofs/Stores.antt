-- What a statement writes into a place, or makes, by its effect.
use Rattle.std.proofs.Common.{◌≡◌, inl, inr, ℕ, zero, suc, Bool, true, false, List, None, Some, slice_get, refl, sym, subst, if◌then◌else◌}
use Rattle.std.specs.Prelude.{replicate}
use Rattle.th_base.specs.declared.class.ClassInfo.{ClassInfo}
use Rattle.th_base.specs.declared.number.FieldId.{FieldId}
use Rattle.th_base.specs.declared.number.Reg.{Reg}
use Rattle.th_base.specs.declared.operation.Elem.{Elem}
use Rattle.th_base.specs.declared.operation.Elem.TheVariants.{Int as IntElem, Ref as RefElem, Byte as ByteElem, Char as CharElem, Short as ShortElem}
use Rattle.th_ir.specs.declared.program.RegProgram.{RegProgram}
use Rattle.th_ir.specs.declared.stmt.CallKind.TheVariants.{Virtual, Special, Static}
use Rattle.th_ir.specs.declared.stmt.Stmt.{Stmt}
use Rattle.th_ir.specs.declared.stmt.Stmt.TheVariants.{Nop, Const, Null, Str, Copy, Arith, Neg, AddConst, Narrow, AnyInt, Assume, GetStatic, PutStatic, GetField, PutField, GetElem, PutElem, Length, New, NewArray, Cast, InstanceOf, Call, Init, Return, Pick, NonNull, Halt}
use Rattle.th_ir.specs.Fields.{is_ref_field, class_has}
use Rattle.th_ir.specs.Machine.{RegValue, Address, RegObject, RegState, PointsTo, field_value, element_value, first_value, new_object}
use Rattle.th_ir.specs.Effects.{ReadsElement, HasElement, is_storable, new_element, new_array, Change, Sets, SetsStatic, SetsField, SetsElement, Makes, Enters, Leaves, Effect}
use Rattle.th_ir.proofs.Plain.{some_is}

pub record StoresStatic (regs : ℕ → RegValue) (stmt : Stmt) (f : ℕ) (v : RegValue) : Type 0 where
  pub field : FieldId
  pub src : Reg
  pub is : stmt ≡ PutStatic field src
  pub number : field.0 ≡ f
  pub value : v ≡ regs src.0

pub record StoresField (s : RegState) (regs : ℕ → RegValue) (stmt : Stmt) (a f : ℕ) (v : RegValue) : Type 0 where
  pub base : Reg
  pub field : FieldId
  pub src : Reg
  pub is : stmt ≡ PutField base field src
  pub number : field.0 ≡ f
  pub at : PointsTo s.heap (regs base.0)
  pub old : RegValue
  pub slot : field_value field.0 at.object.contents ≡ Some old
  pub address : at.address ≡ a
  pub value : v ≡ regs src.0

pub record StoresElement (h : List ClassInfo) (p : RegProgram) (s : RegState) (regs : ℕ → RegValue) (stmt : Stmt) (a : ℕ) (v : RegValue) : Type 0 where
  pub array : Reg
  pub src : Reg
  pub is : stmt ≡ PutElem array src
  pub element : HasElement p s (regs array.0) RefElem
  pub address : element.at.address ≡ a
  pub storable : is_storable h p s.heap element.at.object.site (regs src.0) ≡ true
  pub value : v ≡ regs src.0

-- a new object holds no address
pub record HoldsNothing (o : RegObject) : Type 0 where
  pub fields : (f b : ℕ) → field_value f o.contents ≡ Some (Address b) → ⊥
  pub elements : (k b : ℕ) → element_value k o.contents ≡ Some (Address b) → ⊥

-- what a change that a statement makes stores
abbrev pub Stored : List ClassInfo → RegProgram → RegState → (ℕ → RegValue) → Stmt → Change → Type 0
Stored h p s regs stmt (Sets ws) = Unit {0}
Stored h p s regs stmt (SetsStatic f v) = StoresStatic regs stmt f v
Stored h p s regs stmt (SetsField a f v) = StoresField s regs stmt a f v
Stored h p s regs stmt (SetsElement a k v) = StoresElement h p s regs stmt a v
Stored h p s regs stmt (Makes dst o) = HoldsNothing o
Stored h p s regs stmt (Enters m arguments) = Unit {0}
Stored h p s regs stmt (Leaves src) = Unit {0}

-- ---- new objects

pub first_is_no_address : (ref : Bool) (b : ℕ) → first_value ref ≡ Address b → ⊥
first_is_no_address true b e = cc
first_is_no_address false b e = cc

new_field_is_none : (ref has_it : Bool) (b : ℕ) → (if has_it then Some (first_value ref) else None) ≡ Some (Address b) → ⊥
new_field_is_none ref true b e = first_is_no_address ref b (some_is (first_value ref) (Address b) e)
new_field_is_none ref false b e = cc

repeated : (n k : ℕ) (v w : RegValue) → slice_get (replicate n v) k ≡ Some w → v ≡ w
repeated zero k v w e = absurd cc
repeated (suc n) zero v w e = some_is v w e
repeated (suc n) (suc k) v w e = repeated n k v w e

pub object_is_empty : (h : List ClassInfo) (c s : ℕ) → HoldsNothing (new_object h c s)
object_is_empty h c s = record { fields = λ f b e. new_field_is_none (is_ref_field h f) (class_has h c f) b e; elements = λ k b e. cc }

array_is_empty : (p : RegProgram) (s n : ℕ) → HoldsNothing (new_array p s n)
array_is_empty p s n = record { fields = λ f b e. cc; elements = λ k b e. first_is_no_address _ b (repeated n k (new_element p s) (Address b) e) }

-- ---- each statement

reads_stored : (h : List ClassInfo) (p : RegProgram) (s : RegState) (regs : ℕ → RegValue) (stmt : Stmt) (dst : Reg) (kind : Elem) (v : RegValue) (c : Change) → ReadsElement dst kind v c → Stored h p s regs stmt c
reads_stored h p s regs stmt dst RefElem v c e = subst (Stored h p s regs stmt) (sym e) tt
reads_stored h p s regs stmt dst IntElem v c e = subst (Stored h p s regs stmt) (sym e.2) tt
reads_stored h p s regs stmt dst ByteElem v c e = subst (Stored h p s regs stmt) (sym e.2) tt
reads_stored h p s regs stmt dst CharElem v c e = subst (Stored h p s regs stmt) (sym e.2) tt
reads_stored h p s regs stmt dst ShortElem v c e = subst (Stored h p s regs stmt) (sym e.2) tt

pub stored : (h : List ClassInfo) (p : RegProgram) (s : RegState) (regs : ℕ → RegValue) (stmt : Stmt) (c : Change) → Effect h p s regs stmt c → Stored h p s regs stmt c
stored h p s regs Nop c e = subst (Stored h p s regs Nop) (sym e) tt
stored h p s regs (Const dst k) c e = subst (Stored h p s regs (Const dst k)) (sym e) tt
stored h p s regs (Null dst) c e = subst (Stored h p s regs (Null dst)) (sym e) tt
stored h p s regs (Str dst site) c e = subst (Stored h p s regs (Str dst site)) (sym e) tt
stored h p s regs (Copy pairs) c e = subst (Stored h p s regs (Copy pairs)) (sym e) tt
stored h p s regs (Arith dst op a b) c e = subst (Stored h p s regs (Arith dst op a b)) (sym e.6) tt
stored h p s regs (Neg dst a) c e = subst (Stored h p s regs (Neg dst a)) (sym e.2) tt
stored h p s regs (AddConst dst a k) c e = subst (Stored h p s regs (AddConst dst a k)) (sym e.2) tt
stored h p s regs (Narrow dst op a) c e = subst (Stored h p s regs (Narrow dst op a)) (sym e.2) tt
stored h p s regs (AnyInt dst) c e = subst (Stored h p s regs (AnyInt dst)) (sym e.2) tt
stored h p s regs (Assume condition) c e = subst (Stored h p s regs (Assume condition)) (sym e.1) tt
stored h p s regs (GetStatic dst f) c e = subst (Stored h p s regs (GetStatic dst f)) (sym e) tt
stored h p s regs (PutStatic f src) c e = subst (Stored h p s regs (PutStatic f src)) (sym e) (record { field = f; src = src; is = refl; number = refl; value = refl })
stored h p s regs (GetField dst base f) c e = subst (Stored h p s regs (GetField dst base f)) (sym e.3) tt
stored h p s regs (PutField base f src) c e =
    subst (Stored h p s regs (PutField base f src)) (sym e.3)
    (record { base = base; field = f; src = src; is = refl; number = refl; at = e.0; old = e.1; slot = e.2; address = refl; value = refl })
stored h p s regs (GetElem dst array kind) c e = reads_stored h p s regs (GetElem dst array kind) dst kind e.0.value c e.1
stored h p s regs (PutElem array src) c e =
    subst (Stored h p s regs (PutElem array src)) (sym e.2) (record { array = array; src = src; is = refl; element = e.0; address = refl; storable = e.1; value = refl })
stored h p s regs (Length dst array) c e = subst (Stored h p s regs (Length dst array)) (sym e.3) tt
stored h p s regs (New dst site) c e = subst (Stored h p s regs (New dst site)) (sym e.2) (object_is_empty h e.0 site.0)
stored h p s regs (NewArray dst site count) c e = subst (Stored h p s regs (NewArray dst site count)) (sym e.2) (array_is_empty p site.0 e.0)
stored h p s regs (Cast dst src text) c e = subst (Stored h p s regs (Cast dst src text)) (sym e.1) tt
stored h p s regs (InstanceOf dst src text) c e = subst (Stored h p s regs (InstanceOf dst src text)) (sym e) tt
stored h p s regs (Call dst Virtual k args) c e = subst (Stored h p s regs (Call dst Virtual k args)) (sym e.change) tt
stored h p s regs (Call dst (Special j) k args) c e = subst (Stored h p s regs (Call dst (Special j) k args)) (sym e.change) tt
stored h p s regs (Call dst Static k args) c e = subst (Stored h p s regs (Call dst Static k args)) (sym e.2) tt
stored h p s regs (Init k) c e =
    elim e [ inl passes ↦ subst (Stored h p s regs (Init k)) (sym passes) tt | inr calls ↦ subst (Stored h p s regs (Init k)) (sym calls.2) tt ]
stored h p s regs (Return src) c e = subst (Stored h p s regs (Return src)) (sym e) tt
stored h p s regs (Pick dst k) c e = subst (Stored h p s regs (Pick dst k)) (sym e.5) tt
stored h p s regs (NonNull src) c e = subst (Stored h p s regs (NonNull src)) (sym e.2) tt
stored h p s regs Halt c e = absurd e

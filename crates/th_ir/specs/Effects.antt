-- What each statement does: its own clause says which change it may make, in a state and from the
-- registers of the innermost frame. Several changes are free choices; none is a step that isn't
-- there, where the instruction would end the run.
use Rattle.std.specs.Prelude.{ℕ, ℤ, pos, ◌≡◌, ◌≢◌, ◌⊎◌, ◌&&◌, Bool, true, false, not, List, [], ◌∷◌, map, replicate, Option, None, Some, slice_get, int_lt, int_le, if◌then◌else◌}
use Rattle.std.specs.Option.{option_map, option_map_or}
use Rattle.std.specs.List.{AllByRecursion}
use Rattle.th_base.specs.declared.class.ClassInfo.{ClassInfo}
use Rattle.th_base.specs.declared.number.Reg.{Reg}
use Rattle.th_base.specs.declared.operation.Elem.{Elem}
use Rattle.th_base.specs.declared.operation.Elem.TheVariants.{Int as IntElem, Ref as RefElem, Byte as ByteElem, Char as CharElem, Short as ShortElem}
use Rattle.th_base.specs.declared.operation.ArithOp.{ArithOp}
use Rattle.th_base.specs.declared.operation.ArithOp.TheVariants.{Add, Sub, Mul, Div, Rem, Shl, Shr, Ushr, And, Or, Xor}
use Rattle.th_base.specs.declared.operation.NarrowOp.{NarrowOp}
use Rattle.th_base.specs.declared.operation.NarrowOp.TheVariants.{Byte as ToByte, Char as ToChar, Short as ToShort}
use Rattle.th_base.specs.declared.operation.Relation.{Relation}
use Rattle.th_base.specs.declared.operation.Relation.TheVariants.{Eq, Ne, Lt, Ge, Gt, Le}
use Rattle.th_wrap.specs.Arithmetic.{sum_of, difference_of, product_of, negation_of, quotient_of, remainder_of, bitwise_and, bitwise_or, bitwise_xor, int_distance, left_shift, right_shift, unsigned_right_shift, narrowing_of, char_of}
use Rattle.th_wrap.specs.TwosComplement.{IsInSignedRange}
use Rattle.th_ir.specs.declared.program.RegProgram.{RegProgram}
use Rattle.th_ir.specs.declared.stmt.CallKind.{CallKind}
use Rattle.th_ir.specs.declared.stmt.CallKind.TheVariants.{Virtual, Special, Static}
use Rattle.th_ir.specs.declared.stmt.Condition.{Condition}
use Rattle.th_ir.specs.declared.stmt.Condition.TheVariants.{Ints, SameRef, OtherRef, IsNull, NotNull, Key, NoKey}
use Rattle.th_ir.specs.declared.stmt.Stmt.{Stmt}
use Rattle.th_ir.specs.declared.stmt.Stmt.TheVariants.{Nop, Const, Null, Str, Copy, Arith, Neg, AddConst, Narrow, AnyInt, Assume, GetStatic, PutStatic, GetField, PutField, GetElem, PutElem, Length, New, NewArray, Cast, InstanceOf, Call, Init, Return, Pick, NonNull, Halt}
use Rattle.th_ir.specs.Program.{Among}
use Rattle.th_ir.specs.Sites.{site_class, elem_kind, is_ref_array, site_is, can_store}
use Rattle.th_ir.specs.Calls.{site_target, static_target, IsInitialiser}
use Rattle.th_ir.specs.Machine.{RegValue, IntValue, NullValue, Address, Instance, Array, RegObject, RegState, PointsTo, field_value, element_value, length_of, first_value, new_object}

-- the number is an int of 32 bits
abbrev pub IsInt : ℤ → Type 0
IsInt n = IsInSignedRange 32 n

-- ---- changes

-- what a step changes. It sets registers, a static field, a field of an object or an element, or
-- makes an object and sets a register to it, and goes on; or it enters a method with arguments; or
-- it leaves its method with the value of a register, if any.
pub data Change : Type 0 where
  Sets : (writes : List (ℕ × RegValue)) → Change
  SetsStatic : (field : ℕ) (v : RegValue) → Change
  SetsField : (address field : ℕ) (v : RegValue) → Change
  SetsElement : (address place : ℕ) (v : RegValue) → Change
  Makes : (dst : ℕ) (o : RegObject) → Change
  Enters : (method : ℕ) (arguments : List RegValue) → Change
  Leaves : (src : Option ℕ) → Change

-- nothing changes but the node
abbrev pub goes_on : Change
goes_on = Sets []

abbrev pub sets : Reg → RegValue → Change
sets dst v = Sets ((dst.0, v) ∷ [])

-- the step sets a register to any int
abbrev pub SetsAnyInt : Reg → Change → Type 0
SetsAnyInt dst c = (n : ℤ) × IsInt n × (c ≡ sets dst (IntValue n))

-- ---- what is computed

-- none where the instruction ends the run: at a divisor of 0
abbrev pub arithmetic_of : ArithOp → ℤ → ℤ → Option ℤ
arithmetic_of Add a b = Some (sum_of 32 a b)
arithmetic_of Sub a b = Some (difference_of 32 a b)
arithmetic_of Mul a b = Some (product_of 32 a b)
arithmetic_of Div a b = quotient_of 32 a b
arithmetic_of Rem a b = remainder_of a b
arithmetic_of Shl a b = Some (left_shift 32 a (int_distance b))
arithmetic_of Shr a b = Some (right_shift a (int_distance b))
arithmetic_of Ushr a b = Some (unsigned_right_shift 32 a (int_distance b))
arithmetic_of And a b = Some (bitwise_and 32 a b)
arithmetic_of Or a b = Some (bitwise_or 32 a b)
arithmetic_of Xor a b = Some (bitwise_xor 32 a b)

abbrev pub narrowed : NarrowOp → ℤ → ℤ
narrowed ToByte a = narrowing_of 8 a
narrowed ToChar a = char_of a
narrowed ToShort a = narrowing_of 16 a

abbrev pub stand_in : Relation → ℤ → ℤ → Bool
stand_in Eq a b = int_le a b && int_le b a
stand_in Ne a b = not (int_le a b && int_le b a)
stand_in Lt a b = int_lt a b
stand_in Ge a b = int_le b a
stand_in Gt a b = int_lt b a
stand_in Le a b = int_le a b

-- the value is the address of an object of a subtype of this class or array type
abbrev pub is_instance : List ClassInfo → RegProgram → List RegObject → List ℕ → RegValue → Bool
is_instance h p heap text (IntValue n) = false
is_instance h p heap text NullValue = false
is_instance h p heap text (Address a) = option_map_or (λ o. site_is h p text o.site) (slice_get heap a) false

-- the value may stand in the arrays of a site: it is null, or of a subtype of their elements
abbrev pub is_storable : List ClassInfo → RegProgram → List RegObject → ℕ → RegValue → Bool
is_storable h p heap array (IntValue n) = false
is_storable h p heap array NullValue = true
is_storable h p heap array (Address a) = option_map_or (λ o. can_store h p array o.site) (slice_get heap a) false

-- the second int of a comparison: that of a register, or 0
abbrev pub IsSecondInt : (ℕ → RegValue) → Option Reg → ℤ → Type 0
IsSecondInt regs (Some b) n = regs b.0 ≡ IntValue n
IsSecondInt regs None n = n ≡ pos 0

-- the condition holds of these registers
abbrev pub HoldsOf : (ℕ → RegValue) → Condition → Type 0
HoldsOf regs (Ints relation a b) = (m n : ℤ) × (regs a.0 ≡ IntValue m) × IsSecondInt regs b n × (stand_in relation m n ≡ true)
HoldsOf regs (SameRef a b) = regs a.0 ≡ regs b.0
HoldsOf regs (OtherRef a b) = regs a.0 ≢ regs b.0
HoldsOf regs (IsNull a) = regs a.0 ≡ NullValue
HoldsOf regs (NotNull a) = (x : ℕ) × (regs a.0 ≡ Address x)
HoldsOf regs (Key a k) = regs a.0 ≡ IntValue k
HoldsOf regs (NoKey a ks) = (n : ℤ) × (regs a.0 ≡ IntValue n) × AllByRecursion (λ k. n ≢ k) ks

-- what an element of a new array of a site holds
abbrev pub new_element : RegProgram → ℕ → RegValue
new_element p s = first_value (is_ref_array p s)

-- a new array with so many elements, made at a site
abbrev pub new_array : RegProgram → ℕ → ℕ → RegObject
new_array p s n = record { site = s; contents = Array (replicate n (new_element p s)) }

abbrev pub arguments_of : (ℕ → RegValue) → List Reg → List RegValue
arguments_of regs args = map (λ r. regs r.0) args

-- ---- reading an element, and calling

-- a reference that is read is the element's; of ints any may be read
abbrev pub ReadsElement : Reg → Elem → RegValue → Change → Type 0
ReadsElement dst RefElem v c = c ≡ sets dst v
ReadsElement dst IntElem v c = SetsAnyInt dst c
ReadsElement dst ByteElem v c = SetsAnyInt dst c
ReadsElement dst CharElem v c = SetsAnyInt dst c
ReadsElement dst ShortElem v c = SetsAnyInt dst c

-- some element of an array whose elements are of this kind
pub record HasElement (p : RegProgram) (s : RegState) (array : RegValue) (kind : Elem) : Type 0 where
  pub at : PointsTo s.heap array
  pub kind_is : elem_kind p at.object.site ≡ Some kind
  pub place : ℕ
  pub value : RegValue
  pub stands : element_value place at.object.contents ≡ Some value

-- a call with a receiver, the first argument, enters the method that the receiver's class gives
pub record CallsOn (h : List ClassInfo) (p : RegProgram) (s : RegState) (regs : ℕ → RegValue) (kind : CallKind) (m : ℕ) (args : List Reg)
    (c : Change) : Type 0 where
  pub receiver : Reg
  pub first : slice_get args 0 ≡ Some receiver
  pub at : PointsTo s.heap (regs receiver.0)
  pub to : ℕ
  pub target : site_target h p kind m at.object.site ≡ Some to
  pub change : c ≡ Enters to (arguments_of regs args)

abbrev pub Calls : List ClassInfo → RegProgram → RegState → (ℕ → RegValue) → CallKind → ℕ → List Reg → Change → Type 0
Calls h p s regs Virtual m args c = CallsOn h p s regs Virtual m args c
Calls h p s regs (Special t) m args c = CallsOn h p s regs (Special t) m args c
Calls h p s regs Static m args c = (to : ℕ) × (static_target h m ≡ Some to) × (c ≡ Enters to (arguments_of regs args))

-- ---- each statement

abbrev pub Effect : List ClassInfo → RegProgram → RegState → (ℕ → RegValue) → Stmt → Change → Type 0
Effect h p s regs Nop c = c ≡ goes_on
Effect h p s regs (Const dst n) c = c ≡ sets dst (IntValue n)
Effect h p s regs (Null dst) c = c ≡ sets dst NullValue
Effect h p s regs (Str dst site) c = c ≡ sets dst (Address site.0)
Effect h p s regs (Copy pairs) c = c ≡ Sets (map (λ m. (m.0.0, regs m.1.0)) pairs)
Effect h p s regs (Arith dst op a b) c =
    (m n r : ℤ) × (regs a.0 ≡ IntValue m) × (regs b.0 ≡ IntValue n) × (arithmetic_of op m n ≡ Some r) × (c ≡ sets dst (IntValue r))
Effect h p s regs (Neg dst a) c = (n : ℤ) × (regs a.0 ≡ IntValue n) × (c ≡ sets dst (IntValue (negation_of 32 n)))
Effect h p s regs (AddConst dst a k) c = (n : ℤ) × (regs a.0 ≡ IntValue n) × (c ≡ sets dst (IntValue (sum_of 32 n k)))
Effect h p s regs (Narrow dst op a) c = (n : ℤ) × (regs a.0 ≡ IntValue n) × (c ≡ sets dst (IntValue (narrowed op n)))
Effect h p s regs (AnyInt dst) c = SetsAnyInt dst c
Effect h p s regs (Assume condition) c = HoldsOf regs condition × (c ≡ goes_on)
Effect h p s regs (GetStatic dst f) c = c ≡ sets dst (s.statics f.0)
Effect h p s regs (PutStatic f src) c = c ≡ SetsStatic f.0 (regs src.0)
Effect h p s regs (GetField dst base f) c =
    (at : PointsTo s.heap (regs base.0)) × (v : RegValue) × (field_value f.0 at.object.contents ≡ Some v) × (c ≡ sets dst v)
Effect h p s regs (PutField base f src) c =
    (at : PointsTo s.heap (regs base.0)) × (v : RegValue) × (field_value f.0 at.object.contents ≡ Some v)
    × (c ≡ SetsField at.address f.0 (regs src.0))
Effect h p s regs (GetElem dst array kind) c = (e : HasElement p s (regs array.0) kind) × ReadsElement dst kind e.value c
Effect h p s regs (PutElem array src) c =
    (e : HasElement p s (regs array.0) RefElem) × (is_storable h p s.heap e.at.object.site (regs src.0) ≡ true)
    × (c ≡ SetsElement e.at.address e.place (regs src.0))
Effect h p s regs (Length dst array) c =
    (at : PointsTo s.heap (regs array.0)) × (n : ℕ) × (length_of at.object.contents ≡ Some n) × (c ≡ sets dst (IntValue (pos n)))
Effect h p s regs (New dst site) c = (k : ℕ) × (site_class h p site.0 ≡ Some k) × (c ≡ Makes dst.0 (new_object h k site.0))
Effect h p s regs (NewArray dst site count) c = (n : ℕ) × (regs count.0 ≡ IntValue (pos n)) × (c ≡ Makes dst.0 (new_array p site.0 n))
Effect h p s regs (Cast dst src text) c =
    ((regs src.0 ≡ NullValue) ⊎ (is_instance h p s.heap text (regs src.0) ≡ true)) × (c ≡ sets dst (regs src.0))
Effect h p s regs (InstanceOf dst src text) c = c ≡ sets dst (IntValue (if is_instance h p s.heap text (regs src.0) then pos 1 else pos 0))
Effect h p s regs (Call dst kind m args) c = Calls h p s regs kind m.0 args c
Effect h p s regs (Init k) c = (c ≡ goes_on) ⊎ ((m : ℕ) × IsInitialiser h k.0 m × (c ≡ Enters m []))
Effect h p s regs (Return src) c = c ≡ Leaves (option_map (λ r. r.0) src)
Effect h p s regs (Pick dst k) c =
    (a : ℕ) × (o : RegObject) × Among s.launched a × (slice_get s.heap a ≡ Some o) × (site_class h p o.site ≡ Some k.0)
    × (c ≡ sets dst (Address a))
Effect h p s regs (NonNull src) c = (a : ℕ) × (regs src.0 ≡ Address a) × (c ≡ goes_on)
Effect h p s regs Halt c = ⊥

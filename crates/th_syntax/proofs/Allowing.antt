-- Each instruction does only what its kind of effect may do.
use Rattle.std.proofs.Common.{◌≡◌, ℕ, ℤ, zero, suc, inl, inr, Bool, true, false, cond, if◌then◌else◌, List, [], ◌∷◌, ◌++◌, Option, None, Some, slice_get, refl, sym, ap, ◌∙◌}
use Rattle.std.specs.Prelude.{map, find, ◌-ℤ◌, ◌==◌, unsigned_abs, int_lt}
use Rattle.std.specs.Option.{option_and_then, option_map_or, unwrap_or}
use Rattle.std.proofs.lemmas.Bool.{eq-eqb, or_left, or_right}
use Rattle.th_base.specs.IdSet.{has}
use Rattle.th_base.proofs.Membership.{has_append_right}
use Rattle.th_base.specs.declared.class.ClassInfo.{ClassInfo}
use Rattle.th_base.specs.declared.operation.Elem.{Elem}
use Rattle.th_base.specs.declared.operation.Elem.TheVariants as elem
use Rattle.th_syntax.specs.declared.class_file.ClassFile.{ClassFile}
use Rattle.th_syntax.specs.declared.instr.Instr.{Instr}
use Rattle.th_syntax.specs.declared.instr.Instr.TheVariants.{Nop, Null, Int, Long, Str, ILoad, LLoad, ALoad, IStore, LStore, AStore, ArrayLoad, LArrayLoad, ArrayStore, LArrayStore, Stack, Arith, LArith, Neg, LNeg, Inc, Narrow, I2L, L2I, LCmp, IfZero, IfInts, IfSame, IfOther, IfNull, IfNotNull, Goto, TableSwitch, LookupSwitch, IReturn, LReturn, AReturn, Return, GetStatic, PutStatic, GetField, PutField, InvokeVirtual, InvokeSpecial, InvokeInterface, InvokeStatic, New, NewArray, ANewArray, ArrayLength, Throw, CheckCast, InstanceOf, MonitorEnter, MonitorExit}
use Rattle.th_syntax.specs.Flow.{leads_to}
use Rattle.th_syntax.specs.Machine.{Value, IntValue, LongValue, NullValue, Address, Slot, Object, Instance, Array, Mark, Untouched, InProgress, Done, InstanceAt, as_instance, instance_at, ArrayAt, as_array, array_at}
use Rattle.th_syntax.specs.Program.{hierarchy_of, code_of}
use Rattle.th_syntax.specs.Effects.{Top, Effect, GoesOn, Jumps, needs, or_ends, ends_unless, either_of, initialised, entered}
use Rattle.th_syntax.specs.Fields.{on_object}
use Rattle.th_syntax.specs.Branches.{same_int, table_target, lookup_target, branches}
use Rattle.th_syntax.specs.Arrays.{holds, holds_longs, makes_array, on_element, loads_element, stores_element, stores_elements, primitive_descriptor, named_descriptor}
use Rattle.th_syntax.specs.Calls.{Invoked, calls_on, selected_for, special_method}
use Rattle.th_syntax.specs.Step.{effect}
use Rattle.th_syntax.specs.Changes.{IsInitialised, IsOnReceiver, Takes, by_virtual, by_special, by_interface, by_static, IsAllowed, stuck, ends, goes_on, jumps, sets_static, sets_object, makes_instance, makes_array as makes_an_array, opens, calls as calls_method, returns}
use Rattle.th_syntax.proofs.Inverting.{some_is}

-- ---- choices

module _ (files : List ClassFile) (t : Top) (i : Instr) where
  needed : {A : Type 0} (o : Option A) (next : A → Effect) → ((x : A) → o ≡ Some x → IsAllowed files t i (next x)) → IsAllowed files t i (needs o next)
  unfolding needs
  needed None next all = stuck
  needed (Some x) next all = all x refl

  or_ended : {A : Type 0} (o : Option A) (next : A → Effect) → ((x : A) → o ≡ Some x → IsAllowed files t i (next x)) → IsAllowed files t i (or_ends o next)
  unfolding or_ends
  or_ended None next all = ends
  or_ended (Some x) next all = all x refl

  passed : (b : Bool) (next : Effect) → (b ≡ true → IsAllowed files t i next) → IsAllowed files t i (ends_unless b next)
  unfolding ends_unless
  passed true next all = all refl
  passed false next all = ends

  either : (b : Bool) (first second : Effect) → IsAllowed files t i first → IsAllowed files t i second → IsAllowed files t i (either_of b first second)
  unfolding either_of
  either true first second left right = left
  either false first second left right = right

  marked : (c : ℕ) (mark : Option Mark) (next : Effect) → slice_get t.state.marks c ≡ mark → (IsInitialised t.state c → IsAllowed files t i next) → IsAllowed files t i (initialised mark c next)
  unfolding initialised
  marked c None next is all = stuck
  marked c (Some Untouched) next is all = opens is
  marked c (Some InProgress) next is all = all (inl is)
  marked c (Some Done) next is all = all (inr is)

  -- an instruction behind which control always goes on
  onward : {locals stack : List Slot} → ((behind : List ℕ) → leads_to behind i ≡ behind) → IsAllowed files t i (GoesOn locals stack)
  onward falls = goes_on ([], falls)

  -- both outcomes of a branch
  branched : (b : Bool) (target : ℕ) (rest : List Slot) → ((behind : List ℕ) → leads_to behind i ≡ target ∷ behind) → IsAllowed files t i (branches t b target rest)
  branched b target rest leads =
      either b (Jumps target rest) (GoesOn t.locals rest)
      (jumps (λ behind. ap (λ xs. has xs target) (leads behind) ∙ or_left (target == target) (has behind target) (eq-eqb target target refl)))
      (goes_on (target ∷ [], leads))

  -- a method is entered
  entering : (method : ℕ) (arguments stack : List Slot) → Takes files t i method → IsAllowed files t i (entered files method arguments stack)
  entering method arguments stack takes = or_ended (code_of files method) _ (λ code e. calls_method code arguments takes e)

  -- on a receiver
  on_receiver : (m : Invoked) (taken : ℕ → Option ℕ) → ((method : ℕ) → IsOnReceiver files t m taken method → Takes files t i method) → IsAllowed files t i (calls_on files t m taken)
  on_receiver m taken takes =
      needed _ _ (λ receiver e. or_ended _ _ (λ c at. passed _ _ (λ fits. or_ended _ _ (λ method is.
      entering method _ _ (takes method (record { receiver = receiver; class = c; at = at; fits = fits; takes = is }))))))

  -- ---- objects and arrays that are changed

  instance_in : (o : Option Object) (a : ℕ) (x : InstanceAt) → option_and_then (as_instance a) o ≡ Some x → (o ≡ Some (Instance x.class x.fields)) × (a ≡ x.address)
  instance_in None a x e = absurd cc
  instance_in (Some (Instance class fields)) a x e =
      let same : (let y : InstanceAt = record { address = a; class = class; fields = fields } in y) ≡ x = some_is _ x e in
      (ap (λ (y : InstanceAt). let o : Option Object = Some (Instance y.class y.fields) in o) same, ap (λ (y : InstanceAt). y.address) same)
  instance_in (Some (Array descriptor elements)) a x e = absurd cc

  instance_stands : (heap : List Object) (v : Value) (x : InstanceAt) → instance_at heap v ≡ Some x → slice_get heap x.address ≡ Some (Instance x.class x.fields)
  instance_stands heap (IntValue n) x e = absurd cc
  instance_stands heap (LongValue n) x e = absurd cc
  instance_stands heap NullValue x e = absurd cc
  instance_stands heap (Address a) x e = let at = instance_in (slice_get heap a) a x e in ap (slice_get heap) (sym at.1) ∙ at.0

  array_in : (o : Option Object) (a : ℕ) (x : ArrayAt) → option_and_then (as_array a) o ≡ Some x → (o ≡ Some (Array x.descriptor x.elements)) × (a ≡ x.address)
  array_in None a x e = absurd cc
  array_in (Some (Instance class fields)) a x e = absurd cc
  array_in (Some (Array descriptor elements)) a x e =
      let same : (let y : ArrayAt = record { address = a; descriptor = descriptor; elements = elements } in y) ≡ x = some_is _ x e in
      (ap (λ (y : ArrayAt). let o : Option Object = Some (Array y.descriptor y.elements) in o) same, ap (λ (y : ArrayAt). y.address) same)

  array_stands : (heap : List Object) (v : Value) (x : ArrayAt) → array_at heap v ≡ Some x → slice_get heap x.address ≡ Some (Array x.descriptor x.elements)
  array_stands heap (IntValue n) x e = absurd cc
  array_stands heap (LongValue n) x e = absurd cc
  array_stands heap NullValue x e = absurd cc
  array_stands heap (Address a) x e = let at = array_in (slice_get heap a) a x e in ap (slice_get heap) (sym at.1) ∙ at.0

  on_an_object : (classes : List ClassInfo) (declaring : ℕ) (v : Value) (next : InstanceAt → Effect) → ((o : InstanceAt) → slice_get t.state.heap o.address ≡ Some (Instance o.class o.fields) → IsAllowed files t i (next o))
      → IsAllowed files t i (on_object classes t declaring v next)
  on_an_object classes declaring v next all = or_ended _ _ (λ o e. passed _ _ (λ below. all o (instance_stands t.state.heap v o e)))

  on_an_element : (kind : List ℕ → Bool) (v : Value) (index : ℤ) (next : ArrayAt → Value → Effect) → ((o : ArrayAt) (w : Value) → slice_get t.state.heap o.address ≡ Some (Array o.descriptor o.elements) → IsAllowed files t i (next o w))
      → IsAllowed files t i (on_element t kind v index next)
  on_an_element kind v index next all =
      or_ended _ _ (λ o e. passed _ _ (λ fits. or_ended _ _ (λ w at. all o w (array_stands t.state.heap v o e))))

  loaded : (kind : List ℕ → Bool) → ((behind : List ℕ) → leads_to behind i ≡ behind) → IsAllowed files t i (loads_element t kind)
  loaded kind falls = needed _ _ (λ n e. needed _ _ (λ p h. on_an_element kind p.value n.value _ (λ o v at. onward falls)))

  stored : (kind : List ℕ → Bool) (rest : List Slot) (fits : List ℕ → Bool) (value : List ℕ → Value) → ((behind : List ℕ) → leads_to behind i ≡ behind) → IsAllowed files t i (stores_element t kind rest fits value)
  stored kind rest fits value falls =
      needed _ _ (λ n e. needed _ _ (λ p h. on_an_element kind p.value n.value _
      (λ o old at. passed _ _ (λ good. sets_object (Array o.descriptor o.elements) ([], falls) at refl))))

  made : (component : List ℕ) → ((behind : List ℕ) → leads_to behind i ≡ behind) → IsAllowed files t i (makes_array t component)
  made component falls = needed _ _ (λ n e. passed _ _ (λ good. makes_an_array component (unsigned_abs n.value) ([], falls)))

-- ---- switches

has_here : (x : ℕ) (xs : List ℕ) → has (x ∷ xs) x ≡ true
has_here x xs = or_left (x == x) (has xs x) (eq-eqb x x refl)

unwrapped_has : (xs : List ℕ) (k other : ℕ) → has (xs ++ other ∷ []) (unwrap_or (slice_get xs k) other) ≡ true
unwrapped_has [] k other = has_here other []
unwrapped_has (x ∷ xs) zero other = has_here x (xs ++ other ∷ [])
unwrapped_has (x ∷ xs) (suc k) other = or_right (x == unwrap_or (slice_get xs k) other) _ (unwrapped_has xs k other)

chosen_has : (b : Bool) (xs : List ℕ) (x other : ℕ) → has (xs ++ other ∷ []) x ≡ true → has (xs ++ other ∷ []) (if b then other else x) ≡ true
chosen_has true xs x other e = has_append_right xs (other ∷ []) other (has_here other [])
chosen_has false xs x other e = e

table_has : (low : ℤ) (targets : List ℕ) (other : ℕ) (key : ℤ) → has (targets ++ other ∷ []) (table_target low targets other key) ≡ true
table_has low targets other key = chosen_has (int_lt key low) targets _ other (unwrapped_has targets (unsigned_abs (key -ℤ low)) other)

found_has : (b : Bool) (x other : ℕ) (xs : List ℕ) (o : Option (ℤ × ℕ)) (p : ℤ × ℕ) → p.1 ≡ x → has (xs ++ other ∷ []) (option_map_or (λ pair. pair.1) o other) ≡ true
    → has (x ∷ (xs ++ other ∷ [])) (option_map_or (λ pair. pair.1) (cond b (Some p) o) other) ≡ true
found_has true x other xs o p is e = or_left (x == p.1) _ (eq-eqb x p.1 (sym is))
found_has false x other xs o p is e = or_right (x == option_map_or (λ pair. pair.1) o other) _ e

lookup_has : (pairs : List (ℤ × ℕ)) (other : ℕ) (key : ℤ) → has (map (λ pair. pair.1) pairs ++ other ∷ []) (lookup_target pairs other key) ≡ true
lookup_has [] other key = has_here other []
lookup_has (p ∷ pairs) other key = found_has (same_int p.0 key) p.1 other (map (λ pair. pair.1) pairs) (find (λ pair. same_int pair.0 key) pairs) p refl (lookup_has pairs other key)

-- ---- each instruction

ints_stored : (files : List ClassFile) (t : Top) (e : Elem) → IsAllowed files t (ArrayStore e) (stores_elements files t e)
ints_stored files t elem.Int = needed files t (ArrayStore elem.Int) _ _ (λ v e. stored files t (ArrayStore elem.Int) (holds elem.Int) v.rest _ _ (λ b. refl))
ints_stored files t elem.Ref = needed files t (ArrayStore elem.Ref) _ _ (λ v e. stored files t (ArrayStore elem.Ref) (holds elem.Ref) v.rest _ _ (λ b. refl))
ints_stored files t elem.Byte = needed files t (ArrayStore elem.Byte) _ _ (λ v e. stored files t (ArrayStore elem.Byte) (holds elem.Byte) v.rest _ _ (λ b. refl))
ints_stored files t elem.Char = needed files t (ArrayStore elem.Char) _ _ (λ v e. stored files t (ArrayStore elem.Char) (holds elem.Char) v.rest _ _ (λ b. refl))
ints_stored files t elem.Short = needed files t (ArrayStore elem.Short) _ _ (λ v e. stored files t (ArrayStore elem.Short) (holds elem.Short) v.rest _ _ (λ b. refl))

pub allowed : (files : List ClassFile) (t : Top) (i : Instr) → IsAllowed files t i (effect files t i)
allowed files t Nop = onward files t Nop (λ b. refl)
allowed files t Null = onward files t Null (λ b. refl)
allowed files t (Int n) = onward files t (Int n) (λ b. refl)
allowed files t (Long n) = onward files t (Long n) (λ b. refl)
allowed files t (Str text) = needed files t (Str text) _ _ (λ v e. onward files t (Str text) (λ b. refl))
allowed files t (ILoad n) = needed files t (ILoad n) _ _ (λ k e. onward files t (ILoad n) (λ b. refl))
allowed files t (LLoad n) = needed files t (LLoad n) _ _ (λ k e. onward files t (LLoad n) (λ b. refl))
allowed files t (ALoad n) = needed files t (ALoad n) _ _ (λ v e. onward files t (ALoad n) (λ b. refl))
allowed files t (IStore n) = needed files t (IStore n) _ _ (λ p e. onward files t (IStore n) (λ b. refl))
allowed files t (LStore n) = needed files t (LStore n) _ _ (λ p e. onward files t (LStore n) (λ b. refl))
allowed files t (AStore n) = needed files t (AStore n) _ _ (λ p e. onward files t (AStore n) (λ b. refl))
allowed files t (ArrayLoad e) = loaded files t (ArrayLoad e) (holds e) (λ b. refl)
allowed files t LArrayLoad = loaded files t LArrayLoad holds_longs (λ b. refl)
allowed files t (ArrayStore e) = ints_stored files t e
allowed files t LArrayStore = needed files t LArrayStore _ _ (λ v e. stored files t LArrayStore holds_longs v.rest _ _ (λ b. refl))
allowed files t (Stack op) = needed files t (Stack op) _ _ (λ s e. onward files t (Stack op) (λ b. refl))
allowed files t (Arith op) =
    needed files t (Arith op) _ _ (λ b e. needed files t (Arith op) _ _ (λ a h. or_ended files t (Arith op) _ _ (λ n g. onward files t (Arith op) (λ x. refl))))
allowed files t (LArith op) =
    needed files t (LArith op) _ _ (λ b e. needed files t (LArith op) _ _ (λ a h. or_ended files t (LArith op) _ _ (λ n g. onward files t (LArith op) (λ x. refl))))
allowed files t Neg = needed files t Neg _ _ (λ a e. onward files t Neg (λ b. refl))
allowed files t LNeg = needed files t LNeg _ _ (λ a e. onward files t LNeg (λ b. refl))
allowed files t (Inc n by) = needed files t (Inc n by) _ _ (λ k e. onward files t (Inc n by) (λ b. refl))
allowed files t (Narrow op) = needed files t (Narrow op) _ _ (λ a e. onward files t (Narrow op) (λ b. refl))
allowed files t I2L = needed files t I2L _ _ (λ a e. onward files t I2L (λ b. refl))
allowed files t L2I = needed files t L2I _ _ (λ a e. onward files t L2I (λ b. refl))
allowed files t LCmp = needed files t LCmp _ _ (λ b e. needed files t LCmp _ _ (λ a h. onward files t LCmp (λ x. refl)))
allowed files t (IfZero relation target) = needed files t (IfZero relation target) _ _ (λ a e. branched files t (IfZero relation target) _ target a.rest (λ b. refl))
allowed files t (IfInts relation target) =
    needed files t (IfInts relation target) _ _ (λ b e. needed files t (IfInts relation target) _ _ (λ a h. branched files t (IfInts relation target) _ target a.rest (λ x. refl)))
allowed files t (IfSame target) = needed files t (IfSame target) _ _ (λ b e. needed files t (IfSame target) _ _ (λ a h. branched files t (IfSame target) _ target a.rest (λ x. refl)))
allowed files t (IfOther target) = needed files t (IfOther target) _ _ (λ b e. needed files t (IfOther target) _ _ (λ a h. branched files t (IfOther target) _ target a.rest (λ x. refl)))
allowed files t (IfNull target) = needed files t (IfNull target) _ _ (λ a e. branched files t (IfNull target) _ target a.rest (λ x. refl))
allowed files t (IfNotNull target) = needed files t (IfNotNull target) _ _ (λ a e. branched files t (IfNotNull target) _ target a.rest (λ x. refl))
allowed files t (Goto target) = jumps (λ behind. has_here target [])
allowed files t (TableSwitch low targets other) = needed files t (TableSwitch low targets other) _ _ (λ key e. jumps (λ behind. table_has low targets other key.value))
allowed files t (LookupSwitch pairs other) = needed files t (LookupSwitch pairs other) _ _ (λ key e. jumps (λ behind. lookup_has pairs other key.value))
allowed files t IReturn = needed files t IReturn _ _ (λ a e. returns)
allowed files t LReturn = needed files t LReturn _ _ (λ a e. returns)
allowed files t AReturn = needed files t AReturn _ _ (λ a e. returns)
allowed files t Return = returns
allowed files t (GetStatic r) =
    needed files t (GetStatic r) _ _ (λ f e. marked files t (GetStatic r) f.0 (slice_get t.state.marks f.0) _ refl
    (λ ready. needed files t (GetStatic r) _ _ (λ v h. onward files t (GetStatic r) (λ b. refl))))
allowed files t (PutStatic r) =
    needed files t (PutStatic r) _ _ (λ f e. marked files t (PutStatic r) f.0 (slice_get t.state.marks f.0) _ refl
    (λ ready. needed files t (PutStatic r) _ _ (λ p h. sets_static r f refl e ready)))
allowed files t (GetField r) =
    needed files t (GetField r) _ _ (λ f e. needed files t (GetField r) _ _ (λ p h. on_an_object files t (GetField r) (hierarchy_of files) f.0 p.value _
    (λ o at. needed files t (GetField r) _ _ (λ v g. onward files t (GetField r) (λ b. refl)))))
allowed files t (PutField r) =
    needed files t (PutField r) _ _ (λ f e. needed files t (PutField r) _ _ (λ v h. needed files t (PutField r) _ _
    (λ p g. on_an_object files t (PutField r) (hierarchy_of files) f.0 p.value _ (λ o at. sets_object (Instance o.class o.fields) ([], λ b. refl) at refl))))
allowed files t (InvokeVirtual r) =
    needed files t (InvokeVirtual r) _ _ (λ m e. on_receiver files t (InvokeVirtual r) m (selected_for (hierarchy_of files) m.method) (λ method on. by_virtual r m e on))
allowed files t (InvokeSpecial r) =
    needed files t (InvokeSpecial r) _ _ (λ m e. on_receiver files t (InvokeSpecial r) m (λ c. special_method files t.method m) (λ method on. by_special r m e on))
allowed files t (InvokeInterface r) =
    needed files t (InvokeInterface r) _ _ (λ m e. on_receiver files t (InvokeInterface r) m (selected_for (hierarchy_of files) m.method) (λ method on. by_interface r m e on))
allowed files t (InvokeStatic r) =
    needed files t (InvokeStatic r) _ _ (λ m e. marked files t (InvokeStatic r) m.declaring (slice_get t.state.marks m.declaring) _ refl
    (λ ready. entering files t (InvokeStatic r) m.method.id.0 _ _ (by_static r m e ready)))
allowed files t (New name) =
    needed files t (New name) _ _ (λ c e. marked files t (New name) c (slice_get t.state.marks c) _ refl (λ ready. passed files t (New name) _ _ (λ good. makes_instance name c refl e ready)))
allowed files t (NewArray type) = made files t (NewArray type) (primitive_descriptor type) (λ b. refl)
allowed files t (ANewArray name) = made files t (ANewArray name) (named_descriptor name) (λ b. refl)
allowed files t ArrayLength = needed files t ArrayLength _ _ (λ p e. or_ended files t ArrayLength _ _ (λ o h. onward files t ArrayLength (λ b. refl)))
allowed files t Throw = ends
allowed files t (CheckCast name) = needed files t (CheckCast name) _ _ (λ p e. passed files t (CheckCast name) _ _ (λ good. onward files t (CheckCast name) (λ b. refl)))
allowed files t (InstanceOf name) = needed files t (InstanceOf name) _ _ (λ p e. onward files t (InstanceOf name) (λ b. refl))
allowed files t MonitorEnter = needed files t MonitorEnter _ _ (λ p e. passed files t MonitorEnter _ _ (λ good. onward files t MonitorEnter (λ b. refl)))
allowed files t MonitorExit = needed files t MonitorExit _ _ (λ p e. passed files t MonitorExit _ _ (λ good. onward files t MonitorExit (λ b. refl)))

-- Each instruction does what its row says: it isn't stuck where the kinds before it fit, and what it leaves
-- is of the kinds behind it.
use Rattle.std.proofs.Common.{◌≡◌, ℕ, ℤ, zero, suc, ◌+◌, ◌<◌, ◌⊎◌, inl, inr, ◌||◌, not, Bool, true, false, if◌then◌else◌, List, [], ◌∷◌, ◌++◌, Option, None, Some, slice_get, refl, sym, ap, subst, ◌∙◌, arith}
use Rattle.std.specs.Prelude.{⊤, pos, nat_le, length, take, drop, reverse, unsigned_abs, int_lt, codes, sum_by}
use Rattle.std.specs.List.{AllByRecursion}
use Rattle.std.specs.Option.{option_and_then, option_map}
use Rattle.std.specs.Str.{bytes_eq}
use Rattle.std.proofs.lemmas.Option.{slice_get_within}
use Rattle.th_base.specs.IdSet.{has}
use Rattle.th_base.specs.ValueKinds.{is_reference, is_long}
use Rattle.th_base.specs.declared.class.FieldInfo.{FieldInfo}
use Rattle.th_base.specs.declared.class.MethodInfo.{MethodInfo}
use Rattle.th_base.specs.declared.operation.ArithOp.{ArithOp}
use Rattle.th_base.specs.declared.operation.ArithOp.TheVariants.{Add, Sub, Mul, Div, Rem, Shl, Shr, Ushr, And, Or, Xor}
use Rattle.th_base.specs.declared.operation.Elem.{Elem}
use Rattle.th_base.specs.declared.operation.Elem.TheVariants as elem
use Rattle.th_base.specs.Hierarchy.{supertypes_of, is_subclass}
use Rattle.th_syntax.specs.declared.class_file.ClassFile.{ClassFile}
use Rattle.th_syntax.specs.declared.class_file.Code.{Code}
use Rattle.th_syntax.specs.declared.class_file.Member.{Member}
use Rattle.th_syntax.specs.declared.instr.Instr.{Instr}
use Rattle.th_syntax.specs.declared.instr.Instr.TheVariants.{Nop, Null, Int, Long, Str, ILoad, LLoad, ALoad, IStore, LStore, AStore, ArrayLoad, LArrayLoad, ArrayStore, LArrayStore, Stack, Arith, LArith, Neg, LNeg, Inc, Narrow, I2L, L2I, LCmp, IfZero, IfInts, IfSame, IfOther, IfNull, IfNotNull, Goto, TableSwitch, LookupSwitch, IReturn, LReturn, AReturn, Return, GetStatic, PutStatic, GetField, PutField, InvokeVirtual, InvokeSpecial, InvokeInterface, InvokeStatic, New, NewArray, ANewArray, ArrayLength, Throw, CheckCast, InstanceOf, MonitorEnter, MonitorExit}
use Rattle.th_syntax.specs.declared.instr.MemberRef.{MemberRef}
use Rattle.th_syntax.specs.declared.kind.SlotKind.{SlotKind}
use Rattle.th_syntax.specs.declared.kind.SlotKind.TheVariants as kind
use Rattle.th_syntax.specs.declared.machine.Value.{Value}
use Rattle.th_syntax.specs.declared.machine.Value.TheVariants.{Int as IntValue, Long as LongValue, Null as NullValue, Address}
use Rattle.th_syntax.specs.declared.machine.Slot.{Slot}
use Rattle.th_syntax.specs.declared.machine.Slot.TheVariants.{Holds}
use Rattle.th_syntax.specs.declared.machine.Object.{Object}
use Rattle.th_syntax.specs.declared.machine.Object.TheVariants.{Instance, Array}
use Rattle.th_syntax.specs.declared.machine.Mark.{Mark}
use Rattle.th_syntax.specs.declared.machine.Mark.TheVariants.{Untouched, InProgress, Done}
use Rattle.th_syntax.specs.Machine.{InstanceAt, ArrayAt}
use Rattle.th_syntax.specs.Slots.{int_of, long_of, reference_of, value_in, pushed, Popped, popped, popped_int, popped_long, popped_reference, local_int, local_long, local_reference, locals_with}
use Rattle.th_syntax.specs.Program.{Owned, all_classes, fields_of, methods_of, hierarchy_of, code_of, number_named}
use Rattle.th_syntax.specs.Initial.{string_constant}
use Rattle.th_syntax.specs.Strings.{string_number_of}
use Rattle.th_syntax.specs.Effects.{Top, Effect, Ends, GoesOn, Jumps, SetsStatic, SetsObject, Makes, Opens, Calls, Returns, needs, or_ends, ends_unless, either_of, initialised}
use Rattle.th_syntax.specs.Computing.{second_operand}
use Rattle.th_syntax.specs.Fields.{field_resolved, on_object}
use Rattle.th_syntax.specs.Branches.{branches}
use Rattle.th_syntax.specs.Arrays.{holds, holds_longs, primitive_descriptor, named_descriptor, makes_array, on_element, loads_element, stores_element, stores_elements}
use Rattle.th_syntax.specs.Calls.{argument_slots as slots_of_arguments, Invoked, invoked_in, invoked, invokes_selected, invokes_special, invokes_static, calls, calls_on}
use Rattle.th_syntax.specs.Step.{effect}
use Rattle.th_syntax.specs.KindRows.{KindRow, Works, int, long, ref, element_slots, field_slots, parameter_slots, result_slots, second_operand as second_slots, row_of, move_row, slots_taken, slots_given, locals_after, stack_after, are_wrong}
use Rattle.th_syntax.specs.KindTable.{argument_slots, is_other_return}
use Rattle.th_syntax.specs.Kinds.{are_same_kinds}
use Rattle.th_syntax.specs.Descriptors.{size_of, MethodType, method_type_of, is_floating_method}
use Rattle.th_syntax.specs.LinkChecks.{use_of}
use Rattle.th_syntax.specs.Linking.{IsLinked, IsFieldFound, IsMethodFound, Stands}
use Rattle.th_syntax.proofs.Inverting.{all_at}
use Rattle.th_syntax.proofs.Origins.{all_set}
use Rattle.th_runs.specs.Fitting.{IsOfKind, AreOfKinds, type_slots, IsOfType, IsOfField, IsShaped}
use Rattle.th_runs.specs.Sound.{IsDescribed}
use Rattle.th_runs.proofs.Leading.{instance_stands, array_stands}
use Rattle.th_runs.proofs.Declaring.{same_text}
use Rattle.th_syntax.specs.declared.instr.StackOp.{StackOp}
use Rattle.th_syntax.specs.declared.instr.StackOp.TheVariants as move
use Rattle.th_runs.proofs.Taking.{class_named, IsInvoked, invoked_is, resolved_is, as_found, field_is, IsTaken, selected_for_is, special_is}
use Rattle.th_runs.proofs.Fits.{BeginWithKinds, operands, kinds_are, not_false, int_top, long_top, reference_top, popped_int_is, popped_long_is, popped_reference_is, IsReferenceValue, value_top, push_fits, local_at, local_kind, store_int, store_long, store_reference, store_length, moves_fit, taken_last}
use Rattle.th_runs.proofs.Shaping.{new_shaped, array_shaped, field_found, put_shaped, known_here}
use Rattle.th_runs.proofs.Calling.{arguments_fit, receiver_there, slots_counted, IsCalled, called}

-- a method begins: its arguments are of its kinds, and so is what is left of the stack
pub record IsBegun (files : List ClassFile) (row : KindRow) (st : List SlotKind) (method : ℕ) (locals stack : List Slot) : Type 0 where
  pub owned : Owned
  pub numbered : slice_get (methods_of files) method ≡ Some owned
  pub code : Code
  pub has_code : owned.member.code ≡ Some code
  pub arguments : List Slot
  pub locals_are : locals ≡ locals_with arguments code.max_locals
  pub arguments_fit : AreOfKinds (argument_slots owned.member) arguments
  pub stack_fits : AreOfKinds (drop (slots_taken row) st) stack
  pub result : slots_given row st ≡ reverse (result_slots owned.member.descriptor)

there : {A : Type 0} (xs : List A) (k : ℕ) → k < length xs → (x : A) × (slice_get xs k ≡ Some x)
there [] k less = absurd (omega arith)
there (x ∷ xs) zero less = (x, refl)
there (x ∷ xs) (suc k) less = there xs k (omega arith)

-- ---- the types of arrays

reference_test : (a b : Bool) → a ≡ true → (if a then ref else if b then long else int) ≡ ref
reference_test true b e = refl
reference_test false b e = absurd cc

either_test : (a b : Bool) → (a || b) ≡ true → (a ≡ true) ⊎ (b ≡ true)
either_test true b e = inl refl
either_test false b e = inr e

-- the elements of an array that holds such elements
element_type : (e : Elem) (d : List ℕ) → holds e d ≡ true → type_slots (drop 1 d) ≡ element_slots e
element_type elem.Int d e = ap (λ x. type_slots (drop 1 x)) (same_text d (codes "[I") e)
element_type elem.Ref d e = reference_test (is_reference (drop 1 d)) (is_long (drop 1 d)) e
element_type elem.Byte d e =
    elim (either_test (bytes_eq d (codes "[B")) (bytes_eq d (codes "[Z")) e) [
      | inl one ↦ ap (λ x. type_slots (drop 1 x)) (same_text d (codes "[B") one)
      | inr two ↦ ap (λ x. type_slots (drop 1 x)) (same_text d (codes "[Z") two)
    ]
element_type elem.Char d e = ap (λ x. type_slots (drop 1 x)) (same_text d (codes "[C") e)
element_type elem.Short d e = ap (λ x. type_slots (drop 1 x)) (same_text d (codes "[S") e)

longs_type : (d : List ℕ) → holds_longs d ≡ true → type_slots (drop 1 d) ≡ long
longs_type d e = ap (λ x. type_slots (drop 1 x)) (same_text d (codes "[J") e)

of_slots : (d : List ℕ) (slots : List SlotKind) (v : Value) → type_slots d ≡ slots → AreOfKinds (reverse slots) (pushed v []) → IsOfType d v
of_slots d slots v e typed = subst (λ ks. AreOfKinds (reverse ks) (pushed v [])) (sym e) typed

to_slots : (d : List ℕ) (slots : List SlotKind) (v : Value) → type_slots d ≡ slots → IsOfType d v → AreOfKinds (reverse slots) (pushed v [])
to_slots d slots v e typed = subst (λ ks. AreOfKinds (reverse ks) (pushed v [])) e typed

reference_typed : (v : Value) → IsReferenceValue v → AreOfKinds (reverse ref) (pushed v [])
reference_typed v (inl e) = subst (λ w. AreOfKinds (reverse ref) (pushed w [])) (sym e) (inl refl, tt)
reference_typed v (inr at) = subst (λ w. AreOfKinds (reverse ref) (pushed w [])) (sym at.1) (inr (at.0, refl), tt)

reference_pushed : (v : Value) (rest : List SlotKind) (stack : List Slot) → IsReferenceValue v → AreOfKinds rest stack → AreOfKinds (kind.Ref ∷ rest) (pushed v stack)
reference_pushed v rest stack proper fit = push_fits ref v rest stack (reference_typed v proper) fit

element_by : (b : Bool) (d : List ℕ) (elements : List Value) (k : ℕ) (v : Value) → AllByRecursion (IsOfType d) elements → (if b then None else slice_get elements k) ≡ Some v → IsOfType d v
element_by true d elements k v all e = absurd cc
element_by false d elements k v all e = all_at (IsOfType d) elements k v all e

-- ---- effects

module _ (files : List ClassFile) (linked : IsLinked files) (t : Top) (mine : Member) (ls st : List SlotKind)
    (locals_fit : BeginWithKinds ls t.locals) (stack_fits : AreOfKinds st t.stack)
    (statics_fit : (field : ℕ) (v : Value) → slice_get t.state.statics field ≡ Some v → IsOfField files field v)
    (statics_count : length t.state.statics ≡ length (fields_of files))
    (heap_fits : AllByRecursion (IsShaped files) t.state.heap)
    (marks_count : length t.state.marks ≡ length (all_classes files)) where
  -- what an effect of an instruction of this row has; it isn't stuck
  pub data Suits (row : KindRow) : Effect → Type 0 where
    ends : Suits row Ends
    goes : {locals stack : List Slot} → BeginWithKinds (locals_after row ls) locals → length locals ≡ length t.locals → AreOfKinds (stack_after row st) stack → Suits row (GoesOn locals stack)
    jumps : {target : ℕ} {stack : List Slot} → BeginWithKinds (locals_after row ls) t.locals → AreOfKinds (stack_after row st) stack → Suits row (Jumps target stack)
    sets_static : {field : ℕ} {v : Value} {stack : List Slot} → IsOfField files field v → BeginWithKinds (locals_after row ls) t.locals → AreOfKinds (stack_after row st) stack → Suits row (SetsStatic field v stack)
    sets_object : {a : ℕ} {o : Object} {stack : List Slot} → IsShaped files o → BeginWithKinds (locals_after row ls) t.locals → AreOfKinds (stack_after row st) stack → Suits row (SetsObject a o stack)
    makes : {o : Object} {stack : List Slot} → IsShaped files o → BeginWithKinds (locals_after row ls) t.locals → AreOfKinds (stack_after row st) (Holds (Address (length t.state.heap)) ∷ stack) → Suits row (Makes o stack)
    opens : {c : ℕ} → Suits row (Opens c)
    begins : {method : ℕ} {locals stack : List Slot} → IsBegun files row st method locals stack → BeginWithKinds (locals_after row ls) t.locals → Suits row (Calls method locals stack)
    hands_over : {results : List Slot} → AreOfKinds (reverse (result_slots mine.descriptor)) results → Suits row (Returns results)

  -- ---- choices

  needed : {A : Type 0} (row : KindRow) (o : Option A) (x : A) (next : A → Effect) → o ≡ Some x → Suits row (next x) → Suits row (needs o next)
  unfolding needs
  needed {A} row o x next e suits = subst (λ (p : Option A). Suits row (needs p next)) (sym e) suits

  or_ended : {A : Type 0} (row : KindRow) (o : Option A) (next : A → Effect) → ((x : A) → o ≡ Some x → Suits row (next x)) → Suits row (or_ends o next)
  unfolding or_ends
  or_ended row None next all = ends
  or_ended row (Some x) next all = all x refl

  passed : (row : KindRow) (b : Bool) (next : Effect) → (b ≡ true → Suits row next) → Suits row (ends_unless b next)
  unfolding ends_unless
  passed row true next all = all refl
  passed row false next all = ends

  either : (row : KindRow) (b : Bool) (first second : Effect) → Suits row first → Suits row second → Suits row (either_of b first second)
  unfolding either_of
  either row true first second left right = left
  either row false first second left right = right

  marked_by : (row : KindRow) (c : ℕ) (mark : Option Mark) (m : Mark) (next : Effect) → mark ≡ Some m → Suits row next → Suits row (initialised mark c next)
  unfolding initialised
  marked_by row c None m next e suits = absurd cc
  marked_by row c (Some Untouched) m next e suits = opens
  marked_by row c (Some InProgress) m next e suits = suits
  marked_by row c (Some Done) m next e suits = suits

  -- a class of the program has a mark
  marked : (row : KindRow) (c : ℕ) (class : ClassFile) (next : Effect) → slice_get (all_classes files) c ≡ Some class → Suits row next → Suits row (initialised (slice_get t.state.marks c) c next)
  marked row c class next at suits =
      let inside : c < length t.state.marks = subst (λ n. c < n) (sym marks_count) (slice_get_within (all_classes files) c class at) in
      let m = there t.state.marks c inside in
      marked_by row c (slice_get t.state.marks c) m.0 next m.1 suits

  -- ---- operands

  int_pops : (row : KindRow) (rest : List SlotKind) (stack : List Slot) (next : Popped ℤ → Effect) → AreOfKinds (kind.Int ∷ rest) stack → ((p : Popped ℤ) → AreOfKinds rest p.rest → Suits row (next p)) → Suits row (needs (popped_int stack) next)
  int_pops row rest stack next fit go =
      let top = int_top rest stack fit in
      let p : Popped ℤ = record { value = top.value; rest = top.under } in
      needed row (popped_int stack) p next (popped_int_is rest stack top) (go p top.fits)

  long_pops : (row : KindRow) (rest : List SlotKind) (stack : List Slot) (next : Popped ℤ → Effect) → AreOfKinds (kind.SecondHalf ∷ kind.Long ∷ rest) stack → ((p : Popped ℤ) → AreOfKinds rest p.rest → Suits row (next p)) → Suits row (needs (popped_long stack) next)
  long_pops row rest stack next fit go =
      let top = long_top rest stack fit in
      let p : Popped ℤ = record { value = top.value; rest = top.under } in
      needed row (popped_long stack) p next (popped_long_is rest stack top) (go p top.fits)

  reference_pops : (row : KindRow) (rest : List SlotKind) (stack : List Slot) (next : Popped Value → Effect) → AreOfKinds (kind.Ref ∷ rest) stack → ((p : Popped Value) → IsReferenceValue p.value → AreOfKinds rest p.rest → Suits row (next p))
      → Suits row (needs (popped_reference stack) next)
  reference_pops row rest stack next fit go =
      let top = reference_top rest stack fit in
      let p : Popped Value = record { value = top.value; rest = top.under } in
      needed row (popped_reference stack) p next (popped_reference_is rest stack top) (go p top.proper top.fits)

  -- a value of a type
  value_pops : (row : KindRow) (d : List ℕ) (rest : List SlotKind) (stack : List Slot) (next : Popped Value → Effect) → AreOfKinds (reverse (type_slots d) ++ rest) stack → ((p : Popped Value) → IsOfType d p.value → AreOfKinds rest p.rest → Suits row (next p))
      → Suits row (needs (popped stack) next)
  value_pops row d rest stack next fit go =
      let top = value_top (is_reference d) (is_long d) rest stack fit in
      let p : Popped Value = record { value = top.value; rest = top.under } in
      needed row (popped stack) p next top.is (go p top.typed top.fits)

  branched : (takes : List SlotKind) (b : Bool) (target : ℕ) (rest : List Slot) → AreOfKinds (drop (length takes) st) rest → Suits (Works takes []) (branches t b target rest)
  branched takes b target rest fit = either (Works takes []) b (Jumps target rest) (GoesOn t.locals rest) (jumps locals_fit fit) (goes locals_fit refl fit)

  on_an_object : (row : KindRow) (declaring : ℕ) (v : Value) (next : InstanceAt → Effect) → ((o : InstanceAt) → IsShaped files (Instance o.class o.fields) → is_subclass (hierarchy_of files) o.class.0 declaring ≡ true → Suits row (next o))
      → Suits row (on_object (hierarchy_of files) t declaring v next)
  on_an_object row declaring v next go =
      or_ended row _ _ (λ o e. passed row _ _ (λ above. go o (all_at (IsShaped files) t.state.heap o.address (Instance o.class o.fields) heap_fits (instance_stands t.state.heap v o e)) above))

  on_an_element : (row : KindRow) (fits : List ℕ → Bool) (v : Value) (index : ℤ) (next : ArrayAt → Value → Effect)
      → ((o : ArrayAt) (w : Value) → AllByRecursion (IsOfType (drop 1 o.descriptor)) o.elements → IsOfType (drop 1 o.descriptor) w → fits o.descriptor ≡ true → Suits row (next o w)) → Suits row (on_element t fits v index next)
  on_an_element row fits v index next go =
      or_ended row _ _ (λ o e. passed row _ _ (λ is. or_ended row _ _ (λ w at.
      let all : AllByRecursion (IsOfType (drop 1 o.descriptor)) o.elements = all_at (IsShaped files) t.state.heap o.address (Array o.descriptor o.elements) heap_fits (array_stands t.state.heap v o e) in
      go o w all (element_by (int_lt index (pos 0)) (drop 1 o.descriptor) o.elements (unsigned_abs index) w all at) is)))

  -- ---- loads, stores and arithmetic

  holds_int : (n : ℕ) (k : ℤ) (s : Slot) → slice_get t.locals n ≡ Some s → s ≡ Holds (IntValue k) → local_int t.locals n ≡ Some k
  holds_int n k s at is = ap (λ (o : Option Slot). option_and_then int_of (option_and_then value_in o)) (at ∙ ap (λ (r : Slot). Some r) is)

  holds_long : (n : ℕ) (k : ℤ) (s : Slot) → slice_get t.locals n ≡ Some s → s ≡ Holds (LongValue k) → local_long t.locals n ≡ Some k
  holds_long n k s at is = ap (λ (o : Option Slot). option_and_then long_of (option_and_then value_in o)) (at ∙ ap (λ (r : Slot). Some r) is)

  holds_reference : (n : ℕ) (s : Slot) → slice_get t.locals n ≡ Some s → IsOfKind kind.Ref s → (v : Value) × (local_reference t.locals n ≡ Some v) × IsReferenceValue v
  holds_reference n s at (inl is) = (NullValue, ap (λ (o : Option Slot). option_and_then reference_of (option_and_then value_in o)) (at ∙ ap (λ (r : Slot). Some r) is), inl refl)
  holds_reference n s at (inr is) = (Address is.0, ap (λ (o : Option Slot). option_and_then reference_of (option_and_then value_in o)) (at ∙ ap (λ (r : Slot). Some r) is.1), inr (is.0, refl))

  int_local : (n : ℕ) → slice_get ls n ≡ Some kind.Int → (k : ℤ) × (local_int t.locals n ≡ Some k)
  int_local n e = let s = local_at kind.Int ls t.locals n locals_fit e in (s.2.0, holds_int n s.2.0 s.0 s.1 s.2.1)

  long_local : (n : ℕ) → slice_get ls n ≡ Some kind.Long → (k : ℤ) × (local_long t.locals n ≡ Some k)
  long_local n e = let s = local_at kind.Long ls t.locals n locals_fit e in (s.2.0, holds_long n s.2.0 s.0 s.1 s.2.1)

  reference_local : (n : ℕ) → slice_get ls n ≡ Some kind.Ref → (v : Value) × (local_reference t.locals n ≡ Some v) × IsReferenceValue v
  reference_local n e = let s = local_at kind.Ref ls t.locals n locals_fit e in holds_reference n s.0 s.1 s.2

  -- the second operand of an operation on longs
  second_pops : (op : ArithOp) (row : KindRow) (rest : List SlotKind) (stack : List Slot) (next : Popped ℤ → Effect) → AreOfKinds (reverse (long ++ second_slots op) ++ rest) stack
      → ((p : Popped ℤ) → AreOfKinds (kind.SecondHalf ∷ kind.Long ∷ rest) p.rest → Suits row (next p)) → Suits row (needs (second_operand op stack) next)
  second_pops Add row rest = long_pops row (kind.SecondHalf ∷ kind.Long ∷ rest)
  second_pops Sub row rest = long_pops row (kind.SecondHalf ∷ kind.Long ∷ rest)
  second_pops Mul row rest = long_pops row (kind.SecondHalf ∷ kind.Long ∷ rest)
  second_pops Div row rest = long_pops row (kind.SecondHalf ∷ kind.Long ∷ rest)
  second_pops Rem row rest = long_pops row (kind.SecondHalf ∷ kind.Long ∷ rest)
  second_pops Shl row rest = int_pops row (kind.SecondHalf ∷ kind.Long ∷ rest)
  second_pops Shr row rest = int_pops row (kind.SecondHalf ∷ kind.Long ∷ rest)
  second_pops Ushr row rest = int_pops row (kind.SecondHalf ∷ kind.Long ∷ rest)
  second_pops And row rest = long_pops row (kind.SecondHalf ∷ kind.Long ∷ rest)
  second_pops Or row rest = long_pops row (kind.SecondHalf ∷ kind.Long ∷ rest)
  second_pops Xor row rest = long_pops row (kind.SecondHalf ∷ kind.Long ∷ rest)

  -- ---- returns

  returned : (slots : List SlotKind) (results : List Slot) → not (are_same_kinds slots (result_slots mine.descriptor)) ≡ false → AreOfKinds (reverse slots) results → AreOfKinds (reverse (result_slots mine.descriptor)) results
  returned slots results same fit = subst (λ ks. AreOfKinds (reverse ks) results) (kinds_are slots (result_slots mine.descriptor) (not_false _ same)) fit

  -- ---- elements

  loaded : (fits : List ℕ → Bool) (slots : List SlotKind) → ((d : List ℕ) → fits d ≡ true → type_slots (drop 1 d) ≡ slots) → AreOfKinds (kind.Int ∷ kind.Ref ∷ drop 2 st) t.stack → Suits (Works (ref ++ int) slots) (loads_element t fits)
  loaded fits slots typed inside =
      int_pops _ (kind.Ref ∷ drop 2 st) t.stack _ inside (λ i rest. reference_pops _ (drop 2 st) i.rest _ rest (λ p proper under. on_an_element _ fits p.value i.value _
      (λ o v all of is. goes locals_fit refl (push_fits slots v (drop 2 st) p.rest (to_slots (drop 1 o.descriptor) slots v (typed o.descriptor is) of) under))))

  put : (fits : List ℕ → Bool) (slots : List SlotKind) (rest : List Slot) (good : List ℕ → Bool) (value : List ℕ → Value) → ((d : List ℕ) → fits d ≡ true → type_slots (drop 1 d) ≡ slots)
      → ((d : List ℕ) → AreOfKinds (reverse slots) (pushed (value d) [])) → AreOfKinds (kind.Int ∷ kind.Ref ∷ drop (length (ref ++ int ++ slots)) st) rest → Suits (Works (ref ++ int ++ slots) []) (stores_element t fits rest good value)
  put fits slots rest good value typed of inside =
      let left : List SlotKind = drop (length (ref ++ int ++ slots)) st in
      int_pops _ (kind.Ref ∷ left) rest _ inside (λ i more. reference_pops _ left i.rest _ more (λ p proper under. on_an_element _ fits p.value i.value _
      (λ o old all was is. passed _ _ _ (λ b.
      sets_object (all_set (IsOfType (drop 1 o.descriptor)) o.elements (unsigned_abs i.value) (value o.descriptor) all (of_slots (drop 1 o.descriptor) slots (value o.descriptor) (typed o.descriptor is) (of o.descriptor)))
      locals_fit under))))

  put_elements : (e : Elem) → AreOfKinds (reverse (ref ++ int ++ element_slots e) ++ drop (length (ref ++ int ++ element_slots e)) st) t.stack → Suits (Works (ref ++ int ++ element_slots e) []) (stores_elements files t e)
  put_elements elem.Int inside = int_pops _ (kind.Int ∷ kind.Ref ∷ drop 3 st) t.stack _ inside (λ v rest. put (holds elem.Int) int v.rest _ _ (element_type elem.Int) (λ d. ((_, refl), tt)) rest)
  put_elements elem.Ref inside = reference_pops _ (kind.Int ∷ kind.Ref ∷ drop 3 st) t.stack _ inside (λ v proper rest. put (holds elem.Ref) ref v.rest _ _ (element_type elem.Ref) (λ d. reference_typed v.value proper) rest)
  put_elements elem.Byte inside = int_pops _ (kind.Int ∷ kind.Ref ∷ drop 3 st) t.stack _ inside (λ v rest. put (holds elem.Byte) int v.rest _ _ (element_type elem.Byte) (λ d. ((_, refl), tt)) rest)
  put_elements elem.Char inside = int_pops _ (kind.Int ∷ kind.Ref ∷ drop 3 st) t.stack _ inside (λ v rest. put (holds elem.Char) int v.rest _ _ (element_type elem.Char) (λ d. ((_, refl), tt)) rest)
  put_elements elem.Short inside = int_pops _ (kind.Int ∷ kind.Ref ∷ drop 3 st) t.stack _ inside (λ v rest. put (holds elem.Short) int v.rest _ _ (element_type elem.Short) (λ d. ((_, refl), tt)) rest)

  made : (component : List ℕ) → AreOfKinds (kind.Int ∷ drop 1 st) t.stack → Suits (Works int ref) (makes_array t component)
  made component inside = int_pops _ (drop 1 st) t.stack _ inside (λ n rest. passed _ _ _ (λ good. makes (array_shaped files component (unsigned_abs n.value)) locals_fit (inr (_, refl), rest)))

  -- ---- fields

  -- the field of a number has the type of the reference that leads to it
  of_field : (r : MemberRef) (f : ℕ × FieldInfo) (v : Value) → field_resolved files r ≡ Some f → IsOfType r.descriptor v → IsOfField files f.1.id.0 v
  of_field r f v e typed o at =
      let known = field_is files linked r f e in
      subst (λ d. IsOfType d v) (sym (known_here files f.0 f.1 known.0 o at ∙ known.1)) typed

  of_reference : (r : MemberRef) (f : ℕ × FieldInfo) (v : Value) → field_resolved files r ≡ Some f → IsOfField files f.1.id.0 v → IsOfType r.descriptor v
  of_reference r f v e typed =
      let known = field_is files linked r f e in
      let o : Owned = record { owner = f.0; member = known.0.member } in
      subst (λ d. IsOfType d v) (known_here files f.0 f.1 known.0 o known.0.numbered ∙ known.1) (typed o known.0.numbered)

  got : (r : MemberRef) (v : Value) (rest : List SlotKind) (stack : List Slot) → field_slots r.descriptor ≡ type_slots r.descriptor → IsOfType r.descriptor v → AreOfKinds rest stack → AreOfKinds (reverse (field_slots r.descriptor) ++ rest) (pushed v stack)
  got r v rest stack described typed fit = push_fits (field_slots r.descriptor) v rest stack (subst (λ ks. AreOfKinds (reverse ks) (pushed v [])) (sym described) typed) fit

  gets : (r : MemberRef) → IsFieldFound files true r → field_slots r.descriptor ≡ type_slots r.descriptor → Suits (row_of (GetStatic r)) (effect files t (GetStatic r))
  gets r found described =
      let f = found.found in
      let known = field_is files linked r f found.resolved in
      let inside : f.1.id.0 < length t.state.statics = subst (λ n. f.1.id.0 < n) (sym statics_count) (slice_get_within (fields_of files) f.1.id.0 _ known.0.numbered) in
      let v = there t.state.statics f.1.id.0 inside in
      needed _ _ f _ found.resolved (marked _ f.0 known.0.class _ known.0.stands
      (needed _ _ v.0 _ v.1 (goes locals_fit refl (got r v.0 st t.stack described (of_reference r f v.0 found.resolved (statics_fit f.1.id.0 v.0 v.1)) stack_fits))))

  puts : (r : MemberRef) → IsFieldFound files true r → field_slots r.descriptor ≡ type_slots r.descriptor → AreOfKinds (reverse (field_slots r.descriptor) ++ drop (length (field_slots r.descriptor)) st) t.stack
      → Suits (row_of (PutStatic r)) (effect files t (PutStatic r))
  puts r found described inside =
      let f = found.found in
      let known = field_is files linked r f found.resolved in
      needed _ _ f _ found.resolved (marked _ f.0 known.0.class _ known.0.stands
      (value_pops _ r.descriptor (drop (length (field_slots r.descriptor)) st) t.stack _ (subst (λ ks. AreOfKinds (reverse ks ++ drop (length (field_slots r.descriptor)) st) t.stack) described inside)
      (λ p typed rest. sets_static (of_field r f p.value found.resolved typed) locals_fit rest)))

  gets_of : (r : MemberRef) → IsFieldFound files false r → field_slots r.descriptor ≡ type_slots r.descriptor → AreOfKinds (kind.Ref ∷ drop 1 st) t.stack → Suits (row_of (GetField r)) (effect files t (GetField r))
  gets_of r found described inside =
      let f = found.found in
      let known = field_is files linked r f found.resolved in
      needed _ _ f _ found.resolved (reference_pops _ (drop 1 st) t.stack _ inside (λ p proper rest. on_an_object _ f.0 p.value _ (λ o shaped above.
      let v = field_found files o.class.0 o.fields f.0 known.0.info f.1 shaped.0 shaped.1 above known.0.known known.0.inside found.static_or_not in
      needed _ _ v.0 _ v.1 (goes locals_fit refl (got r v.0 (drop 1 st) p.rest described (of_reference r f v.0 found.resolved v.2) rest)))))

  puts_in : (r : MemberRef) → IsFieldFound files false r → field_slots r.descriptor ≡ type_slots r.descriptor → AreOfKinds (reverse (ref ++ field_slots r.descriptor) ++ drop (length (ref ++ field_slots r.descriptor)) st) t.stack
      → Suits (row_of (PutField r)) (effect files t (PutField r))
  puts_in r found described inside =
      let f = found.found in
      let rest : List SlotKind = drop (length (ref ++ field_slots r.descriptor)) st in
      let moved : AreOfKinds (reverse (field_slots r.descriptor) ++ kind.Ref ∷ rest) t.stack = subst (λ ks. AreOfKinds ks t.stack) (taken_last kind.Ref (field_slots r.descriptor) rest) inside in
      needed _ _ f _ found.resolved (value_pops _ r.descriptor (kind.Ref ∷ rest) t.stack _ (subst (λ ks. AreOfKinds (reverse ks ++ kind.Ref ∷ rest) t.stack) described moved)
      (λ v typed under. reference_pops _ rest v.rest _ under (λ p proper more. on_an_object _ f.0 p.value _ (λ o shaped above.
      sets_object (put_shaped files o.class.0 o.fields f.1.id v.value shaped (of_field r f v.value found.resolved typed)) locals_fit more))))

  -- ---- calls

  abbrev Anything : ℕ → Type 0
  Anything c = ⊤

  entering : (takes : List SlotKind) (descriptor : List ℕ) (slots method : ℕ) (static_one : Bool) → slots ≡ length takes → takes ≡ (if static_one then [] else ref) ++ parameter_slots descriptor
      → ((code : Code) → code_of files method ≡ Some code → IsCalled files method code static_one descriptor) → AreOfKinds (reverse takes ++ drop (length takes) st) t.stack → Suits (Works takes (result_slots descriptor)) (calls files t slots method)
  entering takes descriptor slots method static_one level are its inside =
      or_ended _ (code_of files method) _ (λ code e.
      let c = its code e in
      let parts = arguments_fit takes (drop (length takes) st) t.stack slots level inside in
      begins (record {
        owned = c.owned;
        numbered = c.numbered;
        code = code;
        has_code = c.has_code;
        arguments = reverse (take slots t.stack);
        locals_are = refl;
        arguments_fit = subst (λ ks. AreOfKinds ks (reverse (take slots t.stack))) (are ∙ sym c.takes) parts.0;
        stack_fits = parts.1;
        result = ap reverse (sym c.gives);
      }) locals_fit)

  on_receiver : (r : MemberRef) (m : Invoked) (taken : ℕ → Option ℕ) → (d : MethodType) × (method_type_of r.descriptor ≡ Some d) × (is_floating_method d ≡ false) → IsInvoked files r m
      → ((c method : ℕ) → has (supertypes_of (hierarchy_of files) c) m.declaring ≡ true → taken c ≡ Some method → IsTaken files linked Anything (λ c d here above. tt) r.descriptor false method)
      → AreOfKinds (reverse (ref ++ parameter_slots r.descriptor) ++ drop (length (ref ++ parameter_slots r.descriptor)) st) t.stack → Suits (Works (ref ++ parameter_slots r.descriptor) (result_slots r.descriptor)) (calls_on files t m taken)
  on_receiver r m taken described is takes inside =
      let level : m.slots ≡ length (parameter_slots r.descriptor) = slots_counted r.descriptor described.0 m.slots described.1 described.2 is.slots in
      let receiver = receiver_there (parameter_slots r.descriptor) (drop (length (ref ++ parameter_slots r.descriptor)) st) t.stack m.slots level inside in
      let more : m.slots + 1 ≡ length (ref ++ parameter_slots r.descriptor) = omega arith in
      needed _ _ receiver.0 _ receiver.1 (or_ended _ _ _ (λ c at. passed _ _ _ (λ fits. or_ended _ (taken c) _ (λ method e.
      let k = takes c method fits e in
      entering (ref ++ parameter_slots r.descriptor) r.descriptor (m.slots + 1) method false more refl
      (λ code has_code. called files method code k.owner k.info false r.descriptor k.here k.number k.descriptor_is k.static_is has_code) inside))))

  -- the method that a reference names
  invoked_of : (r : MemberRef) (static_one of_interface : Bool) → IsMethodFound files static_one of_interface r → (d : MethodType) × (method_type_of r.descriptor ≡ Some d) × (is_floating_method d ≡ false) → (m : Invoked) × (invoked files r ≡ Some m)
  invoked_of r static_one of_interface found described =
      let slots : ℕ = sum_by size_of described.0.params in
      let counted : slots_of_arguments r.descriptor ≡ Some slots = ap (option_map (λ (x : MethodType). sum_by size_of x.params)) described.1 in (
        record { named = found.owner; declaring = found.found.0; method = found.found.1; slots = slots },
        ap (option_and_then (λ (n : ℕ). option_and_then (invoked_in files r n) (number_named files r.owner))) counted
            ∙ ap (option_and_then (invoked_in files r slots)) found.owner_named
            ∙ ap (option_map (λ (x : ℕ × MethodInfo). let i : Invoked = record { named = found.owner; declaring = x.0; method = x.1; slots = slots } in i)) found.resolved,
      )

  selects : (r : MemberRef) (of_interface : Bool) → IsMethodFound files false of_interface r → (d : MethodType) × (method_type_of r.descriptor ≡ Some d) × (is_floating_method d ≡ false)
      → AreOfKinds (reverse (ref ++ parameter_slots r.descriptor) ++ drop (length (ref ++ parameter_slots r.descriptor)) st) t.stack → Suits (Works (ref ++ parameter_slots r.descriptor) (result_slots r.descriptor)) (invokes_selected files t r)
  selects r of_interface found described inside =
      let m = invoked_of r false of_interface found described in
      let is = invoked_is files r m.0 m.1 in
      needed _ (invoked files r) m.0 _ m.1 (on_receiver r m.0 _ described is
      (λ c method fits e. selected_for_is files linked Anything (λ a b here above. tt) r m.0 is c tt fits method (as_found files linked false of_interface r m.0 is found) e) inside)

  selects_special : (r : MemberRef) → IsMethodFound files false false r → (d : MethodType) × (method_type_of r.descriptor ≡ Some d) × (is_floating_method d ≡ false)
      → AreOfKinds (reverse (ref ++ parameter_slots r.descriptor) ++ drop (length (ref ++ parameter_slots r.descriptor)) st) t.stack → Suits (Works (ref ++ parameter_slots r.descriptor) (result_slots r.descriptor)) (invokes_special files t r)
  selects_special r found described inside =
      let m = invoked_of r false false found described in
      let is = invoked_is files r m.0 m.1 in
      needed _ (invoked files r) m.0 _ m.1 (on_receiver r m.0 _ described is
      (λ c method fits e. special_is files linked Anything (λ a b here above. tt) r m.0 is c tt fits t.method method (λ o at. tt) (as_found files linked false false r m.0 is found) e) inside)

  calls_static : (r : MemberRef) → IsMethodFound files true false r → (d : MethodType) × (method_type_of r.descriptor ≡ Some d) × (is_floating_method d ≡ false)
      → AreOfKinds (reverse (parameter_slots r.descriptor) ++ drop (length (parameter_slots r.descriptor)) st) t.stack → Suits (Works (parameter_slots r.descriptor) (result_slots r.descriptor)) (invokes_static files t r)
  calls_static r found described inside =
      let m = invoked_of r true false found described in
      let is = invoked_is files r m.0 m.1 in
      let known = resolved_is files linked r m.0 is in
      needed _ (invoked files r) m.0 _ m.1 (marked _ m.0.declaring known.0.here.class _ known.0.here.stands
      (entering (parameter_slots r.descriptor) r.descriptor m.0.slots m.0.method.id.0 true (slots_counted r.descriptor described.0 m.0.slots described.1 described.2 is.slots) refl
      (λ code has_code. called files m.0.method.id.0 code m.0.declaring m.0.method true r.descriptor known.0.here refl known.0.descriptor_is (as_found files linked true false r m.0 is found) has_code) inside))

  -- ---- each instruction

  move_locals : (op : StackOp) (locals : List Slot) → BeginWithKinds ls locals → BeginWithKinds (locals_after (move_row op) ls) locals
  move_locals move.Pop locals fit = fit
  move_locals move.Pop2 locals fit = fit
  move_locals move.Dup locals fit = fit
  move_locals move.DupX1 locals fit = fit
  move_locals move.DupX2 locals fit = fit
  move_locals move.Dup2 locals fit = fit
  move_locals move.Dup2X1 locals fit = fit
  move_locals move.Dup2X2 locals fit = fit
  move_locals move.Swap locals fit = fit

  -- the constants that an instruction names are there
  pub record HasConstants (i : Instr) : Type 0 where
    pub strings : (text : List ℕ) → i ≡ Str text → (a : ℕ) × (string_number_of files text ≡ Some a)
    pub news : (name : List ℕ) → i ≡ New name → (c : ℕ) × (number_named files name ≡ Some c)

  pub suits : (i : Instr) → nat_le (slots_taken (row_of i)) (length st) ≡ true → are_wrong (row_of i) ls st ≡ false → is_other_return mine i ≡ false → Stands files (use_of i) → IsDescribed (use_of i) → HasConstants i → Suits (row_of i) (effect files t i)
  suits Nop enough right other stands described named = goes locals_fit refl stack_fits
  suits Null enough right other stands described named = goes locals_fit refl (inl refl, stack_fits)
  suits (Int n) enough right other stands described named = goes locals_fit refl ((_, refl), stack_fits)
  suits (Long n) enough right other stands described named = goes locals_fit refl (refl, ((_, refl), stack_fits))
  suits (Str text) enough right other stands described named =
      let a = named.strings text refl in
      needed _ (string_constant files text) (Address a.0) _ (ap (option_map Address) a.1) (goes locals_fit refl (inr (a.0, refl), stack_fits))
  suits (ILoad n) enough right other stands described named =
      let k = int_local n (local_kind kind.Int n ls right) in needed _ _ k.0 _ k.1 (goes locals_fit refl ((k.0, refl), stack_fits))
  suits (LLoad n) enough right other stands described named =
      let k = long_local n (local_kind kind.Long n ls right) in needed _ _ k.0 _ k.1 (goes locals_fit refl (refl, ((k.0, refl), stack_fits)))
  suits (ALoad n) enough right other stands described named =
      let v = reference_local n (local_kind kind.Ref n ls right) in needed _ _ v.0 _ v.1 (goes locals_fit refl (reference_pushed v.0 st t.stack v.2 stack_fits))
  suits (IStore n) enough right other stands described named =
      int_pops _ (drop 1 st) t.stack _ (operands int st t.stack right stack_fits) (λ p rest. goes (store_int n ls t.locals p.value locals_fit) (store_length t.locals n (IntValue p.value)) rest)
  suits (LStore n) enough right other stands described named =
      long_pops _ (drop 2 st) t.stack _ (operands long st t.stack right stack_fits) (λ p rest. goes (store_long n ls t.locals p.value locals_fit) (store_length t.locals n (LongValue p.value)) rest)
  suits (AStore n) enough right other stands described named =
      reference_pops _ (drop 1 st) t.stack _ (operands ref st t.stack right stack_fits) (λ p proper rest. goes (store_reference n ls t.locals p.value proper locals_fit) (store_length t.locals n p.value) rest)
  suits (ArrayLoad e) enough right other stands described named = loaded (holds e) (element_slots e) (element_type e) (operands (ref ++ int) st t.stack right stack_fits)
  suits LArrayLoad enough right other stands described named = loaded holds_longs long longs_type (operands (ref ++ int) st t.stack right stack_fits)
  suits (ArrayStore e) enough right other stands described named = put_elements e (operands (ref ++ int ++ element_slots e) st t.stack right stack_fits)
  suits LArrayStore enough right other stands described named =
      long_pops _ (kind.Int ∷ kind.Ref ∷ drop 4 st) t.stack _ (operands (ref ++ int ++ long) st t.stack right stack_fits)
      (λ v rest. put holds_longs long v.rest _ _ longs_type (λ d. (refl, ((_, refl), tt))) rest)
  suits (Stack op) enough right other stands described named =
      let m = moves_fit op st t.stack enough stack_fits in needed _ _ m.moved _ m.is (goes (move_locals op t.locals locals_fit) refl m.fits)
  suits (Arith op) enough right other stands described named =
      int_pops _ (kind.Int ∷ drop 2 st) t.stack _ (operands (int ++ int) st t.stack right stack_fits)
      (λ b rest. int_pops _ (drop 2 st) b.rest _ rest (λ a under. or_ended _ _ _ (λ n e. goes locals_fit refl ((n, refl), under))))
  suits (LArith op) enough right other stands described named =
      second_pops op _ (drop (length (long ++ second_slots op)) st) t.stack _ (operands (long ++ second_slots op) st t.stack right stack_fits)
      (λ b rest. long_pops _ (drop (length (long ++ second_slots op)) st) b.rest _ rest (λ a under. or_ended _ _ _ (λ n e. goes locals_fit refl (refl, ((n, refl), under)))))
  suits Neg enough right other stands described named = int_pops _ (drop 1 st) t.stack _ (operands int st t.stack right stack_fits) (λ a rest. goes locals_fit refl ((_, refl), rest))
  suits LNeg enough right other stands described named = long_pops _ (drop 2 st) t.stack _ (operands long st t.stack right stack_fits) (λ a rest. goes locals_fit refl (refl, ((_, refl), rest)))
  suits (Inc n by) enough right other stands described named =
      let k = int_local n (local_kind kind.Int n ls right) in needed _ _ k.0 _ k.1 (goes (store_int n ls t.locals _ locals_fit) (store_length t.locals n (IntValue _)) stack_fits)
  suits (Narrow op) enough right other stands described named = int_pops _ (drop 1 st) t.stack _ (operands int st t.stack right stack_fits) (λ a rest. goes locals_fit refl ((_, refl), rest))
  suits I2L enough right other stands described named = int_pops _ (drop 1 st) t.stack _ (operands int st t.stack right stack_fits) (λ a rest. goes locals_fit refl (refl, ((_, refl), rest)))
  suits L2I enough right other stands described named = long_pops _ (drop 2 st) t.stack _ (operands long st t.stack right stack_fits) (λ a rest. goes locals_fit refl ((_, refl), rest))
  suits LCmp enough right other stands described named =
      long_pops _ (kind.SecondHalf ∷ kind.Long ∷ drop 4 st) t.stack _ (operands (long ++ long) st t.stack right stack_fits)
      (λ b rest. long_pops _ (drop 4 st) b.rest _ rest (λ a under. goes locals_fit refl ((_, refl), under)))
  suits (IfZero relation target) enough right other stands described named =
      int_pops _ (drop 1 st) t.stack _ (operands int st t.stack right stack_fits) (λ a rest. branched int _ target a.rest rest)
  suits (IfInts relation target) enough right other stands described named =
      int_pops _ (kind.Int ∷ drop 2 st) t.stack _ (operands (int ++ int) st t.stack right stack_fits) (λ b rest. int_pops _ (drop 2 st) b.rest _ rest (λ a under. branched (int ++ int) _ target a.rest under))
  suits (IfSame target) enough right other stands described named =
      reference_pops _ (kind.Ref ∷ drop 2 st) t.stack _ (operands (ref ++ ref) st t.stack right stack_fits) (λ b v rest. reference_pops _ (drop 2 st) b.rest _ rest (λ a w under. branched (ref ++ ref) _ target a.rest under))
  suits (IfOther target) enough right other stands described named =
      reference_pops _ (kind.Ref ∷ drop 2 st) t.stack _ (operands (ref ++ ref) st t.stack right stack_fits) (λ b v rest. reference_pops _ (drop 2 st) b.rest _ rest (λ a w under. branched (ref ++ ref) _ target a.rest under))
  suits (IfNull target) enough right other stands described named =
      reference_pops _ (drop 1 st) t.stack _ (operands ref st t.stack right stack_fits) (λ a v rest. branched ref _ target a.rest rest)
  suits (IfNotNull target) enough right other stands described named =
      reference_pops _ (drop 1 st) t.stack _ (operands ref st t.stack right stack_fits) (λ a v rest. branched ref _ target a.rest rest)
  suits (Goto target) enough right other stands described named = jumps locals_fit stack_fits
  suits (TableSwitch low targets default) enough right other stands described named = int_pops _ (drop 1 st) t.stack _ (operands int st t.stack right stack_fits) (λ key rest. jumps locals_fit rest)
  suits (LookupSwitch pairs default) enough right other stands described named = int_pops _ (drop 1 st) t.stack _ (operands int st t.stack right stack_fits) (λ key rest. jumps locals_fit rest)
  suits IReturn enough right other stands described named = int_pops _ (drop 1 st) t.stack _ (operands int st t.stack right stack_fits) (λ a rest. hands_over (returned int _ other ((_, refl), tt)))
  suits LReturn enough right other stands described named = long_pops _ (drop 2 st) t.stack _ (operands long st t.stack right stack_fits) (λ a rest. hands_over (returned long _ other (refl, ((_, refl), tt))))
  suits AReturn enough right other stands described named = reference_pops _ (drop 1 st) t.stack _ (operands ref st t.stack right stack_fits) (λ a v rest. hands_over (returned ref _ other (reference_typed a.value v)))
  suits Return enough right other stands described named = hands_over (returned [] [] other tt)
  suits (GetStatic r) enough right other stands described named = gets r stands described
  suits (PutStatic r) enough right other stands described named = puts r stands described (operands (field_slots r.descriptor) st t.stack right stack_fits)
  suits (GetField r) enough right other stands described named = gets_of r stands described (operands ref st t.stack right stack_fits)
  suits (PutField r) enough right other stands described named = puts_in r stands described (operands (ref ++ field_slots r.descriptor) st t.stack right stack_fits)
  suits (InvokeVirtual r) enough right other stands described named = selects r false stands described (operands (ref ++ parameter_slots r.descriptor) st t.stack right stack_fits)
  suits (InvokeSpecial r) enough right other stands described named = selects_special r stands described (operands (ref ++ parameter_slots r.descriptor) st t.stack right stack_fits)
  suits (InvokeInterface r) enough right other stands described named = selects r true stands described (operands (ref ++ parameter_slots r.descriptor) st t.stack right stack_fits)
  suits (InvokeStatic r) enough right other stands described named = calls_static r stands described (operands (parameter_slots r.descriptor) st t.stack right stack_fits)
  suits (New name) enough right other stands described named =
      let c = named.news name refl in
      let class = class_named files name c.0 c.1 in
      needed _ _ c.0 _ c.1 (marked _ c.0 class.0 _ class.1 (passed _ _ _ (λ b. makes (new_shaped files c.0) locals_fit (inr (_, refl), stack_fits))))
  suits (NewArray type) enough right other stands described named = made (primitive_descriptor type) (operands int st t.stack right stack_fits)
  suits (ANewArray name) enough right other stands described named = made (named_descriptor name) (operands int st t.stack right stack_fits)
  suits ArrayLength enough right other stands described named = reference_pops _ (drop 1 st) t.stack _ (operands ref st t.stack right stack_fits) (λ p v rest. or_ended _ _ _ (λ o e. goes locals_fit refl ((_, refl), rest)))
  suits Throw enough right other stands described named = ends
  suits (CheckCast name) enough right other stands described named =
      let inside = operands ref st t.stack right stack_fits in
      reference_pops _ (drop 1 st) t.stack _ inside (λ p v rest. passed _ _ _ (λ b. goes locals_fit refl inside))
  suits (InstanceOf name) enough right other stands described named = reference_pops _ (drop 1 st) t.stack _ (operands ref st t.stack right stack_fits) (λ p v rest. goes locals_fit refl ((_, refl), rest))
  suits MonitorEnter enough right other stands described named = reference_pops _ (drop 1 st) t.stack _ (operands ref st t.stack right stack_fits) (λ p v rest. passed _ _ _ (λ b. goes locals_fit refl rest))
  suits MonitorExit enough right other stands described named = reference_pops _ (drop 1 st) t.stack _ (operands ref st t.stack right stack_fits) (λ p v rest. passed _ _ _ (λ b. goes locals_fit refl rest))

-- Which values an instruction moves: what holds of ints, longs, null, String constants and of all values
-- in the frame on top, in static fields and in objects holds of all that its effect has.
use Rattle.std.proofs.Common.{◌≡◌, ℕ, ℤ, Bool, true, false, cond, if◌then◌else◌, List, [], ◌∷◌, ◌++◌, Option, None, Some, slice_get, slice_set, refl, subst}
use Rattle.std.specs.Prelude.{⊤, ◌+◌, ◌-◌, length, map, take, drop, reverse, replicate, find, unsigned_abs, int_lt, pos}
use Rattle.std.specs.List.{AllByRecursion}
use Rattle.std.specs.Option.{option_and_then, option_map}
use Rattle.th_base.specs.declared.class.FieldInfo.{FieldInfo}
use Rattle.th_base.specs.declared.number.FieldId.{FieldId}
use Rattle.th_base.specs.declared.operation.Elem.{Elem}
use Rattle.th_base.specs.declared.operation.Elem.TheVariants as elem
use Rattle.th_base.specs.declared.operation.ArithOp.{ArithOp}
use Rattle.th_base.specs.declared.operation.ArithOp.TheVariants.{Add, Sub, Mul, Div, Rem, Shl, Shr, Ushr, And, Or, Xor}
use Rattle.th_base.specs.ValueKinds.{is_reference, is_long}
use Rattle.th_syntax.specs.declared.class_file.ClassFile.{ClassFile}
use Rattle.th_syntax.specs.declared.instr.StackOp.{StackOp}
use Rattle.th_syntax.specs.declared.instr.StackOp.TheVariants as move
use Rattle.th_syntax.specs.declared.instr.Instr.{Instr}
use Rattle.th_syntax.specs.declared.instr.Instr.TheVariants.{Nop, Null, Int, Long, Str, ILoad, LLoad, ALoad, IStore, LStore, AStore, ArrayLoad, LArrayLoad, ArrayStore, LArrayStore, Stack, Arith, LArith, Neg, LNeg, Inc, Narrow, I2L, L2I, LCmp, IfZero, IfInts, IfSame, IfOther, IfNull, IfNotNull, Goto, TableSwitch, LookupSwitch, IReturn, LReturn, AReturn, Return, GetStatic, PutStatic, GetField, PutField, InvokeVirtual, InvokeSpecial, InvokeInterface, InvokeStatic, New, NewArray, ANewArray, ArrayLength, Throw, CheckCast, InstanceOf, MonitorEnter, MonitorExit}
use Rattle.th_syntax.specs.declared.machine.Value.{Value}
use Rattle.th_syntax.specs.declared.machine.Value.TheVariants.{Int as IntValue, Long as LongValue, Null as NullValue, Address}
use Rattle.th_syntax.specs.declared.machine.Slot.{Slot}
use Rattle.th_syntax.specs.declared.machine.Slot.TheVariants.{Holds, SecondHalf}
use Rattle.th_syntax.specs.declared.machine.Object.{Object}
use Rattle.th_syntax.specs.declared.machine.Object.TheVariants.{Instance, Array}
use Rattle.th_syntax.specs.declared.machine.Mark.{Mark}
use Rattle.th_syntax.specs.declared.machine.Mark.TheVariants.{Untouched, InProgress, Done}
use Rattle.th_syntax.specs.Machine.{InstanceAt, instance_at, ArrayAt, array_at, parts_of}
use Rattle.th_syntax.specs.Slots.{int_of, long_of, reference_of, value_in, pushed, Popped, popped_with, popped, popped_int, popped_long, popped_reference, swapped, stack_moved, local_value, stored, locals_with}
use Rattle.th_syntax.specs.Program.{hierarchy_of, code_of}
use Rattle.th_syntax.specs.Initial.{default_value, string_constant, new_object, instance_fields}
use Rattle.th_syntax.specs.Effects.{Top, Effect, Stuck, Ends, GoesOn, Jumps, SetsStatic, SetsObject, Makes, Opens, Calls, Returns, needs, or_ends, ends_unless, either_of, initialised}
use Rattle.th_syntax.specs.Computing.{second_operand}
use Rattle.th_syntax.specs.Fields.{on_object, with_field}
use Rattle.th_syntax.specs.Branches.{branches}
use Rattle.th_syntax.specs.Arrays.{holds, holds_longs, primitive_descriptor, named_descriptor, makes_array, on_element, loads_element, stores_element, stores_elements}
use Rattle.th_syntax.specs.Calls.{Invoked, calls, calls_on}
use Rattle.th_syntax.specs.Step.{effect}
use Rattle.th_syntax.proofs.Inverting.{some_is, and_then_some, all_append, all_at}
use Rattle.th_syntax.proofs.Origins.{all_set}
use Rattle.th_runs.proofs.Leading.{instance_stands, array_stands}
use Rattle.th_runs.specs.Addresses.{IsOf}
use Rattle.th_runs.proofs.Lists.{all_take, all_drop, all_reverse, all_replicate}

module _ (P : Value → Type 0) where
  abbrev InSlot : Slot → Type 0
  InSlot slot = IsOf P slot

  abbrev pub InSlots : List Slot → Type 0
  InSlots slots = AllByRecursion (IsOf P) slots

  abbrev pub InParts : Object → Type 0
  InParts o = AllByRecursion P (parts_of o)

  -- all values of an effect but the address of a new object
  abbrev pub InEffect : Effect → Type 0
  InEffect Stuck = ⊤
  InEffect Ends = ⊤
  InEffect (GoesOn locals stack) = InSlots locals × InSlots stack
  InEffect (Jumps target stack) = InSlots stack
  InEffect (SetsStatic field value stack) = P value × InSlots stack
  InEffect (SetsObject address object stack) = InParts object × InSlots stack
  InEffect (Makes object stack) = InParts object × InSlots stack
  InEffect (Opens class) = ⊤
  InEffect (Calls method locals stack) = InSlots locals × InSlots stack
  InEffect (Returns results) = InSlots results

  held : (slot : Slot) (v : Value) → value_in slot ≡ Some v → InSlot slot → P v
  held (Holds w) v e here = subst P (some_is w v e) here
  held SecondHalf v e here = absurd cc

  -- ---- choices

  needed : {A : Type 0} (o : Option A) (next : A → Effect) → ((x : A) → o ≡ Some x → InEffect (next x)) → InEffect (needs o next)
  unfolding needs
  needed None next all = tt
  needed (Some x) next all = all x refl

  or_ended : {A : Type 0} (o : Option A) (next : A → Effect) → ((x : A) → o ≡ Some x → InEffect (next x)) → InEffect (or_ends o next)
  unfolding or_ends
  or_ended None next all = tt
  or_ended (Some x) next all = all x refl

  passed : (b : Bool) (next : Effect) → InEffect next → InEffect (ends_unless b next)
  unfolding ends_unless
  passed true next all = all
  passed false next all = tt

  either : (b : Bool) (first second : Effect) → InEffect first → InEffect second → InEffect (either_of b first second)
  unfolding either_of
  either true first second left right = left
  either false first second left right = right

  marked : (c : ℕ) (mark : Option Mark) (next : Effect) → InEffect next → InEffect (initialised mark c next)
  unfolding initialised
  marked c None next all = tt
  marked c (Some Untouched) next all = tt
  marked c (Some InProgress) next all = all
  marked c (Some Done) next all = all

  -- ---- slots

  pub push : (v : Value) (stack : List Slot) → P v → InSlots stack → InSlots (pushed v stack)
  push (IntValue n) stack here all = (here, all)
  push (LongValue n) stack here all = (tt, (here, all))
  push NullValue stack here all = (here, all)
  push (Address a) stack here all = (here, all)

  store : (locals : List Slot) (n : ℕ) (v : Value) → P v → InSlots locals → InSlots (stored locals n v)
  store locals n (IntValue k) here all = all_set InSlot locals n (Holds (IntValue k)) all here
  store locals n (LongValue k) here all =
      all_set InSlot (slice_set locals n (Holds (LongValue k))) (n + 1) SecondHalf (all_set InSlot locals n (Holds (LongValue k)) all here) tt
  store locals n NullValue here all = all_set InSlot locals n (Holds NullValue) all here
  store locals n (Address a) here all = all_set InSlot locals n (Holds (Address a)) all here

  pop : (stack : List Slot) (p : Popped Value) → InSlots stack → popped stack ≡ Some p → P p.value × InSlots p.rest
  pop [] p all e = absurd cc
  pop (Holds v ∷ rest) p all e =
      let is : (let q : Popped Value = record { value = v; rest = rest } in q) ≡ p = some_is _ p e in
      subst (λ (q : Popped Value). P q.value × InSlots q.rest) is all
  pop (SecondHalf ∷ []) p all e = absurd cc
  pop (SecondHalf ∷ Holds v ∷ rest) p all e =
      let is : (let q : Popped Value = record { value = v; rest = rest } in q) ≡ p = some_is _ p e in
      subst (λ (q : Popped Value). P q.value × InSlots q.rest) is all.1
  pop (SecondHalf ∷ SecondHalf ∷ rest) p all e = absurd cc

  -- a value of some kind is popped
  module _ {W : Type 0} (kind : Value → Option W) (Q : W → Type 0) (keeps : (v : Value) (w : W) → kind v ≡ Some w → P v → Q w) where
    pop_of : (stack : List Slot) (p : Popped W) → InSlots stack → option_and_then (popped_with kind) (popped stack) ≡ Some p → Q p.value × InSlots p.rest
    pop_of stack p all e =
        let whole = and_then_some (popped_with kind) (popped stack) p e in
        let part = and_then_some (λ (w : W). let o : Option (Popped W) = Some record { value = w; rest = whole.0.rest } in o) (kind whole.0.value) p whole.2 in
        let inside = pop stack whole.0 all whole.1 in
        let is : (let q : Popped W = record { value = part.0; rest = whole.0.rest } in q) ≡ p = some_is _ p part.2 in
        subst (λ (q : Popped W). Q q.value × InSlots q.rest) is (keeps whole.0.value part.0 part.1 inside.0, inside.1)

    pops_of : (stack : List Slot) (next : Popped W → Effect) → InSlots stack → ((p : Popped W) → Q p.value → InSlots p.rest → InEffect (next p)) → InEffect (needs (option_and_then (popped_with kind) (popped stack)) next)
    pops_of stack next all go = needed _ next (λ p e. let inside = pop_of stack p all e in go p inside.0 inside.1)

  same_reference : (v w : Value) → reference_of v ≡ Some w → P v → P w
  same_reference (IntValue n) w e here = absurd cc
  same_reference (LongValue n) w e here = absurd cc
  same_reference NullValue w e here = subst P (some_is _ w e) here
  same_reference (Address a) w e here = subst P (some_is _ w e) here

  int_pops : (stack : List Slot) (next : Popped ℤ → Effect) → InSlots stack → ((p : Popped ℤ) → InSlots p.rest → InEffect (next p)) → InEffect (needs (popped_int stack) next)
  int_pops stack next all go = pops_of int_of (λ w. ⊤) (λ v w e here. tt) stack next all (λ p value rest. go p rest)

  long_pops : (stack : List Slot) (next : Popped ℤ → Effect) → InSlots stack → ((p : Popped ℤ) → InSlots p.rest → InEffect (next p)) → InEffect (needs (popped_long stack) next)
  long_pops stack next all go = pops_of long_of (λ w. ⊤) (λ v w e here. tt) stack next all (λ p value rest. go p rest)

  reference_pops : (stack : List Slot) (next : Popped Value → Effect) → InSlots stack → ((p : Popped Value) → P p.value → InSlots p.rest → InEffect (next p)) → InEffect (needs (popped_reference stack) next)
  reference_pops stack next all go = pops_of reference_of P same_reference stack next all go

  value_pops : (stack : List Slot) (next : Popped Value → Effect) → InSlots stack → ((p : Popped Value) → P p.value → InSlots p.rest → InEffect (next p)) → InEffect (needs (popped stack) next)
  value_pops stack next all go = needed _ next (λ p e. let inside = pop stack p all e in go p inside.0 inside.1)

  second_pops : (op : ArithOp) (stack : List Slot) (next : Popped ℤ → Effect) → InSlots stack → ((p : Popped ℤ) → InSlots p.rest → InEffect (next p)) → InEffect (needs (second_operand op stack) next)
  second_pops Add = long_pops
  second_pops Sub = long_pops
  second_pops Mul = long_pops
  second_pops Div = long_pops
  second_pops Rem = long_pops
  second_pops Shl = int_pops
  second_pops Shr = int_pops
  second_pops Ushr = int_pops
  second_pops And = long_pops
  second_pops Or = long_pops
  second_pops Xor = long_pops

  -- ---- moves on the stack

  by_drop : (b : Bool) (count : ℕ) (stack w : List Slot) → InSlots stack → (if b then Some (drop count stack) else None) ≡ Some w → InSlots w
  by_drop true count stack w all e = subst InSlots (some_is _ w e) (all_drop InSlot count stack all)
  by_drop false count stack w all e = absurd cc

  by_copy : (b : Bool) (top whole : ℕ) (stack w : List Slot) → InSlots stack → (if b then Some (take whole stack ++ take top stack ++ drop whole stack) else None) ≡ Some w → InSlots w
  by_copy true top whole stack w all e =
      subst InSlots (some_is _ w e)
      (all_append InSlot (take whole stack ++ take top stack) (drop whole stack)
      (all_append InSlot (take whole stack) (take top stack) (all_take InSlot whole stack all) (all_take InSlot top stack all)) (all_drop InSlot whole stack all))
  by_copy false top whole stack w all e = absurd cc

  by_swap : (stack w : List Slot) → InSlots stack → swapped stack ≡ Some w → InSlots w
  by_swap [] w all e = absurd cc
  by_swap (a ∷ []) w all e = absurd cc
  by_swap (a ∷ b ∷ rest) w all e = subst InSlots (some_is _ w e) (all.1.0, (all.0, all.1.1))

  move_in : (op : StackOp) (stack w : List Slot) → InSlots stack → stack_moved op stack ≡ Some w → InSlots w
  move_in move.Pop stack w all e = by_drop _ 1 stack w all e
  move_in move.Pop2 stack w all e = by_drop _ 2 stack w all e
  move_in move.Dup stack w all e = by_copy _ 1 1 stack w all e
  move_in move.DupX1 stack w all e = by_copy _ 1 2 stack w all e
  move_in move.DupX2 stack w all e = by_copy _ 1 3 stack w all e
  move_in move.Dup2 stack w all e = by_copy _ 2 2 stack w all e
  move_in move.Dup2X1 stack w all e = by_copy _ 2 3 stack w all e
  move_in move.Dup2X2 stack w all e = by_copy _ 2 4 stack w all e
  move_in move.Swap stack w all e = by_swap stack w all e

  -- ---- fields and elements

  abbrev InFields : List (FieldId × Value) → Type 0
  InFields fields = AllByRecursion P (map (λ f. f.1) fields)

  found_by : (test : FieldId × Value → Bool) (x : FieldId × Value) (fields : List (FieldId × Value)) (v : Value) (b : Bool) → InFields (x ∷ fields)
      → option_map (λ (f : FieldId × Value). f.1) (cond b (Some x) (find test fields)) ≡ Some v
      → (InFields fields → option_map (λ (f : FieldId × Value). f.1) (find test fields) ≡ Some v → P v) → P v
  found_by test x fields v true all e rest = subst P (some_is x.1 v e) all.0
  found_by test x fields v false all e rest = rest all.1 e

  found_in : (test : FieldId × Value → Bool) (fields : List (FieldId × Value)) (v : Value) → InFields fields → option_map (λ (f : FieldId × Value). f.1) (find test fields) ≡ Some v → P v
  found_in test [] v all e = absurd cc
  found_in test (x ∷ fields) v all e = found_by test x fields v (test x) all e (found_in test fields v)

  put_by : (x : FieldId × Value) (v : Value) (b : Bool) → P x.1 → P v → P (let y : FieldId × Value = if b then (x.0, v) else x in y.1)
  put_by x v true old new = new
  put_by x v false old new = old

  put_in : (fields : List (FieldId × Value)) (field : FieldId) (v : Value) → InFields fields → P v → InFields (with_field fields field v)
  put_in [] field v all here = tt
  put_in (x ∷ fields) field v all here = (put_by x v _ all.0 here, put_in fields field v all.1 here)

  element_by : (b : Bool) (elements : List Value) (k : ℕ) (v : Value) → AllByRecursion P elements → (if b then None else slice_get elements k) ≡ Some v → P v
  element_by true elements k v all e = absurd cc
  element_by false elements k v all e = all_at P elements k v all e

-- ---- the effects of instructions

module _ (P : Value → Type 0) (ints : (n : ℤ) → P (IntValue n)) (longs : (n : ℤ) → P (LongValue n)) (null : P NullValue) where
  default_by : (a b : Bool) → P (if a then NullValue else if b then LongValue (pos 0) else IntValue (pos 0))
  default_by true b = null
  default_by false true = longs (pos 0)
  default_by false false = ints (pos 0)

  pub default_in : (descriptor : List ℕ) → P (default_value descriptor)
  default_in descriptor = default_by (is_reference descriptor) (is_long descriptor)

  defaults_in : (fs : List FieldInfo) → AllByRecursion P (map (λ (f : FieldId × Value). f.1) (map (λ (f : FieldInfo). (f.id, default_value f.descriptor)) fs))
  defaults_in [] = tt
  defaults_in (f ∷ fs) = (default_in f.descriptor, defaults_in fs)

  pub new_in : (files : List ClassFile) (c : ℕ) → InParts P (new_object files c)
  new_in files c = defaults_in (instance_fields (hierarchy_of files) c)

  pub begun : (arguments : List Slot) (count : ℕ) → InSlots P arguments → InSlots P (locals_with arguments count)
  begun arguments count all = all_append (InSlot P) arguments (replicate (count - length arguments) (Holds NullValue)) all (all_replicate (InSlot P) (count - length arguments) (Holds NullValue) null)

  module _ (files : List ClassFile) (t : Top) (strings : (text : List ℕ) (v : Value) → string_constant files text ≡ Some v → P v)
      (locals_in : InSlots P t.locals) (stack_in : InSlots P t.stack) (statics_in : AllByRecursion P t.state.statics) (heap_in : AllByRecursion (InParts P) t.state.heap) where
    abbrev Moves : Effect → Type 0
    Moves e = InEffect P e

    onward : (v : Value) (stack : List Slot) → P v → InSlots P stack → Moves (GoesOn t.locals (pushed v stack))
    onward v stack here all = (locals_in, push P v stack here all)

    branched : (b : Bool) (target : ℕ) (rest : List Slot) → InSlots P rest → Moves (branches t b target rest)
    branched b target rest all = either P b (Jumps target rest) (GoesOn t.locals rest) all (locals_in, all)

    -- the value of a local
    local_in : {W : Type 0} (kind : Value → Option W) (Q : W → Type 0) (keeps : (v : Value) (w : W) → kind v ≡ Some w → P v → Q w) (n : ℕ) (w : W) → option_and_then kind (local_value t.locals n) ≡ Some w → Q w
    local_in kind Q keeps n w e =
        let v = and_then_some kind (local_value t.locals n) w e in
        let slot = and_then_some value_in (slice_get t.locals n) v.0 v.1 in
        keeps v.0 w v.2 (held P slot.0 v.0 slot.2 (all_at (InSlot P) t.locals n slot.0 locals_in slot.1))

    instance_in : (v : Value) (o : InstanceAt) → instance_at t.state.heap v ≡ Some o → InFields P o.fields
    instance_in v o e = all_at (InParts P) t.state.heap o.address (Instance o.class o.fields) heap_in (instance_stands t.state.heap v o e)

    array_in : (v : Value) (o : ArrayAt) → array_at t.state.heap v ≡ Some o → AllByRecursion P o.elements
    array_in v o e = all_at (InParts P) t.state.heap o.address (Array o.descriptor o.elements) heap_in (array_stands t.state.heap v o e)

    on_an_object : (declaring : ℕ) (v : Value) (next : InstanceAt → Effect) → ((o : InstanceAt) → InFields P o.fields → Moves (next o)) → Moves (on_object (hierarchy_of files) t declaring v next)
    on_an_object declaring v next all = or_ended P _ _ (λ o e. passed P _ _ (all o (instance_in v o e)))

    on_an_element : (kind : List ℕ → Bool) (v : Value) (index : ℤ) (next : ArrayAt → Value → Effect) → ((o : ArrayAt) (w : Value) → AllByRecursion P o.elements → P w → Moves (next o w)) → Moves (on_element t kind v index next)
    on_an_element kind v index next all =
        or_ended P _ _ (λ o e. passed P _ _ (or_ended P _ _ (λ w at. all o w (array_in v o e) (element_by P (int_lt index (pos 0)) o.elements (unsigned_abs index) w (array_in v o e) at))))

    loaded : (kind : List ℕ → Bool) → Moves (loads_element t kind)
    loaded kind = int_pops P t.stack _ stack_in (λ i rest. reference_pops P i.rest _ rest (λ p value under. on_an_element kind p.value i.value _ (λ o v all here. onward v p.rest here under)))

    put : (kind : List ℕ → Bool) (rest : List Slot) (fits : List ℕ → Bool) (value : List ℕ → Value) → InSlots P rest → ((d : List ℕ) → P (value d)) → Moves (stores_element t kind rest fits value)
    put kind rest fits value all each =
        int_pops P rest _ all (λ i under. reference_pops P i.rest _ under (λ p v more. on_an_element kind p.value i.value _
        (λ o old elements here. passed P _ _ (all_set P o.elements (unsigned_abs i.value) (value o.descriptor) elements (each o.descriptor), more))))

    put_elements : (e : Elem) → Moves (stores_elements files t e)
    put_elements elem.Int = int_pops P t.stack _ stack_in (λ v rest. put (holds elem.Int) v.rest _ _ rest (λ d. ints _))
    put_elements elem.Ref = reference_pops P t.stack _ stack_in (λ v value rest. put (holds elem.Ref) v.rest _ _ rest (λ d. value))
    put_elements elem.Byte = int_pops P t.stack _ stack_in (λ v rest. put (holds elem.Byte) v.rest _ _ rest (λ d. ints _))
    put_elements elem.Char = int_pops P t.stack _ stack_in (λ v rest. put (holds elem.Char) v.rest _ _ rest (λ d. ints _))
    put_elements elem.Short = int_pops P t.stack _ stack_in (λ v rest. put (holds elem.Short) v.rest _ _ rest (λ d. ints _))

    made : (component : List ℕ) → Moves (makes_array t component)
    made component = int_pops P t.stack _ stack_in (λ n rest. passed P _ _ (all_replicate P (unsigned_abs n.value) (default_value component) (default_in component), rest))

    entering : (slots method : ℕ) → Moves (calls files t slots method)
    entering slots method =
        or_ended P (code_of files method) _ (λ code e. (begun (reverse (take slots t.stack)) code.max_locals (all_reverse (InSlot P) (take slots t.stack) (all_take (InSlot P) slots t.stack stack_in)), all_drop (InSlot P) slots t.stack stack_in))

    on_receiver : (m : Invoked) (taken : ℕ → Option ℕ) → Moves (calls_on files t m taken)
    on_receiver m taken = needed P _ _ (λ receiver e. or_ended P _ _ (λ c at. passed P _ _ (or_ended P _ _ (λ method is. entering (m.slots + 1) method))))

    pub moved : (i : Instr) → Moves (effect files t i)
    moved Nop = (locals_in, stack_in)
    moved Null = onward NullValue t.stack null stack_in
    moved (Int n) = onward _ t.stack (ints _) stack_in
    moved (Long n) = onward _ t.stack (longs _) stack_in
    moved (Str text) = needed P _ _ (λ v e. onward v t.stack (strings text v e) stack_in)
    moved (ILoad n) = needed P _ _ (λ k e. onward (IntValue k) t.stack (ints k) stack_in)
    moved (LLoad n) = needed P _ _ (λ k e. onward (LongValue k) t.stack (longs k) stack_in)
    moved (ALoad n) = needed P _ _ (λ v e. onward v t.stack (local_in reference_of P (same_reference P) n v e) stack_in)
    moved (IStore n) = int_pops P t.stack _ stack_in (λ p rest. (store P t.locals n (IntValue p.value) (ints p.value) locals_in, rest))
    moved (LStore n) = long_pops P t.stack _ stack_in (λ p rest. (store P t.locals n (LongValue p.value) (longs p.value) locals_in, rest))
    moved (AStore n) = reference_pops P t.stack _ stack_in (λ p value rest. (store P t.locals n p.value value locals_in, rest))
    moved (ArrayLoad e) = loaded (holds e)
    moved LArrayLoad = loaded holds_longs
    moved (ArrayStore e) = put_elements e
    moved LArrayStore = long_pops P t.stack _ stack_in (λ v rest. put holds_longs v.rest _ _ rest (λ d. longs v.value))
    moved (Stack op) = needed P _ _ (λ s e. (locals_in, move_in P op t.stack s stack_in e))
    moved (Arith op) = int_pops P t.stack _ stack_in (λ b rest. int_pops P b.rest _ rest (λ a under. or_ended P _ _ (λ n e. onward (IntValue n) a.rest (ints n) under)))
    moved (LArith op) = second_pops P op t.stack _ stack_in (λ b rest. long_pops P b.rest _ rest (λ a under. or_ended P _ _ (λ n e. onward (LongValue n) a.rest (longs n) under)))
    moved Neg = int_pops P t.stack _ stack_in (λ a rest. onward (IntValue _) a.rest (ints _) rest)
    moved LNeg = long_pops P t.stack _ stack_in (λ a rest. onward (LongValue _) a.rest (longs _) rest)
    moved (Inc n by) = needed P _ _ (λ k e. (store P t.locals n _ (ints _) locals_in, stack_in))
    moved (Narrow op) = int_pops P t.stack _ stack_in (λ a rest. onward (IntValue _) a.rest (ints _) rest)
    moved I2L = int_pops P t.stack _ stack_in (λ a rest. onward (LongValue _) a.rest (longs _) rest)
    moved L2I = long_pops P t.stack _ stack_in (λ a rest. onward (IntValue _) a.rest (ints _) rest)
    moved LCmp = long_pops P t.stack _ stack_in (λ b rest. long_pops P b.rest _ rest (λ a under. onward (IntValue _) a.rest (ints _) under))
    moved (IfZero relation target) = int_pops P t.stack _ stack_in (λ a rest. branched _ target a.rest rest)
    moved (IfInts relation target) = int_pops P t.stack _ stack_in (λ b rest. int_pops P b.rest _ rest (λ a under. branched _ target a.rest under))
    moved (IfSame target) = reference_pops P t.stack _ stack_in (λ b v rest. reference_pops P b.rest _ rest (λ a w under. branched _ target a.rest under))
    moved (IfOther target) = reference_pops P t.stack _ stack_in (λ b v rest. reference_pops P b.rest _ rest (λ a w under. branched _ target a.rest under))
    moved (IfNull target) = reference_pops P t.stack _ stack_in (λ a v rest. branched _ target a.rest rest)
    moved (IfNotNull target) = reference_pops P t.stack _ stack_in (λ a v rest. branched _ target a.rest rest)
    moved (Goto target) = stack_in
    moved (TableSwitch low targets other) = int_pops P t.stack _ stack_in (λ key rest. rest)
    moved (LookupSwitch pairs other) = int_pops P t.stack _ stack_in (λ key rest. rest)
    moved IReturn = int_pops P t.stack _ stack_in (λ a rest. push P (IntValue a.value) [] (ints a.value) tt)
    moved LReturn = long_pops P t.stack _ stack_in (λ a rest. push P (LongValue a.value) [] (longs a.value) tt)
    moved AReturn = reference_pops P t.stack _ stack_in (λ a v rest. push P a.value [] v tt)
    moved Return = tt
    moved (GetStatic r) = needed P _ _ (λ f e. marked P f.0 _ _ (needed P _ _ (λ v at. onward v t.stack (all_at P t.state.statics f.1.id.0 v statics_in at) stack_in)))
    moved (PutStatic r) = needed P _ _ (λ f e. marked P f.0 _ _ (value_pops P t.stack _ stack_in (λ p v rest. (v, rest))))
    moved (GetField r) = needed P _ _ (λ f e. reference_pops P t.stack _ stack_in (λ p v rest. on_an_object f.0 p.value _
        (λ o fields. needed P _ _ (λ w at. onward w p.rest (found_in P _ o.fields w fields at) rest))))
    moved (PutField r) = needed P _ _ (λ f e. value_pops P t.stack _ stack_in (λ v value under. reference_pops P v.rest _ under (λ p w rest. on_an_object f.0 p.value _
        (λ o fields. (put_in P o.fields f.1.id v.value fields value, rest)))))
    moved (InvokeVirtual r) = needed P _ _ (λ m e. on_receiver m _)
    moved (InvokeSpecial r) = needed P _ _ (λ m e. on_receiver m _)
    moved (InvokeInterface r) = needed P _ _ (λ m e. on_receiver m _)
    moved (InvokeStatic r) = needed P _ _ (λ m e. marked P m.declaring _ _ (entering m.slots m.method.id.0))
    moved (New name) = needed P _ _ (λ c e. marked P c _ _ (passed P _ _ (new_in files c, stack_in)))
    moved (NewArray type) = made (primitive_descriptor type)
    moved (ANewArray name) = made (named_descriptor name)
    moved ArrayLength = reference_pops P t.stack _ stack_in (λ p v rest. or_ended P _ _ (λ o e. onward (IntValue _) p.rest (ints _) rest))
    moved Throw = tt
    moved (CheckCast name) = reference_pops P t.stack _ stack_in (λ p v rest. passed P _ _ (locals_in, stack_in))
    moved (InstanceOf name) = reference_pops P t.stack _ stack_in (λ p v rest. onward (IntValue _) p.rest (ints _) rest)
    moved MonitorEnter = reference_pops P t.stack _ stack_in (λ p v rest. passed P _ _ (locals_in, rest))
    moved MonitorExit = reference_pops P t.stack _ stack_in (λ p v rest. passed P _ _ (locals_in, rest))

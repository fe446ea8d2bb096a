-- What the table has of an instruction is what the machine's definitions find.
use Rattle.std.proofs.Common.{◌≡◌, ℕ, Bool, false, List, refl, sym, ap, ◌∙◌, Option, Some, None, if◌then◌else◌}
use Rattle.std.specs.Prelude.{slice_get}
use Rattle.th_syntax.specs.declared.machine.Value.TheVariants.{Address}
use Rattle.std.specs.Option.{option_map, option_and_then}
use Rattle.th_base.specs.declared.class.FieldInfo.{FieldInfo}
use Rattle.th_base.specs.declared.number.FieldId.{FieldId}
use Rattle.th_base.specs.declared.number.MethodId.{MethodId}
use Rattle.th_base.specs.declared.operation.Elem.{Elem}
use Rattle.th_syntax.specs.declared.class_file.ClassFile.{ClassFile}
use Rattle.th_syntax.specs.declared.instr.Instr.{Instr}
use Rattle.th_syntax.specs.declared.instr.Instr.TheVariants.{Nop, Null, Int, Long, Str, ILoad, LLoad, ALoad, IStore, LStore, AStore, ArrayLoad, LArrayLoad, ArrayStore, LArrayStore, Stack, Arith, LArith, Neg, LNeg, Inc, Narrow, I2L, L2I, LCmp, IfZero, IfInts, IfSame, IfOther, IfNull, IfNotNull, Goto, TableSwitch, LookupSwitch, IReturn, LReturn, AReturn, Return, GetStatic, PutStatic, GetField, PutField, InvokeVirtual, InvokeSpecial, InvokeInterface, InvokeStatic, New, NewArray, ANewArray, ArrayLength, Throw, CheckCast, InstanceOf, MonitorEnter, MonitorExit}
use Rattle.th_syntax.specs.declared.instr.MemberRef.{MemberRef}
use Rattle.th_syntax.specs.declared.machine.Value.{Value}
use Rattle.th_syntax.specs.Machine.{method_id}
use Rattle.th_syntax.specs.Program.{Owned, hierarchy_of, methods_of}
use Rattle.th_syntax.specs.Strings.{string_number_of}
use Rattle.th_syntax.specs.Effects.{Top, Effect, needs}
use Rattle.th_syntax.specs.Moves.{pushes}
use Rattle.th_syntax.specs.Fields.{field_resolved, on_initialised}
use Rattle.th_syntax.specs.Objects.{has_objects}
use Rattle.th_syntax.specs.Calls.{calls, selected_for, Invoked, argument_slots, invoked_in, invoked, calls_on, special_method, special_in}
use Rattle.th_syntax.specs.Program.{number_named}
use Rattle.th_syntax.specs.Step.{effect}
use Rattle.th_resolved.specs.declared.operand.Callee.{Callee}
use Rattle.th_resolved.specs.Operands.{string_operand, field_operand, class_operand, callee_of, call_operand, special_taken, special_operand, has_floats, plain_slots, plain_invoked, operand_of}
use Rattle.th_acts.specs.Acts.{constant_in, field_in, class_in, callee_in, special_in as special_named, invoked_of, effect_with, IsPlain}

constant_found : (n : Option ℕ) → constant_in (string_operand n) ≡ n
constant_found None = refl
constant_found (Some a) = refl

field_found : (o : Option (ℕ × FieldInfo)) (next : ℕ × FieldId → Effect) → needs (field_in (field_operand o)) next ≡ needs o (λ f. next (f.0, f.1.id))
unfolding needs
field_found None next = refl
field_found (Some f) next = refl

class_found : (files : List ClassFile) (n : Option ℕ) (next : ℕ × Bool → Effect)
    → needs (class_in (class_operand files n)) next ≡ needs n (λ c. next (c, has_objects (hierarchy_of files) c))
unfolding needs
class_found files None next = refl
class_found files (Some c) next = refl

call_found : (m : Option Invoked) (next : Callee → Effect) → needs (callee_in (call_operand m)) next ≡ needs m (λ i. next (callee_of i))
unfolding needs
call_found None next = refl
call_found (Some i) next = refl

special_found : (files : List ClassFile) (current : Option ℕ) (m : Option Invoked) (next : Callee × Option MethodId → Effect)
    → needs (special_named (special_operand files current m)) next ≡ needs m (λ i. next (callee_of i, special_taken files i current))
unfolding needs
special_found files current None next = refl
special_found files current (Some i) next = refl

number_kept : (o : Option ℕ) → option_map (λ (id : MethodId). id.0) (option_map method_id o) ≡ o
number_kept None = refl
number_kept (Some n) = refl

taken_found : (files : List ClassFile) (m : Invoked) (o : Option Owned)
    → option_map (λ (id : MethodId). id.0) (special_taken files m (option_map (λ x. x.owner) o)) ≡ option_and_then (λ x. special_in (hierarchy_of files) m.named m.method x.owner) o
taken_found files m None = refl
taken_found files m (Some x) = number_kept (special_in (hierarchy_of files) m.named m.method x.owner)

special_called : (files : List ClassFile) (t : Top) (o : Option Owned) (m : Option Invoked)
    → needs m (λ i. calls_on files t i (λ c. option_map (λ (id : MethodId). id.0) (special_taken files i (option_map (λ x. x.owner) o))))
    ≡ needs m (λ i. calls_on files t i (λ c. option_and_then (λ x. special_in (hierarchy_of files) i.named i.method x.owner) o))
unfolding needs
special_called files t o None = refl
special_called files t o (Some i) = ap (λ (taken : Option ℕ). calls_on files t i (λ c. taken)) (taken_found files i o)

slots_are : (descriptor : List ℕ) → has_floats descriptor ≡ false → plain_slots descriptor ≡ argument_slots descriptor
slots_are descriptor plain = ap (λ (b : Bool). if b then None else argument_slots descriptor) plain

invoked_is : (files : List ClassFile) (r : MemberRef) → has_floats r.descriptor ≡ false → plain_invoked files r ≡ invoked files r
invoked_is files r plain =
    ap (λ (s : Option ℕ). option_and_then (λ slots. option_and_then (invoked_in files r slots) (number_named files r.owner)) s) (slots_are r.descriptor plain)

pub found : (files : List ClassFile) (t : Top) (i : Instr) → IsPlain i → effect_with files t (operand_of files t.method i) i ≡ effect files t i
unfolding needs
found files t Nop plain = refl
found files t Null plain = refl
found files t (Int n) plain = refl
found files t (Long n) plain = refl
found files t (Str text) plain =
    ap (λ (n : Option ℕ). needs (option_map Address n) (pushes t)) (constant_found (string_number_of files text))
found files t (ILoad n) plain = refl
found files t (LLoad n) plain = refl
found files t (ALoad n) plain = refl
found files t (IStore n) plain = refl
found files t (LStore n) plain = refl
found files t (AStore n) plain = refl
found files t (ArrayLoad e) plain = refl
found files t LArrayLoad plain = refl
found files t (ArrayStore e) plain = refl
found files t LArrayStore plain = refl
found files t (Stack op) plain = refl
found files t (Arith op) plain = refl
found files t (LArith op) plain = refl
found files t Neg plain = refl
found files t LNeg plain = refl
found files t (Inc n by) plain = refl
found files t (Narrow op) plain = refl
found files t I2L plain = refl
found files t L2I plain = refl
found files t LCmp plain = refl
found files t (IfZero relation target) plain = refl
found files t (IfInts relation target) plain = refl
found files t (IfSame target) plain = refl
found files t (IfOther target) plain = refl
found files t (IfNull target) plain = refl
found files t (IfNotNull target) plain = refl
found files t (Goto target) plain = refl
found files t (TableSwitch low targets other) plain = refl
found files t (LookupSwitch pairs other) plain = refl
found files t IReturn plain = refl
found files t LReturn plain = refl
found files t AReturn plain = refl
found files t Return plain = refl
found files t (GetStatic r) plain = field_found (field_resolved files r) _
found files t (PutStatic r) plain = field_found (field_resolved files r) _
found files t (GetField r) plain = field_found (field_resolved files r) _
found files t (PutField r) plain = field_found (field_resolved files r) _
found files t (InvokeVirtual r) plain =
    call_found (plain_invoked files r) _ ∙ ap (λ (m : Option Invoked). needs m (λ i. calls_on files t i (selected_for (hierarchy_of files) i.method))) (invoked_is files r plain)
found files t (InvokeSpecial r) plain =
    special_found files (option_map (λ (o : Owned). o.owner) (slice_get (methods_of files) t.method)) (plain_invoked files r) _
    ∙ special_called files t (slice_get (methods_of files) t.method) (plain_invoked files r)
    ∙ ap (λ (m : Option Invoked). needs m (λ i. calls_on files t i (λ c. special_method files t.method i))) (invoked_is files r plain)
found files t (InvokeInterface r) plain =
    call_found (plain_invoked files r) _ ∙ ap (λ (m : Option Invoked). needs m (λ i. calls_on files t i (selected_for (hierarchy_of files) i.method))) (invoked_is files r plain)
found files t (InvokeStatic r) plain =
    call_found (plain_invoked files r) _ ∙ ap (λ (m : Option Invoked). needs m (λ i. on_initialised t i.declaring (calls files t i.slots i.method.id.0))) (invoked_is files r plain)
found files t (New name) plain = class_found files (number_named files name) _
found files t (NewArray type) plain = refl
found files t (ANewArray name) plain = refl
found files t ArrayLength plain = refl
found files t Throw plain = refl
found files t (CheckCast name) plain = refl
found files t (InstanceOf name) plain = refl
found files t MonitorEnter plain = refl
found files t MonitorExit plain = refl

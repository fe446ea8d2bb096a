-- The bytes of a method's code spell its instructions, each at its offset.
use Rattle.std.proofs.Common.{◌≡◌, ℕ, suc, ◌+◌, ◌<◌, ◌≤◌, ◌^◌, Bool, true, false, ◌&&◌, List, ◌∷◌, length, refl, arith}
use Rattle.std.specs.Prelude.{nat_lt, int_le, ℤ, pos, ◌+ℤ◌, ◌≤ℤ◌}
use Rattle.std.proofs.lemmas.Bool.{ltb-true, leb-true}
use Rattle.std.proofs.lemmas.Float.{T_from_true}
use Rattle.th_base.specs.declared.operation.Relation.{Relation}
use Rattle.th_base.specs.declared.operation.Relation.TheVariants.{Eq, Ne, Lt, Ge, Gt, Le}
use Rattle.th_syntax.specs.declared.opcode.TheConstants as opcode
use Rattle.th_syntax.specs.declared.instr.Instr.{Instr}
use Rattle.th_syntax.specs.declared.instr.Instr.TheVariants.{Nop, Null, Int, Long, Str, ILoad, LLoad, ALoad, IStore, LStore, AStore, ArrayLoad, LArrayLoad, ArrayStore, LArrayStore, Stack, Arith, LArith, Neg, LNeg, Inc, Narrow, I2L, L2I, LCmp, IfZero, IfInts, IfSame, IfOther, IfNull, IfNotNull, Goto, TableSwitch, LookupSwitch, IReturn, LReturn, AReturn, Return, GetStatic, PutStatic, GetField, PutField, InvokeVirtual, InvokeSpecial, InvokeInterface, InvokeStatic, New, NewArray, ANewArray, ArrayLength, Throw, CheckCast, InstanceOf, MonitorEnter, MonitorExit}
use Rattle.th_syntax.specs.CodeBytes.{of_classes, of_either, class_name_numbers, class_or_array_numbers, among, rows, jump}
use Rattle.th_gen.specs.declared.item.PoolItem.{PoolItem}
use Rattle.th_gen.specs.Items.{index_of, instr_items}
use Rattle.th_gen.specs.Spellings.{zero_branch, int_branch}
use Rattle.th_gen.specs.Placing.{start_at, retargeted, is_near, reaches}
use Rattle.th_gen.specs.Passing.{InstrPasses, NumberFits}
use Rattle.th_gen.specs.ClassText as text
use Rattle.th_gen.proofs.PoolSpelled.{raw_pool}
use Rattle.th_gen.proofs.Closed.{Holds}
use Rattle.th_gen.proofs.Instructions.{IsAt, bare, array_loads, array_stores, stack_moves, int_ariths, long_ariths, narrowings, new_arrays, int_loads, long_loads, ref_loads, int_stores, long_stores, ref_stores, increments}
use Rattle.th_gen.proofs.Operands.{strings, ints_spelled, longs_spelled, fields_spelled, by_classes, by_either, methods_spelled, interface_methods_spelled, classes_spelled, branches}
use Rattle.th_gen.proofs.Switches.{table_spelled, lookup_spelled}

-- ---- one instruction

-- the test of an order on integers holds
le_holds : (a b : ℤ) → int_le a b ≡ true → a ≤ℤ b
le_holds a b e = record { le = T_from_true (int_le a b) e }

local_fits : (n k max : ℕ) → n + suc k ≤ max → max < 2 ^ 16 → n < 2 ^ 16
local_fits n k max le lt = omega arith

pub two_tests : (a b : Bool) → (a && b) ≡ true → (a ≡ true) × (b ≡ true)
two_tests true b e = (refl, e)
two_tests false b e = absurd cc

module _ (pool : List PoolItem) (small : (i : PoolItem) → index_of pool i < 2 ^ 16) (starts : List ℕ) (low : (place : ℕ) → start_at starts place < 2 ^ 16) (max : ℕ) (few : max < 2 ^ 16) where
  -- what makes an instruction's bytes spell it
  pub record Ready (pc : ℕ) (i : Instr) : Type 0 where
    pub place : pc < 2 ^ 16
    pub items : Holds pool (instr_items i)
    pub passes : InstrPasses max i
    pub number : NumberFits i
    pub near : reaches starts pc i ≡ true
    pub room : text.switch_fits i ≡ true

  branch_at : (pc place code : ℕ) (make : ℕ → Instr) → among (rows (raw_pool pool)) code pc pc ≡ jump pc make → pc < 2 ^ 16 → is_near pc (start_at starts place) ≡ true
      → IsAt (raw_pool pool) pc (code ∷ text.near pc (start_at starts place)) (make (start_at starts place))
  branch_at pc place code make row lp near = branches pool small pc code (start_at starts place) make row near lp (low place)

  zero_branches : (pc : ℕ) (relation : Relation) (place : ℕ) → pc < 2 ^ 16 → is_near pc (start_at starts place) ≡ true → IsAt (raw_pool pool) pc (zero_branch relation ∷ text.near pc (start_at starts place)) (IfZero relation (start_at starts place))
  zero_branches pc Eq place = branch_at pc place opcode.IFEQ (IfZero Eq) refl
  zero_branches pc Ne place = branch_at pc place opcode.IFNE (IfZero Ne) refl
  zero_branches pc Lt place = branch_at pc place opcode.IFLT (IfZero Lt) refl
  zero_branches pc Ge place = branch_at pc place opcode.IFGE (IfZero Ge) refl
  zero_branches pc Gt place = branch_at pc place opcode.IFGT (IfZero Gt) refl
  zero_branches pc Le place = branch_at pc place opcode.IFLE (IfZero Le) refl

  int_branches : (pc : ℕ) (relation : Relation) (place : ℕ) → pc < 2 ^ 16 → is_near pc (start_at starts place) ≡ true → IsAt (raw_pool pool) pc (int_branch relation ∷ text.near pc (start_at starts place)) (IfInts relation (start_at starts place))
  int_branches pc Eq place = branch_at pc place opcode.IF_ICMPEQ (IfInts Eq) refl
  int_branches pc Ne place = branch_at pc place opcode.IF_ICMPNE (IfInts Ne) refl
  int_branches pc Lt place = branch_at pc place opcode.IF_ICMPLT (IfInts Lt) refl
  int_branches pc Ge place = branch_at pc place opcode.IF_ICMPGE (IfInts Ge) refl
  int_branches pc Gt place = branch_at pc place opcode.IF_ICMPGT (IfInts Gt) refl
  int_branches pc Le place = branch_at pc place opcode.IF_ICMPLE (IfInts Le) refl

  pub instr_spells : (pc : ℕ) (i : Instr) → Ready pc i → IsAt (raw_pool pool) pc (text.instr_bytes pool starts pc i) (retargeted starts i)
  unfolding text.instr_bytes
  instr_spells pc Nop r = bare (raw_pool pool) pc opcode.NOP Nop refl
  instr_spells pc Null r = bare (raw_pool pool) pc opcode.ACONST_NULL Null refl
  instr_spells pc (Int v) r = ints_spelled pool small pc starts v r.number r.items
  instr_spells pc (Long v) r = longs_spelled pool small pc starts v r.items
  instr_spells pc (Str bytes) r = strings pool small pc starts bytes r.items
  instr_spells pc (ILoad n) r = int_loads (raw_pool pool) pc starts (ILoad n) n (local_fits n 0 max r.passes.locals few)
  instr_spells pc (LLoad n) r = long_loads (raw_pool pool) pc starts (LLoad n) n (local_fits n 1 max r.passes.locals few)
  instr_spells pc (ALoad n) r = ref_loads (raw_pool pool) pc starts (ALoad n) n (local_fits n 0 max r.passes.locals few)
  instr_spells pc (IStore n) r = int_stores (raw_pool pool) pc starts (IStore n) n (local_fits n 0 max r.passes.locals few)
  instr_spells pc (LStore n) r = long_stores (raw_pool pool) pc starts (LStore n) n (local_fits n 1 max r.passes.locals few)
  instr_spells pc (AStore n) r = ref_stores (raw_pool pool) pc starts (AStore n) n (local_fits n 0 max r.passes.locals few)
  instr_spells pc (ArrayLoad e) r = array_loads (raw_pool pool) pc e
  instr_spells pc LArrayLoad r = bare (raw_pool pool) pc opcode.LALOAD LArrayLoad refl
  instr_spells pc (ArrayStore e) r = array_stores (raw_pool pool) pc e
  instr_spells pc LArrayStore r = bare (raw_pool pool) pc opcode.LASTORE LArrayStore refl
  instr_spells pc (Stack op) r = stack_moves (raw_pool pool) pc op
  instr_spells pc (Arith op) r = int_ariths (raw_pool pool) pc op
  instr_spells pc (LArith op) r = long_ariths (raw_pool pool) pc op
  instr_spells pc Neg r = bare (raw_pool pool) pc opcode.INEG Neg refl
  instr_spells pc LNeg r = bare (raw_pool pool) pc opcode.LNEG LNeg refl
  instr_spells pc (Inc n by) r = increments (raw_pool pool) pc starts (Inc n by) n by (local_fits n 0 max r.passes.locals few) r.number
  instr_spells pc (Narrow op) r = narrowings (raw_pool pool) pc op
  instr_spells pc I2L r = bare (raw_pool pool) pc opcode.I2L I2L refl
  instr_spells pc L2I r = bare (raw_pool pool) pc opcode.L2I L2I refl
  instr_spells pc LCmp r = bare (raw_pool pool) pc opcode.LCMP LCmp refl
  instr_spells pc (IfZero relation place) r = zero_branches pc relation place r.place r.near
  instr_spells pc (IfInts relation place) r = int_branches pc relation place r.place r.near
  instr_spells pc (IfSame place) r = branch_at pc place opcode.IF_ACMPEQ IfSame refl r.place r.near
  instr_spells pc (IfOther place) r = branch_at pc place opcode.IF_ACMPNE IfOther refl r.place r.near
  instr_spells pc (IfNull place) r = branch_at pc place opcode.IFNULL IfNull refl r.place r.near
  instr_spells pc (IfNotNull place) r = branch_at pc place opcode.IFNONNULL IfNotNull refl r.place r.near
  instr_spells pc (Goto place) r = branch_at pc place opcode.GOTO Goto refl r.place r.near
  instr_spells pc (TableSwitch least places other) r =
      let keys = two_tests (nat_lt 0 (length places)) (int_le (least +ℤ pos (length places)) (pos (2 ^ 31))) r.passes.keys in
      let count : length places ≤ 65535 = leb-true (length places) 65535 r.room in
      table_spelled starts low pc r.place (raw_pool pool) least places other r.number (ltb-true 0 (length places) keys.0) (omega arith) (le_holds (least +ℤ pos (length places)) (pos (2 ^ 31)) keys.1)
  instr_spells pc (LookupSwitch pairs other) r =
      let count : length pairs ≤ 65535 = leb-true (length pairs) 65535 r.room in
      lookup_spelled starts low pc r.place (raw_pool pool) pairs other r.number (omega arith) r.passes.keys
  instr_spells pc IReturn r = bare (raw_pool pool) pc opcode.IRETURN IReturn refl
  instr_spells pc LReturn r = bare (raw_pool pool) pc opcode.LRETURN LReturn refl
  instr_spells pc AReturn r = bare (raw_pool pool) pc opcode.ARETURN AReturn refl
  instr_spells pc Return r = bare (raw_pool pool) pc opcode.RETURN Return refl
  instr_spells pc (GetStatic f) r = fields_spelled pool small pc opcode.GETSTATIC f GetStatic refl r.items r.passes.names
  instr_spells pc (PutStatic f) r = fields_spelled pool small pc opcode.PUTSTATIC f PutStatic refl r.items r.passes.names
  instr_spells pc (GetField f) r = fields_spelled pool small pc opcode.GETFIELD f GetField refl r.items r.passes.names
  instr_spells pc (PutField f) r = fields_spelled pool small pc opcode.PUTFIELD f PutField refl r.items r.passes.names
  instr_spells pc (InvokeVirtual m) r = methods_spelled pool small pc opcode.INVOKEVIRTUAL of_classes false m InvokeVirtual refl (by_classes pool false m InvokeVirtual) r.items r.passes.names
  instr_spells pc (InvokeSpecial m) r = methods_spelled pool small pc opcode.INVOKESPECIAL of_either true m InvokeSpecial refl (by_either pool true m InvokeSpecial) r.items r.passes.names
  instr_spells pc (InvokeInterface m) r = interface_methods_spelled pool small pc m r.items r.passes.names
  instr_spells pc (InvokeStatic m) r = methods_spelled pool small pc opcode.INVOKESTATIC of_either false m InvokeStatic refl (by_either pool false m InvokeStatic) r.items r.passes.names
  instr_spells pc (New name) r = classes_spelled pool small pc opcode.NEW name class_name_numbers New refl r.items r.passes.names
  instr_spells pc (NewArray element) r = new_arrays (raw_pool pool) pc element
  instr_spells pc (ANewArray name) r = classes_spelled pool small pc opcode.ANEWARRAY name class_or_array_numbers ANewArray refl r.items r.passes.names
  instr_spells pc ArrayLength r = bare (raw_pool pool) pc opcode.ARRAYLENGTH ArrayLength refl
  instr_spells pc Throw r = bare (raw_pool pool) pc opcode.ATHROW Throw refl
  instr_spells pc (CheckCast name) r = classes_spelled pool small pc opcode.CHECKCAST name class_or_array_numbers CheckCast refl r.items r.passes.names
  instr_spells pc (InstanceOf name) r = classes_spelled pool small pc opcode.INSTANCEOF name class_or_array_numbers InstanceOf refl r.items r.passes.names
  instr_spells pc MonitorEnter r = bare (raw_pool pool) pc opcode.MONITORENTER MonitorEnter refl
  instr_spells pc MonitorExit r = bare (raw_pool pool) pc opcode.MONITOREXIT MonitorExit refl

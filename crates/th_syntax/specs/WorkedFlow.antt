-- Instructions of every variant, by whether control goes on behind them, and a code that loops, whose
-- paths are worked out in full.
use Rattle.std.specs.Prelude.{ℕ, pos, List, [], ◌∷◌, codes}
use Rattle.th_base.specs.declared.operation.Elem.TheVariants as elem
use Rattle.th_base.specs.declared.operation.ArithOp.TheVariants.{Add}
use Rattle.th_base.specs.declared.operation.NarrowOp.TheVariants as narrow
use Rattle.th_base.specs.declared.operation.Relation.TheVariants.{Eq}
use Rattle.th_syntax.specs.declared.instr.StackOp.TheVariants.{Pop}
use Rattle.th_syntax.specs.declared.instr.Primitive.TheVariants as primitive
use Rattle.th_syntax.specs.declared.instr.MemberRef.{MemberRef}
use Rattle.th_syntax.specs.declared.instr.Instr.{Instr}
use Rattle.th_syntax.specs.declared.instr.Instr.TheVariants.{Nop, Null, Int, Long, Str, ILoad, LLoad, ALoad, IStore, LStore, AStore, ArrayLoad, LArrayLoad, ArrayStore, LArrayStore, Stack, Arith, LArith, Neg, LNeg, Inc, Narrow, I2L, L2I, LCmp, IfZero, IfInts, IfSame, IfOther, IfNull, IfNotNull, Goto, TableSwitch, LookupSwitch, IReturn, LReturn, AReturn, Return, GetStatic, PutStatic, GetField, PutField, InvokeVirtual, InvokeSpecial, InvokeInterface, InvokeStatic, New, NewArray, ANewArray, ArrayLength, Throw, CheckCast, InstanceOf, MonitorEnter, MonitorExit}

abbrev pub some_ref : MemberRef
some_ref = record { owner = codes "A"; name = codes "f"; descriptor = codes "I" }

-- the instructions behind which control always goes on, where it goes on at all
abbrev pub going_on : List Instr
going_on =
    Nop ∷ Null ∷ Int (pos 1) ∷ Long (pos 1) ∷ Str (codes "s") ∷ ILoad 0 ∷ LLoad 0 ∷ ALoad 0 ∷ IStore 0 ∷ LStore 0 ∷ AStore 0
    ∷ ArrayLoad elem.Int ∷ LArrayLoad ∷ ArrayStore elem.Int ∷ LArrayStore ∷ Stack Pop ∷ Arith Add ∷ LArith Add ∷ Neg ∷ LNeg
    ∷ Inc 0 (pos 1) ∷ Narrow narrow.Byte ∷ I2L ∷ L2I ∷ LCmp
    ∷ GetStatic some_ref ∷ PutStatic some_ref ∷ GetField some_ref ∷ PutField some_ref ∷ InvokeVirtual some_ref
    ∷ InvokeSpecial some_ref ∷ InvokeInterface some_ref ∷ InvokeStatic some_ref ∷ New (codes "A") ∷ NewArray primitive.Int
    ∷ ANewArray (codes "A") ∷ ArrayLength ∷ CheckCast (codes "A") ∷ InstanceOf (codes "A") ∷ MonitorEnter ∷ MonitorExit ∷ []

-- the other ones
abbrev pub leading_elsewhere : List Instr
leading_elsewhere =
    IfZero Eq 5 ∷ IfInts Eq 5 ∷ IfSame 5 ∷ IfOther 5 ∷ IfNull 5 ∷ IfNotNull 5 ∷ Goto 5 ∷ TableSwitch (pos 1) (5 ∷ 6 ∷ 5 ∷ []) 7
    ∷ LookupSwitch ((pos 1, 5) ∷ (pos 3, 6) ∷ []) 7 ∷ IReturn ∷ LReturn ∷ AReturn ∷ Return ∷ Throw ∷ []

-- where these lead, where 9 is behind them
abbrev pub elsewhere : List (List ℕ)
elsewhere =
    (5 ∷ 9 ∷ []) ∷ (5 ∷ 9 ∷ []) ∷ (5 ∷ 9 ∷ []) ∷ (5 ∷ 9 ∷ []) ∷ (5 ∷ 9 ∷ []) ∷ (5 ∷ 9 ∷ []) ∷ (5 ∷ []) ∷ (5 ∷ 6 ∷ 5 ∷ 7 ∷ [])
    ∷ (5 ∷ 6 ∷ 7 ∷ []) ∷ [] ∷ [] ∷ [] ∷ [] ∷ [] ∷ []

-- a loop over a switch; no path leads to offsets 11 and 12
abbrev pub looping_code : List (ℕ × Instr)
looping_code =
    (0, ILoad 0) ∷ (1, LookupSwitch ((pos 2, 8) ∷ (pos 5, 30) ∷ []) 4) ∷ (4, IfNull 20) ∷ (7, Return) ∷ (8, Goto 30)
    ∷ (11, Nop) ∷ (12, Goto 0) ∷ (20, Goto 8) ∷ (30, Throw) ∷ []

abbrev pub looping_parts : List (ℕ × Instr)
looping_parts =
    (0, ILoad 0) ∷ (1, LookupSwitch ((pos 2, 8) ∷ (pos 5, 30) ∷ []) 4) ∷ (4, IfNull 20) ∷ (7, Return) ∷ (8, Goto 30) ∷ (20, Goto 8)
    ∷ (30, Throw) ∷ []

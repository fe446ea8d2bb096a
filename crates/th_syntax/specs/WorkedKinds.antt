-- Instructions of every variant with what they make of kinds, and small methods whose kinds are worked out
-- in full.
use Rattle.std.specs.Prelude.{ℕ, pos, ◌-◌, Bool, List, [], ◌∷◌, ◌++◌, codes, length, map, None}
use Rattle.th_base.specs.declared.operation.Elem.TheVariants as elem
use Rattle.th_base.specs.declared.operation.ArithOp.TheVariants.{Add, Sub, Mul, Div, Rem, Shl, Shr, Ushr, And, Or, Xor}
use Rattle.th_base.specs.declared.operation.NarrowOp.TheVariants as narrow
use Rattle.th_base.specs.declared.operation.Relation.TheVariants.{Eq}
use Rattle.th_syntax.specs.declared.kind.SlotKind.TheVariants as kind
use Rattle.th_syntax.specs.declared.class_file.Member.{Member}
use Rattle.th_syntax.specs.declared.class_file.Code.{Code}
use Rattle.th_syntax.specs.declared.instr.StackOp.TheVariants as move
use Rattle.th_syntax.specs.declared.instr.Primitive.TheVariants as primitive
use Rattle.th_syntax.specs.declared.instr.MemberRef.{MemberRef}
use Rattle.th_syntax.specs.declared.instr.Instr.{Instr}
use Rattle.th_syntax.specs.declared.instr.Instr.TheVariants.{Nop, Null, Int, Long, Str, ILoad, LLoad, ALoad, IStore, LStore, AStore, ArrayLoad, LArrayLoad, ArrayStore, LArrayStore, Stack, Arith, LArith, Neg, LNeg, Inc, Narrow, I2L, L2I, LCmp, IfZero, IfInts, IfSame, IfOther, IfNull, IfNotNull, Goto, TableSwitch, LookupSwitch, IReturn, LReturn, AReturn, Return, GetStatic, PutStatic, GetField, PutField, InvokeVirtual, InvokeSpecial, InvokeInterface, InvokeStatic, New, NewArray, ANewArray, ArrayLength, Throw, CheckCast, InstanceOf, MonitorEnter, MonitorExit}
use Rattle.th_syntax.specs.Kinds.{SlotKind, KindsAt, OfKinds}
use Rattle.th_syntax.specs.KindRows.{row_of, after, is_misfit}
use Rattle.th_syntax.specs.KindTable.{KindsBefore}
use Rattle.th_syntax.specs.KindRounds.{known_at, after_rounds, is_closed_table, conflict_offsets}

-- ---- kinds by a letter: an int, a reference, a long, its second half, an unusable slot

abbrev pub i : SlotKind
i = kind.Int

abbrev pub r : SlotKind
r = kind.Ref

abbrev pub l : SlotKind
l = kind.Long

abbrev pub h : SlotKind
h = kind.SecondHalf

abbrev pub u : SlotKind
u = kind.Unusable

-- ---- what instructions make of kinds

-- a row: the instruction, the stack before it and the stack behind it, the top first. A slot that is
-- unusable lies below both.
pub record Fitting : Type 0 where
  pub instr : Instr
  pub stack : List SlotKind
  pub behind : List SlotKind

abbrev pub fits : Instr → List SlotKind → List SlotKind → Fitting
fits instr stack behind = record { instr = instr; stack = stack ++ u ∷ []; behind = behind ++ u ∷ [] }

abbrev pub of_type : List ℕ → MemberRef
of_type descriptor = record { owner = codes "A"; name = codes "m"; descriptor = descriptor }

abbrev pub fitting_constants : List Fitting
fitting_constants =
    fits Nop [] [] ∷ fits Null [] (r ∷ []) ∷ fits (Int (pos 1)) [] (i ∷ []) ∷ fits (Long (pos 1)) [] (h ∷ l ∷ [])
    ∷ fits (Str (codes "s")) [] (r ∷ [])
    ∷ fits (ILoad 0) [] (i ∷ []) ∷ fits (ALoad 1) [] (r ∷ []) ∷ fits (LLoad 2) [] (h ∷ l ∷ []) ∷ fits (Inc 0 (pos 1)) [] []
    ∷ fits (IStore 0) (i ∷ []) [] ∷ fits (AStore 1) (r ∷ []) [] ∷ fits (LStore 2) (h ∷ l ∷ []) [] ∷ []

abbrev pub fitting_arrays : List Fitting
fitting_arrays =
    fits (ArrayLoad elem.Int) (i ∷ r ∷ []) (i ∷ []) ∷ fits (ArrayLoad elem.Byte) (i ∷ r ∷ []) (i ∷ [])
    ∷ fits (ArrayLoad elem.Char) (i ∷ r ∷ []) (i ∷ [])
    ∷ fits (ArrayLoad elem.Short) (i ∷ r ∷ []) (i ∷ []) ∷ fits (ArrayLoad elem.Ref) (i ∷ r ∷ []) (r ∷ [])
    ∷ fits LArrayLoad (i ∷ r ∷ []) (h ∷ l ∷ [])
    ∷ fits (ArrayStore elem.Int) (i ∷ i ∷ r ∷ []) [] ∷ fits (ArrayStore elem.Ref) (r ∷ i ∷ r ∷ []) []
    ∷ fits LArrayStore (h ∷ l ∷ i ∷ r ∷ []) []
    ∷ fits (NewArray primitive.Long) (i ∷ []) (r ∷ []) ∷ fits (ANewArray (codes "A")) (i ∷ []) (r ∷ [])
    ∷ fits ArrayLength (r ∷ []) (i ∷ []) ∷ []

abbrev pub fitting_moves : List Fitting
fitting_moves =
    fits (Stack move.Pop) (i ∷ []) [] ∷ fits (Stack move.Pop2) (i ∷ r ∷ []) [] ∷ fits (Stack move.Pop2) (h ∷ l ∷ []) []
    ∷ fits (Stack move.Dup) (r ∷ []) (r ∷ r ∷ [])
    ∷ fits (Stack move.DupX1) (i ∷ r ∷ []) (i ∷ r ∷ i ∷ []) ∷ fits (Stack move.DupX2) (i ∷ h ∷ l ∷ []) (i ∷ h ∷ l ∷ i ∷ [])
    ∷ fits (Stack move.DupX2) (i ∷ r ∷ i ∷ []) (i ∷ r ∷ i ∷ i ∷ []) ∷ fits (Stack move.Dup2) (h ∷ l ∷ []) (h ∷ l ∷ h ∷ l ∷ [])
    ∷ fits (Stack move.Dup2) (i ∷ r ∷ []) (i ∷ r ∷ i ∷ r ∷ [])
    ∷ fits (Stack move.Dup2X1) (h ∷ l ∷ r ∷ []) (h ∷ l ∷ r ∷ h ∷ l ∷ [])
    ∷ fits (Stack move.Dup2X2) (i ∷ r ∷ h ∷ l ∷ []) (i ∷ r ∷ h ∷ l ∷ i ∷ r ∷ [])
    ∷ fits (Stack move.Swap) (i ∷ r ∷ []) (r ∷ i ∷ []) ∷ []

abbrev pub fitting_arithmetic : List Fitting
fitting_arithmetic =
    fits (Arith Add) (i ∷ i ∷ []) (i ∷ []) ∷ fits Neg (i ∷ []) (i ∷ []) ∷ fits LNeg (h ∷ l ∷ []) (h ∷ l ∷ [])
    ∷ fits (Narrow narrow.Byte) (i ∷ []) (i ∷ [])
    ∷ fits I2L (i ∷ []) (h ∷ l ∷ []) ∷ fits L2I (h ∷ l ∷ []) (i ∷ []) ∷ fits LCmp (h ∷ l ∷ h ∷ l ∷ []) (i ∷ [])
    ∷ fits (LArith Shl) (i ∷ h ∷ l ∷ []) (h ∷ l ∷ []) ∷ fits (LArith Shr) (i ∷ h ∷ l ∷ []) (h ∷ l ∷ [])
    ∷ fits (LArith Ushr) (i ∷ h ∷ l ∷ []) (h ∷ l ∷ [])
    ∷ map (λ op. fits (LArith op) (h ∷ l ∷ h ∷ l ∷ []) (h ∷ l ∷ [])) (Add ∷ Sub ∷ Mul ∷ Div ∷ Rem ∷ And ∷ Or ∷ Xor ∷ [])

abbrev pub fitting_branches : List Fitting
fitting_branches =
    fits (IfZero Eq 5) (i ∷ []) [] ∷ fits (IfInts Eq 5) (i ∷ i ∷ []) [] ∷ fits (IfSame 5) (r ∷ r ∷ []) []
    ∷ fits (IfOther 5) (r ∷ r ∷ []) []
    ∷ fits (IfNull 5) (r ∷ []) [] ∷ fits (IfNotNull 5) (r ∷ []) [] ∷ fits (Goto 5) [] [] ∷ fits (TableSwitch (pos 1) [] 7) (i ∷ []) []
    ∷ fits (LookupSwitch [] 7) (i ∷ []) [] ∷ fits IReturn (i ∷ []) [] ∷ fits LReturn (h ∷ l ∷ []) [] ∷ fits AReturn (r ∷ []) []
    ∷ fits Return [] []
    ∷ fits Throw (r ∷ []) [] ∷ fits MonitorEnter (r ∷ []) [] ∷ fits MonitorExit (r ∷ []) [] ∷ []

abbrev pub fitting_members : List Fitting
fitting_members =
    fits (GetStatic (of_type (codes "J"))) [] (h ∷ l ∷ []) ∷ fits (GetStatic (of_type (codes "Z"))) [] (i ∷ [])
    ∷ fits (PutStatic (of_type (codes "J"))) (h ∷ l ∷ []) []
    ∷ fits (GetField (of_type (codes "[I"))) (r ∷ []) (r ∷ []) ∷ fits (PutField (of_type (codes "J"))) (h ∷ l ∷ r ∷ []) []
    ∷ fits (InvokeStatic (of_type (codes "(IJLA;)J"))) (r ∷ h ∷ l ∷ i ∷ []) (h ∷ l ∷ [])
    ∷ fits (InvokeStatic (of_type (codes "()V"))) [] []
    ∷ fits (InvokeVirtual (of_type (codes "(J)LA;"))) (h ∷ l ∷ r ∷ []) (r ∷ [])
    ∷ fits (InvokeSpecial (of_type (codes "(I)V"))) (i ∷ r ∷ []) []
    ∷ fits (InvokeInterface (of_type (codes "()I"))) (r ∷ []) (i ∷ []) ∷ fits (New (codes "A")) [] (r ∷ [])
    ∷ fits (CheckCast (codes "A")) (r ∷ []) (r ∷ [])
    ∷ fits (InstanceOf (codes "A")) (r ∷ []) (i ∷ []) ∷ []

abbrev pub worked_locals : List SlotKind
worked_locals = i ∷ r ∷ l ∷ h ∷ u ∷ []

abbrev pub behind_fitting : List Fitting → List KindsAt
behind_fitting rows = map (λ f. after (row_of f.instr) (OfKinds worked_locals f.stack)) rows

abbrev pub expected_behind : List Fitting → List KindsAt
expected_behind rows = map (λ f. OfKinds worked_locals f.behind) rows

-- whether they are misfits where this is how many slots the stack may have less than it then has
abbrev pub misfits : ℕ → List Fitting → List Bool
misfits less rows = map (λ f. is_misfit (length f.behind - less) (row_of f.instr) worked_locals f.stack) rows

-- instructions that don't fit the stacks: an operand is missing, another, unusable, or torn
abbrev pub unfitting : List (Instr × List SlotKind)
unfitting =
    (Stack move.Pop, []) ∷ (Arith Add, i ∷ []) ∷ (LNeg, l ∷ []) ∷ (IStore 0, []) ∷ (Arith Add, i ∷ r ∷ []) ∷ (Arith Add, r ∷ i ∷ [])
    ∷ (Neg, u ∷ []) ∷ (LNeg, i ∷ l ∷ [])
    ∷ (AStore 1, i ∷ []) ∷ (LStore 2, h ∷ i ∷ []) ∷ (ILoad 1, []) ∷ (ALoad 0, []) ∷ (LLoad 3, []) ∷ (ILoad 4, []) ∷ (ALoad 4, [])
    ∷ (LLoad 4, []) ∷ (ILoad 5, []) ∷ (Inc 1 (pos 1), []) ∷ (Inc 4 (pos 1), [])
    ∷ (Stack move.Pop, h ∷ l ∷ []) ∷ (Stack move.Pop, l ∷ []) ∷ (Stack move.Pop, u ∷ []) ∷ (Stack move.Pop2, i ∷ h ∷ l ∷ [])
    ∷ (Stack move.Pop2, l ∷ i ∷ []) ∷ (Stack move.Pop2, i ∷ u ∷ [])
    ∷ (Stack move.Dup, h ∷ l ∷ []) ∷ (Stack move.Swap, i ∷ h ∷ l ∷ []) ∷ (Stack move.DupX1, i ∷ h ∷ l ∷ [])
    ∷ (Stack move.DupX2, i ∷ i ∷ h ∷ l ∷ []) ∷ (Stack move.Dup2X1, h ∷ l ∷ h ∷ l ∷ [])
    ∷ (Stack move.Dup2X2, i ∷ h ∷ l ∷ i ∷ []) ∷ (Stack move.Dup2, i ∷ h ∷ l ∷ []) ∷ (Stack move.Dup2X2, i ∷ i ∷ i ∷ h ∷ l ∷ []) ∷ []

abbrev pub unfitting_misfits : List Bool
unfitting_misfits = map (λ one. is_misfit 9 (row_of one.0) worked_locals one.1) unfitting

-- stores into locals, and the locals behind them
abbrev pub storing : List (Instr × List SlotKind × List SlotKind × List SlotKind)
storing =
    (IStore 1, i ∷ [], l ∷ h ∷ l ∷ h ∷ [], u ∷ i ∷ l ∷ h ∷ []) ∷ (IStore 2, i ∷ [], l ∷ h ∷ l ∷ h ∷ [], l ∷ h ∷ i ∷ u ∷ [])
    ∷ (AStore 0, r ∷ [], l ∷ h ∷ l ∷ h ∷ [], r ∷ u ∷ l ∷ h ∷ []) ∷ (LStore 1, h ∷ l ∷ [], l ∷ h ∷ l ∷ h ∷ [], u ∷ l ∷ h ∷ u ∷ [])
    ∷ (LStore 2, h ∷ l ∷ [], i ∷ r ∷ u ∷ i ∷ r ∷ [], i ∷ r ∷ l ∷ h ∷ r ∷ [])
    ∷ (Inc 1 (pos 1), [], l ∷ h ∷ [], u ∷ i ∷ []) ∷ (Inc 0 (pos 1), [], l ∷ h ∷ [], i ∷ u ∷ [])
    ∷ (Inc 0 (pos 1), [], r ∷ r ∷ [], i ∷ r ∷ []) ∷ []

-- ---- small methods

-- a method, how many rounds it takes, and the offsets of its conflicts
pub record WorkedMethod : Type 0 where
  pub member : Member
  pub code : Code
  pub rounds : ℕ
  pub conflicts : List ℕ

abbrev pub worked : ℕ → List ℕ → ℕ → ℕ → List (ℕ × Instr) → ℕ → List ℕ → WorkedMethod
worked access descriptor max_stack max_locals instrs rounds conflicts = record {
  member = record { access = access; name = codes "m"; descriptor = descriptor; constant = None; code = None };
  code = record { max_stack = max_stack; max_locals = max_locals; instrs = instrs; handlers = 0 };
  rounds = rounds;
  conflicts = conflicts;
}

-- a static method, which takes nothing and gives nothing
abbrev pub plain : ℕ → ℕ → List (ℕ × Instr) → List ℕ → WorkedMethod
plain max_stack max_locals instrs conflicts = worked 8 (codes "()V") max_stack max_locals instrs 2 conflicts

abbrev pub super_ref : MemberRef
super_ref = record { owner = codes "B"; name = codes "<init>"; descriptor = codes "()V" }

-- calls the superclass's constructor, with room for this many slots
abbrev pub constructing : ℕ → Instr → List ℕ → WorkedMethod
constructing max_stack last conflicts =
    worked 1 (codes "()V") max_stack 1 ((0, ALoad 0) ∷ (1, InvokeSpecial super_ref) ∷ (4, last) ∷ []) 1 conflicts

abbrev pub straight_methods : List WorkedMethod
straight_methods =
    constructing 1 Return [] ∷ constructing 0 Return (0 ∷ []) ∷ constructing 1 IReturn (4 ∷ [])
    -- half of a long is popped
    ∷ worked 1 (codes "(LA;)V") 2 2 ((0, Long (pos 0)) ∷ (1, Stack move.Pop) ∷ (2, Return) ∷ []) 1 (1 ∷ [])
    -- the kinds go on behind a wrong operand as they always do
    ∷ plain 1 0 ((0, Null) ∷ (1, Neg) ∷ (2, Stack move.Pop) ∷ (3, Return) ∷ []) (1 ∷ [])
    -- and behind a stack that is too deep
    ∷ plain 1 0 ((0, Int (pos 0)) ∷ (1, Int (pos 0)) ∷ (2, Stack move.Pop2) ∷ (3, Return) ∷ []) (1 ∷ [])
    -- nothing is said of what no path reaches
    ∷ plain 0 0 ((0, Return) ∷ (1, Stack move.Pop) ∷ (2, Return) ∷ []) []
    -- arguments
    ∷ worked 8 (codes "(J)V") 0 1 ((0, Nop) ∷ (1, Return) ∷ []) 1 (0 ∷ []) ∷ worked 8 (codes "(J)V") 0 2 ((0, Return) ∷ []) 1 []
    ∷ worked 0 (codes "(J)V") 0 2 ((0, Return) ∷ []) 1 (0 ∷ [])
    ∷ worked 0 (codes "(I[J)V") 1 3 ((0, ALoad 0) ∷ (1, Stack move.Pop) ∷ (2, ILoad 1) ∷ (3, Stack move.Pop) ∷ (4, ALoad 2)
    ∷ (5, Stack move.Pop) ∷ (6, Return) ∷ []) 1 []
    -- a local into which nothing is stored, and an argument's half
    ∷ worked 8 (codes "(J)V") 1 3 ((0, ILoad 2) ∷ (1, Stack move.Pop) ∷ (2, ILoad 1) ∷ (3, Stack move.Pop) ∷ (4, Return) ∷ []) 1 (0
    ∷ 2 ∷ [])
    -- a long of which half is stored over
    ∷ worked 8 (codes "(J)V") 2 2 ((0, Int (pos 0)) ∷ (1, IStore 1) ∷ (2, LLoad 0) ∷ (3, Stack move.Pop2) ∷ (4, Return) ∷ []) 1 (2
    ∷ []) ∷ []

-- the last instruction, where the method gives this
abbrev pub returning : List ℕ → List ℕ → Instr → Instr → WorkedMethod
returning descriptor conflicts first last = worked 8 descriptor 2 0 ((0, first) ∷ (1, last) ∷ []) 1 conflicts

abbrev pub returning_methods : List WorkedMethod
returning_methods =
    returning (codes "()I") [] (Int (pos 0)) IReturn ∷ returning (codes "()Z") [] (Int (pos 0)) IReturn
    ∷ returning (codes "()J") [] (Long (pos 0)) LReturn ∷ returning (codes "()[I") [] Null AReturn
    ∷ returning (codes "()V") [] Nop Return ∷ returning (codes "()I") (1 ∷ []) Nop Return
    ∷ returning (codes "()V") (1 ∷ []) (Int (pos 0)) IReturn ∷ returning (codes "()J") (1 ∷ []) (Int (pos 0)) IReturn
    ∷ returning (codes "()LA;") (1 ∷ []) (Int (pos 0)) IReturn ∷ returning (codes "()I") (1 ∷ []) (Long (pos 0)) LReturn
    ∷ returning (codes "()V") (1 ∷ []) Null AReturn
    ∷ returning (codes "()I") [] Null Throw ∷ []

abbrev pub merging_methods : List WorkedMethod
merging_methods =
    -- two kinds come to a local, which is used or not
    worked 8 (codes "(I)V") 1 1 ((0, ILoad 0) ∷ (1, IfZero Eq 6) ∷ (4, Null) ∷ (5, AStore 0) ∷ (6, ILoad 0) ∷ (7, Stack move.Pop)
    ∷ (8, Return) ∷ []) 1 (6 ∷ [])
    ∷ worked 8 (codes "(I)V") 1 1 ((0, ILoad 0) ∷ (1, IfZero Eq 6) ∷ (4, Null) ∷ (5, AStore 0) ∷ (6, Return) ∷ []) 1 []
    -- or to the stack
    ∷ worked 8 (codes "(I)V") 2 1 ((0, Int (pos 0)) ∷ (1, ILoad 0) ∷ (2, IfZero Eq 7) ∷ (5, Stack move.Pop) ∷ (6, Null)
    ∷ (7, Stack move.Pop) ∷ (8, Return) ∷ []) 1 (7 ∷ [])
    ∷ worked 8 (codes "(I)V") 2 1 ((0, Int (pos 0)) ∷ (1, ILoad 0) ∷ (2, IfZero Eq 7) ∷ (5, Stack move.Pop) ∷ (6, Null) ∷ (7, Return)
    ∷ []) 1 []
    -- depths differ, and so they do behind it
    ∷ worked 8 (codes "(I)V") 1 1 ((0, ILoad 0) ∷ (1, IfZero Eq 5) ∷ (4, Null) ∷ (5, Nop) ∷ (6, Return) ∷ []) 1 (5 ∷ 6 ∷ [])
    -- behind a missing operand no kinds go on: the instructions there are conflicts, though they stand before it
    ∷ plain 1 0 ((0, Goto 5) ∷ (3, Nop) ∷ (4, Return) ∷ (5, Stack move.Pop) ∷ (6, Goto 3) ∷ []) (3 ∷ 4 ∷ 5 ∷ 6 ∷ [])
    -- a loop whose second round finds what the first one doesn't
    ∷ plain 1 1 ((0, Int (pos 0)) ∷ (1, IStore 0) ∷ (2, ILoad 0) ∷ (3, IfZero Eq 11) ∷ (6, Null) ∷ (7, AStore 0) ∷ (8, Goto 2)
    ∷ (11, Return) ∷ []) (2 ∷ [])
    ∷ plain 1 1 ((0, Int (pos 0)) ∷ (1, IStore 0) ∷ (2, ILoad 0) ∷ (3, IfZero Eq 12) ∷ (6, Inc 0 (pos 1)) ∷ (9, Goto 2)
    ∷ (12, Return) ∷ []) []
    -- a loop that pushes
    ∷ plain 9 0 ((0, Null) ∷ (1, Goto 0) ∷ []) (0 ∷ 1 ∷ [])
    -- a switch whose keys lead to different kinds
    ∷ worked 8 (codes "(I)I") 1 2 ((0, ILoad 0) ∷ (1, LookupSwitch ((pos 1, 20) ∷ (pos 2, 24) ∷ []) 24) ∷ (20, Int (pos 5))
    ∷ (21, IStore 1) ∷ (22, Goto 26) ∷ (24, Int (pos 7)) ∷ (25, IStore 1) ∷ (26, ILoad 1) ∷ (27, IReturn) ∷ []) 1 []
    -- a choice of two values
    ∷ worked 8 (codes "(I)LA;") 1 1 ((0, ILoad 0) ∷ (1, IfZero Eq 8) ∷ (4, Null) ∷ (5, Goto 11) ∷ (8, New (codes "A"))
    ∷ (11, AReturn) ∷ []) 1 [] ∷ []

abbrev pub are_settled : List WorkedMethod → List Bool
are_settled methods = map (λ w. is_closed_table w.member w.code (known_at (after_rounds w.member w.code w.rounds))) methods

abbrev pub found_conflicts : List WorkedMethod → List (List ℕ)
found_conflicts methods = map (λ w. conflict_offsets w.member w.code (known_at (after_rounds w.member w.code w.rounds))) methods

-- longs that meet in locals, and a stack with a long: what is known before each instruction
abbrev pub long_method : WorkedMethod
long_method =
    worked 8 (codes "(JI)V") 3 4
    ((0, ILoad 2) ∷ (1, IfZero Eq 7) ∷ (4, LLoad 0) ∷ (5, LStore 2) ∷ (6, Nop) ∷ (7, LLoad 0) ∷ (8, LStore 1) ∷ (9, Return) ∷ []) 1 []

abbrev pub long_table : List (ℕ × KindsAt)
long_table =
    (0, OfKinds (l ∷ h ∷ i ∷ u ∷ []) []) ∷ (1, OfKinds (l ∷ h ∷ i ∷ u ∷ []) (i ∷ [])) ∷ (4, OfKinds (l ∷ h ∷ i ∷ u ∷ []) [])
    ∷ (5, OfKinds (l ∷ h ∷ i ∷ u ∷ []) (h ∷ l ∷ [])) ∷ (6, OfKinds (l ∷ h ∷ l ∷ h ∷ []) []) ∷ (7, OfKinds (l ∷ h ∷ u ∷ u ∷ []) [])
    ∷ (8, OfKinds (l ∷ h ∷ u ∷ u ∷ []) (h ∷ l ∷ [])) ∷ (9, OfKinds (u ∷ l ∷ h ∷ u ∷ []) []) ∷ []

-- ---- whole answers

abbrev pub half_popped : WorkedMethod
half_popped = worked 1 (codes "(LA;)V") 2 2 ((0, Long (pos 0)) ∷ (1, Stack move.Pop) ∷ (2, Return) ∷ []) 1 (1 ∷ [])

abbrev pub constructor : WorkedMethod
constructor = constructing 1 Return []

abbrev pub constructor_kinds : List KindsBefore
constructor_kinds =
    record { offset = 0; locals = r ∷ []; stack = [] } ∷ record { offset = 1; locals = r ∷ []; stack = r ∷ [] }
    ∷ record { offset = 4; locals = r ∷ []; stack = [] } ∷ []

abbrev pub table_in_rounds : WorkedMethod → ℕ → KindsAt
table_in_rounds w offset = known_at (after_rounds w.member w.code w.rounds) offset

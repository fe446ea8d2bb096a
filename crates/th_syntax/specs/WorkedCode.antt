-- Code that is worked out in full: each opcode of the profile once or more, with the instruction that it
-- stands for, and code arrays that are refused.
use Rattle.std.specs.Prelude.{ℕ, ◌+◌, List, [], ◌∷◌, length, map, codes, Bool, true, false, Option, Some, None, pos, negsuc}
use Rattle.std.specs.List.{concat}
use Rattle.th_base.specs.declared.operation.Elem.TheVariants as elem
use Rattle.th_base.specs.declared.operation.ArithOp.TheVariants.{Add, Sub, Mul, Div, Rem, Shl, Shr, Ushr, And, Or, Xor}
use Rattle.th_base.specs.declared.operation.NarrowOp.TheVariants as narrow
use Rattle.th_base.specs.declared.operation.Relation.TheVariants.{Eq, Ne, Lt, Ge, Gt, Le}
use Rattle.th_syntax.specs.declared.instr.StackOp.TheVariants as stack
use Rattle.th_syntax.specs.declared.instr.Primitive.TheVariants as primitive
use Rattle.th_syntax.specs.declared.instr.MemberRef.{MemberRef}
use Rattle.th_syntax.specs.declared.instr.Instr.{Instr}
use Rattle.th_syntax.specs.declared.instr.Instr.TheVariants.{Nop, Null, Int, Long, Str, ILoad, LLoad, ALoad, IStore, LStore, AStore, ArrayLoad, LArrayLoad, ArrayStore, LArrayStore, Stack, Arith, LArith, Neg, LNeg, Inc, Narrow, I2L, L2I, LCmp, IfZero, IfInts, IfSame, IfOther, IfNull, IfNotNull, Goto, TableSwitch, LookupSwitch, IReturn, LReturn, AReturn, Return, GetStatic, PutStatic, GetField, PutField, InvokeVirtual, InvokeSpecial, InvokeInterface, InvokeStatic, New, NewArray, ANewArray, ArrayLength, Throw, CheckCast, InstanceOf, MonitorEnter, MonitorExit}
use Rattle.th_syntax.specs.declared.cause.TheConstants as cause
use Rattle.th_syntax.specs.declared.refusal.Flaw.{Flaw}
use Rattle.th_syntax.specs.Flaws.{flaw_at}
use Rattle.th_syntax.specs.Forms.{Placed}
use Rattle.th_syntax.specs.ClassBytes.{RawCode, Entry, utf8, integer, float, long, double, class, string, field, method, interface_method, name_and_type, method_handle, method_type, invoke_dynamic, Pool}

-- ---- a pool with an entry of each tag

-- the bytes of its entries, from index 1 on
abbrev pub worked_entries : List (List ℕ)
worked_entries =
    (1 ∷ 0 ∷ 1 ∷ codes "A")
    ∷ (7 ∷ 0 ∷ 1 ∷ [])
    ∷ (3 ∷ 255 ∷ 255 ∷ 255 ∷ 254 ∷ [])
    ∷ (4 ∷ 0 ∷ 0 ∷ 0 ∷ 0 ∷ [])
    ∷ (5 ∷ 255 ∷ 255 ∷ 255 ∷ 255 ∷ 255 ∷ 255 ∷ 255 ∷ 253 ∷ [])
    ∷ (6 ∷ 0 ∷ 0 ∷ 0 ∷ 0 ∷ 0 ∷ 0 ∷ 0 ∷ 0 ∷ [])
    ∷ (8 ∷ 0 ∷ 1 ∷ [])
    ∷ (1 ∷ 0 ∷ 1 ∷ codes "I")
    ∷ (1 ∷ 0 ∷ 3 ∷ codes "()V")
    ∷ (12 ∷ 0 ∷ 1 ∷ 0 ∷ 10 ∷ [])
    ∷ (12 ∷ 0 ∷ 1 ∷ 0 ∷ 11 ∷ [])
    ∷ (9 ∷ 0 ∷ 2 ∷ 0 ∷ 12 ∷ [])
    ∷ (10 ∷ 0 ∷ 2 ∷ 0 ∷ 13 ∷ [])
    ∷ (11 ∷ 0 ∷ 2 ∷ 0 ∷ 13 ∷ [])
    ∷ (15 ∷ 1 ∷ 0 ∷ 1 ∷ [])
    ∷ (16 ∷ 0 ∷ 1 ∷ [])
    ∷ (18 ∷ 0 ∷ 1 ∷ 0 ∷ 1 ∷ [])
    ∷ (1 ∷ 0 ∷ 6 ∷ codes "<init>")
    ∷ (12 ∷ 0 ∷ 20 ∷ 0 ∷ 11 ∷ [])
    ∷ (10 ∷ 0 ∷ 2 ∷ 0 ∷ 21 ∷ [])
    ∷ (1 ∷ 0 ∷ 2 ∷ codes "[F")
    ∷ (7 ∷ 0 ∷ 23 ∷ [])
    ∷ (1 ∷ 0 ∷ 1 ∷ codes "F")
    ∷ (12 ∷ 0 ∷ 1 ∷ 0 ∷ 25 ∷ [])
    ∷ (9 ∷ 0 ∷ 2 ∷ 0 ∷ 26 ∷ [])
    ∷ (1 ∷ 0 ∷ 3 ∷ codes "a.b")
    ∷ (7 ∷ 0 ∷ 28 ∷ [])
    ∷ (1 ∷ 0 ∷ 2 ∷ codes "[I")
    ∷ (7 ∷ 0 ∷ 30 ∷ [])
    ∷ (1 ∷ 0 ∷ 3 ∷ codes "a/b")
    ∷ (12 ∷ 0 ∷ 28 ∷ 0 ∷ 10 ∷ [])
    ∷ (9 ∷ 0 ∷ 2 ∷ 0 ∷ 33 ∷ [])
    ∷ (9 ∷ 0 ∷ 2 ∷ 0 ∷ 13 ∷ [])
    ∷ (9 ∷ 0 ∷ 31 ∷ 0 ∷ 12 ∷ [])
    ∷ (10 ∷ 0 ∷ 31 ∷ 0 ∷ 13 ∷ [])
    ∷ (12 ∷ 0 ∷ 32 ∷ 0 ∷ 11 ∷ [])
    ∷ (10 ∷ 0 ∷ 2 ∷ 0 ∷ 38 ∷ [])
    ∷ (10 ∷ 0 ∷ 2 ∷ 0 ∷ 12 ∷ [])
    ∷ (11 ∷ 0 ∷ 2 ∷ 0 ∷ 21 ∷ [])
    ∷ (1 ∷ 0 ∷ 0 ∷ [])
    ∷ (7 ∷ 0 ∷ 42 ∷ [])
    ∷ (10 ∷ 0 ∷ 29 ∷ 0 ∷ 13 ∷ [])
    ∷ (1 ∷ 0 ∷ 3 ∷ codes "a<b")
    ∷ (12 ∷ 0 ∷ 45 ∷ 0 ∷ 10 ∷ [])
    ∷ (9 ∷ 0 ∷ 2 ∷ 0 ∷ 46 ∷ [])
    ∷ []

-- the bytes of the pool, from its count on
abbrev pub worked_pool_bytes : List ℕ
worked_pool_bytes = 0 ∷ 48 ∷ concat worked_entries

abbrev pub entry_at : ℕ → Entry → Option (Placed Entry)
entry_at at entry = Some (record { at = at; value = entry })

-- what its indices lead to, where its count stands at the offset 8 of a file
abbrev pub worked_pool : Pool
worked_pool =
    None
    ∷ entry_at 10 (utf8 (codes "A"))
    ∷ entry_at 14 (class 1)
    ∷ entry_at 17 (integer (negsuc 1))
    ∷ entry_at 22 float
    ∷ entry_at 27 (long (negsuc 2))
    ∷ None
    ∷ entry_at 36 double
    ∷ None
    ∷ entry_at 45 (string 1)
    ∷ entry_at 48 (utf8 (codes "I"))
    ∷ entry_at 52 (utf8 (codes "()V"))
    ∷ entry_at 58 (name_and_type 1 10)
    ∷ entry_at 63 (name_and_type 1 11)
    ∷ entry_at 68 (field 2 12)
    ∷ entry_at 73 (method 2 13)
    ∷ entry_at 78 (interface_method 2 13)
    ∷ entry_at 83 method_handle
    ∷ entry_at 87 method_type
    ∷ entry_at 90 invoke_dynamic
    ∷ entry_at 95 (utf8 (codes "<init>"))
    ∷ entry_at 104 (name_and_type 20 11)
    ∷ entry_at 109 (method 2 21)
    ∷ entry_at 114 (utf8 (codes "[F"))
    ∷ entry_at 119 (class 23)
    ∷ entry_at 122 (utf8 (codes "F"))
    ∷ entry_at 126 (name_and_type 1 25)
    ∷ entry_at 131 (field 2 26)
    ∷ entry_at 136 (utf8 (codes "a.b"))
    ∷ entry_at 142 (class 28)
    ∷ entry_at 145 (utf8 (codes "[I"))
    ∷ entry_at 150 (class 30)
    ∷ entry_at 153 (utf8 (codes "a/b"))
    ∷ entry_at 159 (name_and_type 28 10)
    ∷ entry_at 164 (field 2 33)
    ∷ entry_at 169 (field 2 13)
    ∷ entry_at 174 (field 31 12)
    ∷ entry_at 179 (method 31 13)
    ∷ entry_at 184 (name_and_type 32 11)
    ∷ entry_at 189 (method 2 38)
    ∷ entry_at 194 (method 2 12)
    ∷ entry_at 199 (interface_method 2 21)
    ∷ entry_at 204 (utf8 [])
    ∷ entry_at 207 (class 42)
    ∷ entry_at 210 (method 29 13)
    ∷ entry_at 215 (utf8 (codes "a<b"))
    ∷ entry_at 221 (name_and_type 45 10)
    ∷ entry_at 226 (field 2 46)
    ∷ []

-- the tags of the entries at these indices, and at 0, 6 and 48, which lead to nothing
abbrev pub worked_tags : List (ℕ × Option ℕ)
worked_tags =
    (0, None) ∷ (1, Some 1) ∷ (2, Some 7) ∷ (3, Some 3) ∷ (4, Some 4) ∷ (5, Some 5) ∷ (6, None) ∷ (7, Some 6) ∷ (9, Some 8) ∷ (12, Some 12)
    ∷ (14, Some 9)
    ∷ (15, Some 10) ∷ (16, Some 11) ∷ (17, Some 15) ∷ (18, Some 16) ∷ (19, Some 18) ∷ (48, None) ∷ []

-- entries, and whether each of them would lead to entries of the right tags
abbrev pub worked_references : List (Entry × Bool)
worked_references =
    (class 1, true) ∷ (class 2, false) ∷ (class 99, false) ∷ (string 1, true) ∷ (string 3, false)
    ∷ (field 2 12, true) ∷ (field 1 12, false) ∷ (field 2 2, false)
    ∷ (method 2 13, true) ∷ (method 12 13, false) ∷ (method 2 1, false)
    ∷ (interface_method 2 13, true) ∷ (interface_method 12 13, false) ∷ (interface_method 2 1, false)
    ∷ (name_and_type 1 10, true) ∷ (name_and_type 2 10, false) ∷ (name_and_type 1 2, false)
    ∷ (integer (pos 0), true) ∷ (method_handle, true) ∷ (method_type, true) ∷ (invoke_dynamic, true) ∷ []

-- ---- each opcode

abbrev pub field_a : MemberRef
field_a = record { owner = codes "A"; name = codes "A"; descriptor = codes "I" }

abbrev pub method_a : MemberRef
method_a = record { owner = codes "A"; name = codes "A"; descriptor = codes "()V" }

abbrev pub constructor_a : MemberRef
constructor_a = record { owner = codes "A"; name = codes "<init>"; descriptor = codes "()V" }

abbrev pub array_method : MemberRef
array_method = record { owner = codes "[I"; name = codes "A"; descriptor = codes "()V" }

-- the bytes of instructions, one behind the other, and what they stand for
abbrev pub worked_instrs : List (List ℕ × Instr)
worked_instrs =
    (0 ∷ [], Nop) ∷ (1 ∷ [], Null) ∷ (2 ∷ [], Int (negsuc 0)) ∷ (3 ∷ [], Int (pos 0)) ∷ (4 ∷ [], Int (pos 1)) ∷
    (5 ∷ [], Int (pos 2)) ∷ (6 ∷ [], Int (pos 3)) ∷ (7 ∷ [], Int (pos 4)) ∷ (8 ∷ [], Int (pos 5)) ∷ (9 ∷ [], Long (pos 0)) ∷
    (10 ∷ [], Long (pos 1)) ∷ (16 ∷ 254 ∷ [], Int (negsuc 1)) ∷ (17 ∷ 1 ∷ 0 ∷ [], Int (pos 256)) ∷
    (18 ∷ 3 ∷ [], Int (negsuc 1)) ∷ (18 ∷ 9 ∷ [], Str (codes "A")) ∷ (19 ∷ 0 ∷ 3 ∷ [], Int (negsuc 1)) ∷
    (20 ∷ 0 ∷ 5 ∷ [], Long (negsuc 2)) ∷ (21 ∷ 7 ∷ [], ILoad 7) ∷ (22 ∷ 7 ∷ [], LLoad 7) ∷ (25 ∷ 7 ∷ [], ALoad 7) ∷
    (26 ∷ [], ILoad 0) ∷ (27 ∷ [], ILoad 1) ∷ (28 ∷ [], ILoad 2) ∷ (29 ∷ [], ILoad 3) ∷ (30 ∷ [], LLoad 0) ∷
    (31 ∷ [], LLoad 1) ∷ (32 ∷ [], LLoad 2) ∷ (33 ∷ [], LLoad 3) ∷ (42 ∷ [], ALoad 0) ∷ (43 ∷ [], ALoad 1) ∷
    (44 ∷ [], ALoad 2) ∷ (45 ∷ [], ALoad 3) ∷ (46 ∷ [], ArrayLoad elem.Int) ∷ (47 ∷ [], LArrayLoad) ∷
    (50 ∷ [], ArrayLoad elem.Ref) ∷ (51 ∷ [], ArrayLoad elem.Byte) ∷ (52 ∷ [], ArrayLoad elem.Char) ∷
    (53 ∷ [], ArrayLoad elem.Short) ∷ (54 ∷ 7 ∷ [], IStore 7) ∷ (55 ∷ 7 ∷ [], LStore 7) ∷ (58 ∷ 7 ∷ [], AStore 7) ∷
    (59 ∷ [], IStore 0) ∷ (60 ∷ [], IStore 1) ∷ (61 ∷ [], IStore 2) ∷ (62 ∷ [], IStore 3) ∷ (63 ∷ [], LStore 0) ∷
    (64 ∷ [], LStore 1) ∷ (65 ∷ [], LStore 2) ∷ (66 ∷ [], LStore 3) ∷ (75 ∷ [], AStore 0) ∷ (76 ∷ [], AStore 1) ∷
    (77 ∷ [], AStore 2) ∷ (78 ∷ [], AStore 3) ∷ (79 ∷ [], ArrayStore elem.Int) ∷ (80 ∷ [], LArrayStore) ∷
    (83 ∷ [], ArrayStore elem.Ref) ∷ (84 ∷ [], ArrayStore elem.Byte) ∷ (85 ∷ [], ArrayStore elem.Char) ∷
    (86 ∷ [], ArrayStore elem.Short) ∷ (87 ∷ [], Stack stack.Pop) ∷ (88 ∷ [], Stack stack.Pop2) ∷
    (89 ∷ [], Stack stack.Dup) ∷ (90 ∷ [], Stack stack.DupX1) ∷ (91 ∷ [], Stack stack.DupX2) ∷ (92 ∷ [], Stack stack.Dup2) ∷
    (93 ∷ [], Stack stack.Dup2X1) ∷ (94 ∷ [], Stack stack.Dup2X2) ∷ (95 ∷ [], Stack stack.Swap) ∷ (96 ∷ [], Arith Add) ∷
    (97 ∷ [], LArith Add) ∷ (100 ∷ [], Arith Sub) ∷ (101 ∷ [], LArith Sub) ∷ (104 ∷ [], Arith Mul) ∷ (105 ∷ [], LArith Mul) ∷
    (108 ∷ [], Arith Div) ∷ (109 ∷ [], LArith Div) ∷ (112 ∷ [], Arith Rem) ∷ (113 ∷ [], LArith Rem) ∷ (116 ∷ [], Neg) ∷
    (117 ∷ [], LNeg) ∷ (120 ∷ [], Arith Shl) ∷ (121 ∷ [], LArith Shl) ∷ (122 ∷ [], Arith Shr) ∷ (123 ∷ [], LArith Shr) ∷
    (124 ∷ [], Arith Ushr) ∷ (125 ∷ [], LArith Ushr) ∷ (126 ∷ [], Arith And) ∷ (127 ∷ [], LArith And) ∷
    (128 ∷ [], Arith Or) ∷ (129 ∷ [], LArith Or) ∷ (130 ∷ [], Arith Xor) ∷ (131 ∷ [], LArith Xor) ∷
    (132 ∷ 7 ∷ 255 ∷ [], Inc 7 (negsuc 0)) ∷ (133 ∷ [], I2L) ∷ (136 ∷ [], L2I) ∷ (145 ∷ [], Narrow narrow.Byte) ∷
    (146 ∷ [], Narrow narrow.Char) ∷ (147 ∷ [], Narrow narrow.Short) ∷ (148 ∷ [], LCmp) ∷ (153 ∷ 0 ∷ 3 ∷ [], IfZero Eq 119) ∷
    (154 ∷ 0 ∷ 3 ∷ [], IfZero Ne 122) ∷ (155 ∷ 0 ∷ 3 ∷ [], IfZero Lt 125) ∷ (156 ∷ 0 ∷ 3 ∷ [], IfZero Ge 128) ∷
    (157 ∷ 0 ∷ 3 ∷ [], IfZero Gt 131) ∷ (158 ∷ 0 ∷ 3 ∷ [], IfZero Le 134) ∷ (159 ∷ 0 ∷ 3 ∷ [], IfInts Eq 137) ∷
    (160 ∷ 0 ∷ 3 ∷ [], IfInts Ne 140) ∷ (161 ∷ 0 ∷ 3 ∷ [], IfInts Lt 143) ∷ (162 ∷ 0 ∷ 3 ∷ [], IfInts Ge 146) ∷
    (163 ∷ 0 ∷ 3 ∷ [], IfInts Gt 149) ∷ (164 ∷ 0 ∷ 3 ∷ [], IfInts Le 152) ∷ (165 ∷ 0 ∷ 3 ∷ [], IfSame 155) ∷
    (166 ∷ 0 ∷ 3 ∷ [], IfOther 158) ∷ (198 ∷ 0 ∷ 3 ∷ [], IfNull 161) ∷ (199 ∷ 0 ∷ 3 ∷ [], IfNotNull 164) ∷
    (167 ∷ 255 ∷ 92 ∷ [], Goto 0) ∷ (
      170 ∷ 255 ∷ 255 ∷ 255 ∷ 89 ∷ 255 ∷ 255 ∷ 255 ∷ 255 ∷ 0 ∷ 0 ∷ 0 ∷ 1 ∷ 0 ∷ 0 ∷ 0 ∷ 0 ∷ 255 ∷ 255 ∷ 255 ∷ 89 ∷ 0 ∷ 0 ∷ 0 ∷ 0 ∷ [],
      TableSwitch (negsuc 0) (167 ∷ 0 ∷ 167 ∷ []) 0,
    ) ∷ (
      171 ∷ 9 ∷ 9 ∷ 9 ∷ 255 ∷ 255 ∷ 255 ∷ 64 ∷ 0 ∷ 0 ∷ 0 ∷ 2 ∷ 255 ∷ 255 ∷ 255 ∷ 251 ∷ 0 ∷ 0 ∷ 0 ∷ 0 ∷ 0 ∷ 0 ∷ 0 ∷ 7 ∷ 255 ∷ 255 ∷ 255 ∷ 64
          ∷ [],
      LookupSwitch ((negsuc 4, 192) ∷ (pos 7, 0) ∷ []) 0,
    ) ∷
    (172 ∷ [], IReturn) ∷ (173 ∷ [], LReturn) ∷ (176 ∷ [], AReturn) ∷ (177 ∷ [], Return) ∷
    (178 ∷ 0 ∷ 14 ∷ [], GetStatic field_a) ∷ (179 ∷ 0 ∷ 14 ∷ [], PutStatic field_a) ∷ (180 ∷ 0 ∷ 14 ∷ [], GetField field_a) ∷
    (181 ∷ 0 ∷ 14 ∷ [], PutField field_a) ∷ (182 ∷ 0 ∷ 15 ∷ [], InvokeVirtual method_a) ∷
    (183 ∷ 0 ∷ 22 ∷ [], InvokeSpecial constructor_a) ∷ (183 ∷ 0 ∷ 16 ∷ [], InvokeSpecial method_a) ∷
    (184 ∷ 0 ∷ 15 ∷ [], InvokeStatic method_a) ∷ (184 ∷ 0 ∷ 16 ∷ [], InvokeStatic method_a) ∷
    (185 ∷ 0 ∷ 16 ∷ 9 ∷ 0 ∷ [], InvokeInterface method_a) ∷ (187 ∷ 0 ∷ 2 ∷ [], New (codes "A")) ∷
    (188 ∷ 4 ∷ [], NewArray primitive.Boolean) ∷ (188 ∷ 5 ∷ [], NewArray primitive.Char) ∷
    (188 ∷ 8 ∷ [], NewArray primitive.Byte) ∷ (188 ∷ 9 ∷ [], NewArray primitive.Short) ∷
    (188 ∷ 10 ∷ [], NewArray primitive.Int) ∷ (188 ∷ 11 ∷ [], NewArray primitive.Long) ∷
    (189 ∷ 0 ∷ 2 ∷ [], ANewArray (codes "A")) ∷ (189 ∷ 0 ∷ 31 ∷ [], ANewArray (codes "[I")) ∷ (190 ∷ [], ArrayLength) ∷
    (191 ∷ [], Throw) ∷ (192 ∷ 0 ∷ 2 ∷ [], CheckCast (codes "A")) ∷ (192 ∷ 0 ∷ 31 ∷ [], CheckCast (codes "[I")) ∷
    (193 ∷ 0 ∷ 2 ∷ [], InstanceOf (codes "A")) ∷
    (193 ∷ 0 ∷ 31 ∷ [], InstanceOf (codes "[I")) ∷ (182 ∷ 0 ∷ 37 ∷ [], InvokeVirtual array_method) ∷ (194 ∷ [], MonitorEnter)
    ∷ (195 ∷ [], MonitorExit) ∷
    (196 ∷ 21 ∷ 1 ∷ 2 ∷ [], ILoad 258) ∷ (196 ∷ 22 ∷ 1 ∷ 2 ∷ [], LLoad 258) ∷ (196 ∷ 25 ∷ 1 ∷ 2 ∷ [], ALoad 258) ∷
    (196 ∷ 54 ∷ 1 ∷ 2 ∷ [], IStore 258) ∷ (196 ∷ 55 ∷ 1 ∷ 2 ∷ [], LStore 258) ∷ (196 ∷ 58 ∷ 1 ∷ 2 ∷ [], AStore 258) ∷
    (196 ∷ 132 ∷ 1 ∷ 2 ∷ 255 ∷ 0 ∷ [], Inc 258 (negsuc 255)) ∷ (200 ∷ 0 ∷ 0 ∷ 0 ∷ 5 ∷ [], Goto 331) ∷ (177 ∷ [], Return) ∷ []

-- the instructions, each with its offset, where the first one stands at `pc`
abbrev pub placed_from : ℕ → List (List ℕ × Instr) → List (ℕ × Instr)
placed_from pc [] = []
placed_from pc (one ∷ more) = (pc, one.1) ∷ placed_from (pc + length one.0) more

abbrev pub worked_code : List ℕ
worked_code = concat (map (λ one. one.0) worked_instrs)

-- ---- code that is refused

-- the bytes of a code array of a method with two local variables, and its first flaw, where the array
-- stands at the offset 100 of a file
abbrev pub refused_codes : List (List ℕ × Flaw)
refused_codes =
    -- opcodes that aren't of the profile: fload, jsr, and one that there isn't
    (0 ∷ 23 ∷ 0 ∷ 177 ∷ [], flaw_at cause.OPCODE 101)
    ∷ (168 ∷ 0 ∷ 3 ∷ 177 ∷ [], flaw_at cause.OPCODE 100)
    ∷ (203 ∷ [], flaw_at cause.OPCODE 100)
    -- wide before an opcode that it doesn't widen, and at the end
    ∷ (196 ∷ 0 ∷ 177 ∷ [], flaw_at cause.OPCODE 100)
    ∷ (196 ∷ [], flaw_at cause.CODE_SHAPE 100)
    -- ldc of a Class, of a Long, of nothing, and of a Float
    ∷ (18 ∷ 2 ∷ 177 ∷ [], flaw_at cause.OPCODE 100)
    ∷ (18 ∷ 5 ∷ 177 ∷ [], flaw_at cause.OPCODE 100)
    ∷ (18 ∷ 99 ∷ 177 ∷ [], flaw_at cause.OPCODE 100)
    ∷ (18 ∷ 4 ∷ 177 ∷ [], flaw_at cause.FLOAT_TYPE 100)
    -- ldc2_w of an Integer, of nothing, and of a Double
    ∷ (20 ∷ 0 ∷ 99 ∷ 177 ∷ [], flaw_at cause.OPCODE 100)
    ∷ (20 ∷ 0 ∷ 3 ∷ 177 ∷ [], flaw_at cause.OPCODE 100)
    ∷ (20 ∷ 0 ∷ 7 ∷ 177 ∷ [], flaw_at cause.FLOAT_TYPE 100)
    -- operands that go past the code
    ∷ (0 ∷ 17 ∷ 1 ∷ [], flaw_at cause.CODE_SHAPE 101)
    -- getfield of a Methodref, calls of a Fieldref, and of a method of a class or an interface in place of the other
    ∷ (180 ∷ 0 ∷ 15 ∷ 177 ∷ [], flaw_at cause.CODE_SHAPE 100)
    ∷ (184 ∷ 0 ∷ 14 ∷ 177 ∷ [], flaw_at cause.CODE_SHAPE 100)
    ∷ (182 ∷ 0 ∷ 16 ∷ 177 ∷ [], flaw_at cause.CODE_SHAPE 100)
    ∷ (185 ∷ 0 ∷ 15 ∷ 1 ∷ 0 ∷ 177 ∷ [], flaw_at cause.CODE_SHAPE 100)
    -- new of a String entry, of an array, and of an ill-formed name
    ∷ (187 ∷ 0 ∷ 9 ∷ 177 ∷ [], flaw_at cause.CODE_SHAPE 100)
    ∷ (187 ∷ 0 ∷ 31 ∷ 177 ∷ [], flaw_at cause.NAME 100)
    ∷ (189 ∷ 0 ∷ 29 ∷ 177 ∷ [], flaw_at cause.NAME 100)
    -- an array of floats, and a float field
    ∷ (192 ∷ 0 ∷ 24 ∷ 177 ∷ [], flaw_at cause.FLOAT_TYPE 100)
    ∷ (178 ∷ 0 ∷ 27 ∷ 177 ∷ [], flaw_at cause.FLOAT_TYPE 100)
    -- a field with an ill-formed name, with the descriptor of a method, and of an array
    ∷ (179 ∷ 0 ∷ 34 ∷ 177 ∷ [], flaw_at cause.NAME 100)
    ∷ (180 ∷ 0 ∷ 35 ∷ 177 ∷ [], flaw_at cause.NAME 100)
    ∷ (181 ∷ 0 ∷ 36 ∷ 177 ∷ [], flaw_at cause.NAME 100)
    -- a method of a class with an ill-formed name, with an ill-formed name of its own, and with the descriptor of a field
    ∷ (182 ∷ 0 ∷ 44 ∷ 177 ∷ [], flaw_at cause.NAME 100)
    ∷ (182 ∷ 0 ∷ 39 ∷ 177 ∷ [], flaw_at cause.NAME 100)
    ∷ (182 ∷ 0 ∷ 40 ∷ 177 ∷ [], flaw_at cause.NAME 100)
    -- a class with an empty name
    ∷ (192 ∷ 0 ∷ 43 ∷ 177 ∷ [], flaw_at cause.NAME 100)
    -- newarray of floats
    ∷ (188 ∷ 6 ∷ 177 ∷ [], flaw_at cause.CODE_SHAPE 100)
    -- a constructor called by invokevirtual, invokestatic and invokeinterface, and an interface's call that ends with 1
    ∷ (182 ∷ 0 ∷ 22 ∷ 177 ∷ [], flaw_at cause.CODE_SHAPE 100)
    ∷ (184 ∷ 0 ∷ 22 ∷ 177 ∷ [], flaw_at cause.CODE_SHAPE 100)
    ∷ (185 ∷ 0 ∷ 41 ∷ 1 ∷ 0 ∷ 177 ∷ [], flaw_at cause.CODE_SHAPE 100)
    ∷ (185 ∷ 0 ∷ 16 ∷ 1 ∷ 1 ∷ 177 ∷ [], flaw_at cause.CODE_SHAPE 100)
    -- a switch from 1 to 0, one with -1 pairs, and one with equal keys
    ∷ (170 ∷ 0 ∷ 0 ∷ 0 ∷ 0 ∷ 0 ∷ 0 ∷ 0 ∷ 0 ∷ 0 ∷ 0 ∷ 1 ∷ 0 ∷ 0 ∷ 0 ∷ 0 ∷ 177 ∷ [], flaw_at cause.CODE_SHAPE 100)
    ∷ (171 ∷ 0 ∷ 0 ∷ 0 ∷ 0 ∷ 0 ∷ 0 ∷ 0 ∷ 255 ∷ 255 ∷ 255 ∷ 255 ∷ 177 ∷ [], flaw_at cause.CODE_SHAPE 100)
    ∷ (
      171 ∷ 0 ∷ 0 ∷ 0 ∷ 0 ∷ 0 ∷ 0 ∷ 0 ∷ 0 ∷ 0 ∷ 0 ∷ 2 ∷ 0 ∷ 0 ∷ 0 ∷ 1 ∷ 0 ∷ 0 ∷ 0 ∷ 0 ∷ 0 ∷ 0 ∷ 0 ∷ 1 ∷ 0 ∷ 0 ∷ 0 ∷ 0 ∷ 177 ∷ [],
      flaw_at cause.CODE_SHAPE 100,
    )
    -- a default, and a case, that lead into the switch itself
    ∷ (170 ∷ 0 ∷ 0 ∷ 0 ∷ 0 ∷ 0 ∷ 0 ∷ 1 ∷ 0 ∷ 0 ∷ 0 ∷ 0 ∷ 0 ∷ 0 ∷ 0 ∷ 0 ∷ 0 ∷ 0 ∷ 0 ∷ 0 ∷ [], flaw_at cause.CODE_SHAPE 100)
    ∷ (170 ∷ 0 ∷ 0 ∷ 0 ∷ 0 ∷ 0 ∷ 0 ∷ 0 ∷ 0 ∷ 0 ∷ 0 ∷ 0 ∷ 0 ∷ 0 ∷ 0 ∷ 0 ∷ 0 ∷ 0 ∷ 0 ∷ 1 ∷ [], flaw_at cause.CODE_SHAPE 100)
    ∷ (171 ∷ 0 ∷ 0 ∷ 0 ∷ 0 ∷ 0 ∷ 0 ∷ 1 ∷ 0 ∷ 0 ∷ 0 ∷ 0 ∷ [], flaw_at cause.CODE_SHAPE 100)
    ∷ (171 ∷ 0 ∷ 0 ∷ 0 ∷ 0 ∷ 0 ∷ 0 ∷ 0 ∷ 0 ∷ 0 ∷ 0 ∷ 1 ∷ 0 ∷ 0 ∷ 0 ∷ 1 ∷ 0 ∷ 0 ∷ 0 ∷ 1 ∷ [], flaw_at cause.CODE_SHAPE 100)
    -- the third local variable, and a long in the second
    ∷ (54 ∷ 2 ∷ 177 ∷ [], flaw_at cause.CODE_SHAPE 100)
    ∷ (58 ∷ 2 ∷ 177 ∷ [], flaw_at cause.CODE_SHAPE 100)
    ∷ (25 ∷ 2 ∷ 177 ∷ [], flaw_at cause.CODE_SHAPE 100)
    ∷ (28 ∷ 177 ∷ [], flaw_at cause.CODE_SHAPE 100)
    ∷ (31 ∷ 177 ∷ [], flaw_at cause.CODE_SHAPE 100)
    ∷ (64 ∷ 177 ∷ [], flaw_at cause.CODE_SHAPE 100)
    ∷ (132 ∷ 2 ∷ 1 ∷ 177 ∷ [], flaw_at cause.CODE_SHAPE 100)
    -- a branch into an operand, one before the code, one past it, and code that goes on past its end
    ∷ (0 ∷ 167 ∷ 0 ∷ 1 ∷ 177 ∷ [], flaw_at cause.CODE_SHAPE 101)
    ∷ (153 ∷ 255 ∷ 255 ∷ 177 ∷ [], flaw_at cause.CODE_SHAPE 100)
    ∷ (199 ∷ 0 ∷ 4 ∷ 177 ∷ [], flaw_at cause.CODE_SHAPE 100)
    ∷ (200 ∷ 127 ∷ 255 ∷ 255 ∷ 255 ∷ 177 ∷ [], flaw_at cause.CODE_SHAPE 100)
    ∷ (200 ∷ 0 ∷ 1 ∷ 0 ∷ 0 ∷ 177 ∷ [], flaw_at cause.CODE_SHAPE 100)
    ∷ (0 ∷ 0 ∷ [], flaw_at cause.CODE_SHAPE 101)
    -- a flaw of the flow counts only where each instruction is without flaw
    ∷ (167 ∷ 0 ∷ 1 ∷ 203 ∷ [], flaw_at cause.OPCODE 103)
    ∷ []

-- the opcodes of branches by two bytes
abbrev pub branch_opcodes : List ℕ
branch_opcodes = 153 ∷ 154 ∷ 155 ∷ 156 ∷ 157 ∷ 158 ∷ 159 ∷ 160 ∷ 161 ∷ 162 ∷ 163 ∷ 164 ∷ 165 ∷ 166 ∷ 167 ∷ 198 ∷ 199 ∷ []

-- a branch into its own operand
abbrev pub into_operand : ℕ → List ℕ
into_operand code = code ∷ 0 ∷ 1 ∷ 177 ∷ []

-- Code arrays that are taken: with two local variables of which the last is named, with a field whose
-- name has <, with a branch back by four bytes, and with instructions at the end behind which the next one
-- doesn't follow.
abbrev pub taken_codes : List (List ℕ)
taken_codes =
    (21 ∷ 1 ∷ 25 ∷ 1 ∷ 54 ∷ 1 ∷ 58 ∷ 1 ∷ 22 ∷ 0 ∷ 55 ∷ 0 ∷ 132 ∷ 1 ∷ 1 ∷ 177 ∷ [])
    ∷ (178 ∷ 0 ∷ 47 ∷ 177 ∷ [])
    ∷ (17 ∷ 0 ∷ 0 ∷ 17 ∷ 0 ∷ 0 ∷ 200 ∷ 255 ∷ 255 ∷ 255 ∷ 250 ∷ [])
    ∷ (167 ∷ 0 ∷ 0 ∷ [])
    ∷ (200 ∷ 0 ∷ 0 ∷ 0 ∷ 0 ∷ [])
    ∷ (170 ∷ 0 ∷ 0 ∷ 0 ∷ 0 ∷ 0 ∷ 0 ∷ 0 ∷ 0 ∷ 0 ∷ 0 ∷ 0 ∷ 0 ∷ 0 ∷ 0 ∷ 0 ∷ 0 ∷ 0 ∷ 0 ∷ 0 ∷ [])
    ∷ (171 ∷ 0 ∷ 0 ∷ 0 ∷ 0 ∷ 0 ∷ 0 ∷ 0 ∷ 0 ∷ 0 ∷ 0 ∷ 0 ∷ [])
    ∷ (172 ∷ [])
    ∷ (173 ∷ [])
    ∷ (176 ∷ [])
    ∷ (177 ∷ [])
    ∷ (191 ∷ [])
    ∷ []

-- the content of a Code attribute that names this length, at the offset 7
abbrev pub code_of_length : ℕ → RawCode
code_of_length n =
    record {
      max_stack = 0;
      max_locals = 0;
      length = record { at = 7; value = n };
      bytes = record { at = 11; value = 0 ∷ 177 ∷ [] };
      handlers = 0;
    }

-- lengths of code, and the flaws that they make
abbrev pub code_lengths : List (ℕ × List Flaw)
code_lengths = (0, flaw_at cause.CODE_SHAPE 7 ∷ []) ∷ (1, []) ∷ (65535, []) ∷ (65536, flaw_at cause.CODE_SHAPE 7 ∷ []) ∷ []

-- The opcodes of instructions without operands, in groups.
use Rattle.std.specs.Prelude.{ℕ, List, [], ◌∷◌, Bool, nat_le, ◌&&◌}
use Rattle.th_syntax.specs.declared.opcode.TheConstants as opcode

abbrev pub array_access_codes : List ℕ
array_access_codes =
    opcode.IALOAD
    ∷ opcode.LALOAD
    ∷ opcode.AALOAD
    ∷ opcode.BALOAD
    ∷ opcode.CALOAD
    ∷ opcode.SALOAD
    ∷ opcode.IASTORE
    ∷ opcode.LASTORE
    ∷ opcode.AASTORE
    ∷ opcode.BASTORE
    ∷ opcode.CASTORE
    ∷ opcode.SASTORE
    ∷ []

abbrev pub stack_move_codes : List ℕ
stack_move_codes =
    opcode.POP
    ∷ opcode.POP2
    ∷ opcode.DUP
    ∷ opcode.DUP_X1
    ∷ opcode.DUP_X2
    ∷ opcode.DUP2
    ∷ opcode.DUP2_X1
    ∷ opcode.DUP2_X2
    ∷ opcode.SWAP
    ∷ []

abbrev pub arithmetic_codes : List ℕ
arithmetic_codes =
    opcode.IADD
    ∷ opcode.LADD
    ∷ opcode.ISUB
    ∷ opcode.LSUB
    ∷ opcode.IMUL
    ∷ opcode.LMUL
    ∷ opcode.IDIV
    ∷ opcode.LDIV
    ∷ opcode.IREM
    ∷ opcode.LREM
    ∷ opcode.ISHL
    ∷ opcode.LSHL
    ∷ opcode.ISHR
    ∷ opcode.LSHR
    ∷ opcode.IUSHR
    ∷ opcode.LUSHR
    ∷ opcode.IAND
    ∷ opcode.LAND
    ∷ opcode.IOR
    ∷ opcode.LOR
    ∷ opcode.IXOR
    ∷ opcode.LXOR
    ∷ []

abbrev pub conversion_codes : List ℕ
conversion_codes =
    opcode.INEG
    ∷ opcode.LNEG
    ∷ opcode.I2L
    ∷ opcode.L2I
    ∷ opcode.I2B
    ∷ opcode.I2C
    ∷ opcode.I2S
    ∷ opcode.LCMP
    ∷ []

-- whether an opcode is one of those from the first to the last
abbrev pub is_within : ℕ → ℕ × ℕ → Bool
is_within code range = nat_le range.0 code && nat_le code range.1

abbrev pub small_constants : List (ℕ × ℕ)
small_constants = (opcode.ICONST_M1, opcode.ICONST_5) ∷ (opcode.LCONST_0, opcode.LCONST_1) ∷ []

abbrev pub small_locals : List (ℕ × ℕ)
small_locals =
    (opcode.ILOAD_0, opcode.ILOAD_3)
    ∷ (opcode.LLOAD_0, opcode.LLOAD_3)
    ∷ (opcode.ALOAD_0, opcode.ALOAD_3)
    ∷ (opcode.ISTORE_0, opcode.ISTORE_3)
    ∷ (opcode.LSTORE_0, opcode.LSTORE_3)
    ∷ (opcode.ASTORE_0, opcode.ASTORE_3)
    ∷ []

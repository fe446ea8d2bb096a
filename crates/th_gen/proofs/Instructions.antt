-- An instruction's bytes spell it.
use Rattle.std.proofs.Common.{◌≡◌, ℕ, zero, suc, ◌+◌, ◌<◌, ◌≤◌, ◌^◌, Bool, true, false, ◌&&◌, cond, List, [], ◌∷◌, ◌++◌, length, refl, subst, arith}
use Rattle.std.specs.Prelude.{nat_lt, nat_le, ℤ, pos, negsuc, FitsSigned}
use Rattle.std.specs.Int.{w8, w16, cast_signed, cast_unsigned}
use Rattle.std.proofs.lemmas.Bool.{ltb-true, leb-true}
use Rattle.std.proofs.lemmas.Int.{to_z-of_z, ints}
use Rattle.std.proofs.lemmas.List.{append-nil}
use Rattle.th_base.specs.declared.operation.Elem.{Elem}
use Rattle.th_base.specs.declared.operation.Elem.TheVariants as elem
use Rattle.th_base.specs.declared.operation.ArithOp.{ArithOp}
use Rattle.th_base.specs.declared.operation.ArithOp.TheVariants.{Add, Sub, Mul, Div, Rem, Shl, Shr, Ushr, And, Or, Xor}
use Rattle.th_base.specs.declared.operation.NarrowOp.{NarrowOp}
use Rattle.th_base.specs.declared.operation.NarrowOp.TheVariants as narrow
use Rattle.th_syntax.specs.declared.cause.TheConstants as cause
use Rattle.th_syntax.specs.declared.opcode.TheConstants as opcode
use Rattle.th_syntax.specs.declared.instr.StackOp.{StackOp}
use Rattle.th_syntax.specs.declared.instr.StackOp.TheVariants as stack
use Rattle.th_syntax.specs.declared.instr.Primitive.{Primitive}
use Rattle.th_syntax.specs.declared.instr.Primitive.TheVariants as primitive
use Rattle.th_syntax.specs.declared.instr.Instr.{Instr}
use Rattle.th_syntax.specs.declared.instr.Instr.TheVariants.{ILoad, LLoad, ALoad, IStore, LStore, AStore, ArrayLoad, ArrayStore, Stack, Arith, LArith, Inc, Narrow, NewArray}
use Rattle.th_syntax.specs.Forms.{Form, whole, ◌>>=◌}
use Rattle.th_syntax.specs.ClassBytes.{Pool, u1, u2}
use Rattle.th_syntax.specs.CodeBytes.{Spelled, instr, plain, given, element_of, among, rows, wide_rows, instruction}
use Rattle.th_gen.specs.declared.spelling.Spelling.TheVariants.{Bare, Byte, Wide, Increment, WideIncrement}
use Rattle.th_gen.specs.Items.{is_within, is_short}
use Rattle.th_gen.specs.Spellings.{array_load, array_store, stack_move, int_arith, long_arith, narrowing, element_code, local_spelling, increment_spelling}
use Rattle.th_gen.specs.ClassText as text
use Rattle.th_gen.proofs.Spells.{Spells, spells_then, spells_whole, u1_spells, u2_spells}

-- ---- the opcode, and what stands behind it

module _ (raw : Pool) (pc : ℕ) where
  -- the instruction stands at the offset, spelled by these bytes
  abbrev pub IsAt : List ℕ → Instr → Type 0
  IsAt bytes i = Spells (instruction raw) pc bytes (instr i)

  pub by_opcode : (code : ℕ) (body : List ℕ) (i : Instr) → Spells (among (rows raw) code pc pc) (pc + 1) body (instr i) → IsAt (code ∷ body) i
  unfolding instruction
  by_opcode code body i s = spells_then u1 (λ c. among (rows raw) c.value c.at c.at) pc (code ∷ []) body (record { at = pc; value = code }) (instr i) (u1_spells pc code) s

  -- no operands
  pub bare : (code : ℕ) (i : Instr) → among (rows raw) code pc pc ≡ whole (instr i) → IsAt (code ∷ []) i
  bare code i is = by_opcode code [] i (rw is (spells_whole (instr i) (pc + 1)))

  pub ends : {A : Type 0} (f : Form A) (k : A → Form Spelled) (at : ℕ) (xs : List ℕ) (x : A) (i : Instr) → Spells f at xs x → k x ≡ whole (instr i) → Spells (f >>= k) at xs (instr i)
  ends f k at xs x i s is =
      subst (λ (r : List ℕ). Spells (f >>= k) at r (instr i)) (append-nil xs)
      (spells_then f k at xs [] x (instr i) s (rw is (spells_whole (instr i) (at + length xs))))

  -- an operand of one byte, or of two
  pub byte : (code b : ℕ) (k : ℕ → Form Spelled) (i : Instr) → among (rows raw) code pc pc ≡ (u1 >>= λ x. k x.value) → k b ≡ whole (instr i) → IsAt (code ∷ b ∷ []) i
  byte code b k i row is = by_opcode code (b ∷ []) i (rw row (ends u1 (λ x. k x.value) (pc + 1) (b ∷ []) (record { at = pc + 1; value = b }) i (u1_spells (pc + 1) b) is))

  pub short : (code n : ℕ) (k : ℕ → Form Spelled) (i : Instr) → n < 2 ^ 16 → among (rows raw) code pc pc ≡ (u2 >>= λ x. k x.value) → k n ≡ whole (instr i) → IsAt (code ∷ text.u2 n) i
  short code n k i lt row is = by_opcode code (text.u2 n) i (rw row (ends u2 (λ x. k x.value) (pc + 1) (text.u2 n) (record { at = pc + 1; value = n }) i (u2_spells (pc + 1) n lt) is))

  -- a local variable behind wide
  wide : (code n : ℕ) (make : ℕ → Instr) → n < 2 ^ 16 → among wide_rows code pc pc ≡ (u2 >>= λ x. plain (make x.value)) → IsAt (opcode.WIDE ∷ code ∷ text.u2 n) (make n)
  wide code n make lt row =
      by_opcode opcode.WIDE (code ∷ text.u2 n) (make n)
      (spells_then u1 (λ c. among wide_rows c.value pc pc) (pc + 1) (code ∷ []) (text.u2 n) (record { at = pc + 1; value = code }) (instr (make n)) (u1_spells (pc + 1) code)
      (rw row (ends u2 (λ x. plain (make x.value)) (pc + 1 + 1) (text.u2 n) (record { at = pc + 1 + 1; value = n }) (make n) (u2_spells (pc + 1 + 1) n lt) refl)))

  -- ---- tables

  pub array_loads : (e : Elem) → IsAt (array_load e ∷ []) (ArrayLoad e)
  array_loads elem.Int = bare opcode.IALOAD (ArrayLoad elem.Int) refl
  array_loads elem.Ref = bare opcode.AALOAD (ArrayLoad elem.Ref) refl
  array_loads elem.Byte = bare opcode.BALOAD (ArrayLoad elem.Byte) refl
  array_loads elem.Char = bare opcode.CALOAD (ArrayLoad elem.Char) refl
  array_loads elem.Short = bare opcode.SALOAD (ArrayLoad elem.Short) refl

  pub array_stores : (e : Elem) → IsAt (array_store e ∷ []) (ArrayStore e)
  array_stores elem.Int = bare opcode.IASTORE (ArrayStore elem.Int) refl
  array_stores elem.Ref = bare opcode.AASTORE (ArrayStore elem.Ref) refl
  array_stores elem.Byte = bare opcode.BASTORE (ArrayStore elem.Byte) refl
  array_stores elem.Char = bare opcode.CASTORE (ArrayStore elem.Char) refl
  array_stores elem.Short = bare opcode.SASTORE (ArrayStore elem.Short) refl

  pub stack_moves : (op : StackOp) → IsAt (stack_move op ∷ []) (Stack op)
  stack_moves stack.Pop = bare opcode.POP (Stack stack.Pop) refl
  stack_moves stack.Pop2 = bare opcode.POP2 (Stack stack.Pop2) refl
  stack_moves stack.Dup = bare opcode.DUP (Stack stack.Dup) refl
  stack_moves stack.DupX1 = bare opcode.DUP_X1 (Stack stack.DupX1) refl
  stack_moves stack.DupX2 = bare opcode.DUP_X2 (Stack stack.DupX2) refl
  stack_moves stack.Dup2 = bare opcode.DUP2 (Stack stack.Dup2) refl
  stack_moves stack.Dup2X1 = bare opcode.DUP2_X1 (Stack stack.Dup2X1) refl
  stack_moves stack.Dup2X2 = bare opcode.DUP2_X2 (Stack stack.Dup2X2) refl
  stack_moves stack.Swap = bare opcode.SWAP (Stack stack.Swap) refl

  pub int_ariths : (op : ArithOp) → IsAt (int_arith op ∷ []) (Arith op)
  int_ariths Add = bare opcode.IADD (Arith Add) refl
  int_ariths Sub = bare opcode.ISUB (Arith Sub) refl
  int_ariths Mul = bare opcode.IMUL (Arith Mul) refl
  int_ariths Div = bare opcode.IDIV (Arith Div) refl
  int_ariths Rem = bare opcode.IREM (Arith Rem) refl
  int_ariths Shl = bare opcode.ISHL (Arith Shl) refl
  int_ariths Shr = bare opcode.ISHR (Arith Shr) refl
  int_ariths Ushr = bare opcode.IUSHR (Arith Ushr) refl
  int_ariths And = bare opcode.IAND (Arith And) refl
  int_ariths Or = bare opcode.IOR (Arith Or) refl
  int_ariths Xor = bare opcode.IXOR (Arith Xor) refl

  pub long_ariths : (op : ArithOp) → IsAt (long_arith op ∷ []) (LArith op)
  long_ariths Add = bare opcode.LADD (LArith Add) refl
  long_ariths Sub = bare opcode.LSUB (LArith Sub) refl
  long_ariths Mul = bare opcode.LMUL (LArith Mul) refl
  long_ariths Div = bare opcode.LDIV (LArith Div) refl
  long_ariths Rem = bare opcode.LREM (LArith Rem) refl
  long_ariths Shl = bare opcode.LSHL (LArith Shl) refl
  long_ariths Shr = bare opcode.LSHR (LArith Shr) refl
  long_ariths Ushr = bare opcode.LUSHR (LArith Ushr) refl
  long_ariths And = bare opcode.LAND (LArith And) refl
  long_ariths Or = bare opcode.LOR (LArith Or) refl
  long_ariths Xor = bare opcode.LXOR (LArith Xor) refl

  pub narrowings : (op : NarrowOp) → IsAt (narrowing op ∷ []) (Narrow op)
  narrowings narrow.Byte = bare opcode.I2B (Narrow narrow.Byte) refl
  narrowings narrow.Char = bare opcode.I2C (Narrow narrow.Char) refl
  narrowings narrow.Short = bare opcode.I2S (Narrow narrow.Short) refl

  pub new_arrays : (e : Primitive) → IsAt (opcode.NEWARRAY ∷ element_code e ∷ []) (NewArray e)
  new_arrays e = byte opcode.NEWARRAY (element_code e) (λ code. given cause.CODE_SHAPE (element_of code) (λ element. plain (NewArray element))) (NewArray e) refl (element_made e)
    where
      element_made : (e : Primitive) → given cause.CODE_SHAPE (element_of (element_code e)) (λ element. plain (NewArray element)) ≡ whole (instr (NewArray e))
      element_made primitive.Boolean = refl
      element_made primitive.Char = refl
      element_made primitive.Byte = refl
      element_made primitive.Short = refl
      element_made primitive.Int = refl
      element_made primitive.Long = refl

  -- ---- local variables

  -- the bytes of a load or store, by its three spellings
  local_by : (starts : List ℕ) (i : Instr) (code first n : ℕ) (make : ℕ → Instr) → n < 2 ^ 16
      → IsAt (first ∷ []) (make 0) → IsAt ((first + 1) ∷ []) (make 1) → IsAt ((first + 2) ∷ []) (make 2) → IsAt ((first + 3) ∷ []) (make 3)
      → among (rows raw) code pc pc ≡ (u1 >>= λ x. plain (make x.value)) → among wide_rows code pc pc ≡ (u2 >>= λ x. plain (make x.value))
      → IsAt (text.spelled_by starts pc i (local_spelling code first n)) (make n)
  local_by starts i code first n make lt at0 at1 at2 at3 row wide_row = go (nat_lt n 4) refl
    where
      four : (n : ℕ) → n < 4 → IsAt ((first + n) ∷ []) (make n)
      four zero h = subst (λ (c : ℕ). IsAt (c ∷ []) (make 0)) (let e : first ≡ first + 0 = omega arith in e) at0
      four (suc zero) h = at1
      four (suc (suc zero)) h = at2
      four (suc (suc (suc zero))) h = at3
      four (suc (suc (suc (suc k)))) h = absurd (omega arith)

      rest : (b : Bool) → IsAt (text.spelled_by starts pc i (cond b (Byte code n) (Wide code n))) (make n)
      rest true = byte code n (λ x. plain (make x)) (make n) row refl
      rest false = wide code n make lt wide_row

      go : (b : Bool) → nat_lt n 4 ≡ b → IsAt (text.spelled_by starts pc i (cond b (Bare (first + n)) (cond (nat_lt n 256) (Byte code n) (Wide code n)))) (make n)
      go true is = four n (ltb-true n 4 is)
      go false is = rest (nat_lt n 256)

  pub int_loads : (starts : List ℕ) (i : Instr) (n : ℕ) → n < 2 ^ 16 → IsAt (text.spelled_by starts pc i (local_spelling opcode.ILOAD opcode.ILOAD_0 n)) (ILoad n)
  int_loads starts i n lt =
      local_by starts i opcode.ILOAD opcode.ILOAD_0 n (λ k. ILoad k) lt (bare 26 (ILoad 0) refl) (bare 27 (ILoad 1) refl) (bare 28 (ILoad 2) refl) (bare 29 (ILoad 3) refl) refl refl

  pub long_loads : (starts : List ℕ) (i : Instr) (n : ℕ) → n < 2 ^ 16 → IsAt (text.spelled_by starts pc i (local_spelling opcode.LLOAD opcode.LLOAD_0 n)) (LLoad n)
  long_loads starts i n lt =
      local_by starts i opcode.LLOAD opcode.LLOAD_0 n (λ k. LLoad k) lt (bare 30 (LLoad 0) refl) (bare 31 (LLoad 1) refl) (bare 32 (LLoad 2) refl) (bare 33 (LLoad 3) refl) refl refl

  pub ref_loads : (starts : List ℕ) (i : Instr) (n : ℕ) → n < 2 ^ 16 → IsAt (text.spelled_by starts pc i (local_spelling opcode.ALOAD opcode.ALOAD_0 n)) (ALoad n)
  ref_loads starts i n lt =
      local_by starts i opcode.ALOAD opcode.ALOAD_0 n (λ k. ALoad k) lt (bare 42 (ALoad 0) refl) (bare 43 (ALoad 1) refl) (bare 44 (ALoad 2) refl) (bare 45 (ALoad 3) refl) refl refl

  pub int_stores : (starts : List ℕ) (i : Instr) (n : ℕ) → n < 2 ^ 16 → IsAt (text.spelled_by starts pc i (local_spelling opcode.ISTORE opcode.ISTORE_0 n)) (IStore n)
  int_stores starts i n lt =
      local_by starts i opcode.ISTORE opcode.ISTORE_0 n (λ k. IStore k) lt (bare 59 (IStore 0) refl) (bare 60 (IStore 1) refl) (bare 61 (IStore 2) refl) (bare 62 (IStore 3) refl) refl refl

  pub long_stores : (starts : List ℕ) (i : Instr) (n : ℕ) → n < 2 ^ 16 → IsAt (text.spelled_by starts pc i (local_spelling opcode.LSTORE opcode.LSTORE_0 n)) (LStore n)
  long_stores starts i n lt =
      local_by starts i opcode.LSTORE opcode.LSTORE_0 n (λ k. LStore k) lt (bare 63 (LStore 0) refl) (bare 64 (LStore 1) refl) (bare 65 (LStore 2) refl) (bare 66 (LStore 3) refl) refl refl

  pub ref_stores : (starts : List ℕ) (i : Instr) (n : ℕ) → n < 2 ^ 16 → IsAt (text.spelled_by starts pc i (local_spelling opcode.ASTORE opcode.ASTORE_0 n)) (AStore n)
  ref_stores starts i n lt =
      local_by starts i opcode.ASTORE opcode.ASTORE_0 n (λ k. AStore k) lt (bare 75 (AStore 0) refl) (bare 76 (AStore 1) refl) (bare 77 (AStore 2) refl) (bare 78 (AStore 3) refl) refl refl

  -- ---- increments

  pub within_fits_8 : (v : ℤ) → is_within (negsuc 127) (pos 127) v ≡ true → FitsSigned w8 v
  within_fits_8 (pos n) e = record { sfits = (let h : n ≤ 127 = leb-true n 127 e in omega arith) }
  within_fits_8 (negsuc n) e = record { sfits = (let h : n ≤ 127 = leb-true n 127 (and_left (nat_le n 127) true e) in omega arith) }
    where
      and_left : (a b : Bool) → (a && b) ≡ true → a ≡ true
      and_left true b e = refl
      and_left false b e = absurd cc

  pub within_fits_16 : (v : ℤ) → is_short v ≡ true → FitsSigned w16 v
  within_fits_16 (pos n) e = record { sfits = (let h : n ≤ 32767 = leb-true n 32767 e in omega arith) }
  within_fits_16 (negsuc n) e = record { sfits = (let h : n ≤ 32767 = leb-true n 32767 (and_left (nat_le n 32767) true e) in omega arith) }
    where
      and_left : (a b : Bool) → (a && b) ≡ true → a ≡ true
      and_left true b e = refl
      and_left false b e = absurd cc

  pub unsigned_8 : (v : ℤ) → FitsSigned w8 v → cast_unsigned w8 v < 2 ^ 8
  unsigned_8 v fits = omega (arith, ints)

  pub unsigned_16 : (v : ℤ) → FitsSigned w16 v → cast_unsigned w16 v < 2 ^ 16
  unsigned_16 v fits = omega (arith, ints)

  pub increments : (starts : List ℕ) (i : Instr) (n : ℕ) (by : ℤ) → n < 2 ^ 16 → FitsSigned w16 by → IsAt (text.spelled_by starts pc i (increment_spelling n by)) (Inc n by)
  increments starts i n by lt fits = go (nat_lt n 256 && is_within (negsuc 127) (pos 127) by) refl
    where
      and_right : (a b : Bool) → (a && b) ≡ true → b ≡ true
      and_right true b e = e
      and_right false b e = absurd cc

      go : (b : Bool) → (nat_lt n 256 && is_within (negsuc 127) (pos 127) by) ≡ b → IsAt (text.spelled_by starts pc i (cond b (Increment n by) (WideIncrement n by))) (Inc n by)
      go true is =
          let c : ℕ = cast_unsigned w8 by in
          let fits_8 : FitsSigned w8 by = within_fits_8 by (and_right (nat_lt n 256) (is_within (negsuc 127) (pos 127) by) is) in
          let back : cast_signed w8 c ≡ by = to_z-of_z w8 by fits_8 in
          by_opcode opcode.IINC (n ∷ c ∷ []) (Inc n by)
          (spells_then u1 (λ index. u1 >>= λ b. plain (Inc index.value (cast_signed w8 b.value))) (pc + 1) (n ∷ []) (c ∷ []) (record { at = pc + 1; value = n }) (instr (Inc n by)) (u1_spells (pc + 1) n)
          (ends u1 (λ b. plain (Inc n (cast_signed w8 b.value))) (pc + 1 + 1) (c ∷ []) (record { at = pc + 1 + 1; value = c }) (Inc n by) (u1_spells (pc + 1 + 1) c) (rw back refl)))
      go false is =
          let c : ℕ = cast_unsigned w16 by in
          let back : cast_signed w16 c ≡ by = to_z-of_z w16 by fits in
          let at : ℕ = pc + 1 + 1 in
          by_opcode opcode.WIDE (opcode.IINC ∷ (text.u2 n ++ text.u2 c)) (Inc n by)
          (spells_then u1 (λ code. among wide_rows code.value pc pc) (pc + 1) (opcode.IINC ∷ []) (text.u2 n ++ text.u2 c) (record { at = pc + 1; value = opcode.IINC }) (instr (Inc n by)) (u1_spells (pc + 1) opcode.IINC)
          (spells_then u2 (λ index. u2 >>= λ b. plain (Inc index.value (cast_signed w16 b.value))) at (text.u2 n) (text.u2 c) (record { at = at; value = n }) (instr (Inc n by)) (u2_spells at n lt)
          (ends u2 (λ b. plain (Inc n (cast_signed w16 b.value))) (at + length (text.u2 n)) (text.u2 c) (record { at = at + length (text.u2 n); value = c }) (Inc n by) (u2_spells (at + length (text.u2 n)) c (unsigned_16 by fits)) (rw back refl))))

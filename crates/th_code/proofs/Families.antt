-- Families of opcodes.
use Rattle.std.proofs.Common.{◌≡◌, ℕ, zero, suc, ◌+◌, ◌-◌, ◌<◌, ◌≤◌, true, false, ◌&&◌, refl, subst, arith}
use Rattle.std.specs.Prelude.{nat_le, pos, ◌-ℤ◌}
use Rattle.std.specs.List.{list_any}
use Rattle.std.proofs.lemmas.Bool.Decides.{nat_tests}
use Rattle.th_syntax.specs.declared.opcode.TheConstants as opcode
use Rattle.th_syntax.specs.declared.instr.Instr.{Instr}
use Rattle.th_syntax.specs.declared.instr.Instr.TheVariants.{Int, Long, ILoad, LLoad, ALoad, IStore, LStore, AStore}
use Rattle.th_syntax.specs.ClassBytes.{Pool}
use Rattle.th_syntax.specs.CodeBytes.{plain}
use Rattle.th_code.specs.Judged.{operands_of}
use Rattle.th_code.specs.Opcodes.{is_within, small_constants, small_locals}

not_below : (first last code : ℕ) → (nat_le first code && nat_le code last) ≡ true → first ≤ code
not_below first last code e = grind (arith, nat_tests)

not_above : (first last code : ℕ) → (nat_le first code && nat_le code last) ≡ true → code ≤ last
not_above first last code e = grind (arith, nat_tests)

upto2 : (P : ℕ → Type 0) → P 0 → P 1 → (j : ℕ) → j < 2 → P j
upto2 P a b zero lt = a
upto2 P a b (suc zero) lt = b
upto2 P a b (suc (suc j)) lt = absurd (omega arith)

upto4 : (P : ℕ → Type 0) → P 0 → P 1 → P 2 → P 3 → (j : ℕ) → j < 4 → P j
upto4 P a b c d zero lt = a
upto4 P a b c d (suc zero) lt = b
upto4 P a b c d (suc (suc zero)) lt = c
upto4 P a b c d (suc (suc (suc zero))) lt = d
upto4 P a b c d (suc (suc (suc (suc j)))) lt = absurd (omega arith)

upto7 : (P : ℕ → Type 0) → P 0 → P 1 → P 2 → P 3 → P 4 → P 5 → P 6 → (j : ℕ) → j < 7 → P j
upto7 P a b c d e f g zero lt = a
upto7 P a b c d e f g (suc j) lt = go j (omega arith)
  where
    go : (j : ℕ) → j < 6 → P (suc j)
    go zero lt = b
    go (suc zero) lt = c
    go (suc (suc zero)) lt = d
    go (suc (suc (suc zero))) lt = e
    go (suc (suc (suc (suc zero)))) lt = f
    go (suc (suc (suc (suc (suc zero))))) lt = g
    go (suc (suc (suc (suc (suc (suc j)))))) lt = absurd (omega arith)

-- an opcode by its place in the family
placed : (pool : Pool) (pc first code : ℕ) (i : Instr) → first ≤ code → operands_of pool (first + (code - first)) pc ≡ plain i → operands_of pool code pc ≡ plain i
placed pool pc first code i le e =
    let is : first + (code - first) ≡ code = omega arith in
    subst (λ (k : ℕ). operands_of pool k pc ≡ plain i) is e

pub int_row : (pool : Pool) (pc code : ℕ) → (nat_le opcode.ICONST_M1 code && nat_le code opcode.ICONST_5) ≡ true → operands_of pool code pc ≡ plain (Int (pos (code - opcode.ICONST_M1) -ℤ pos 1))
unfolding operands_of
int_row pool pc code e =
    let low = not_below opcode.ICONST_M1 opcode.ICONST_5 code e in
    let high = not_above opcode.ICONST_M1 opcode.ICONST_5 code e in
    placed pool pc opcode.ICONST_M1 code _ low (upto7 (λ k. operands_of pool (opcode.ICONST_M1 + k) pc ≡ plain (Int (pos k -ℤ pos 1))) refl refl refl refl refl refl refl (code - opcode.ICONST_M1) (omega arith))

pub long_row : (pool : Pool) (pc code : ℕ) → (nat_le opcode.LCONST_0 code && nat_le code opcode.LCONST_1) ≡ true → operands_of pool code pc ≡ plain (Long (pos (code - opcode.LCONST_0)))
unfolding operands_of
long_row pool pc code e =
    let low = not_below opcode.LCONST_0 opcode.LCONST_1 code e in
    let high = not_above opcode.LCONST_0 opcode.LCONST_1 code e in
    placed pool pc opcode.LCONST_0 code _ low (upto2 (λ k. operands_of pool (opcode.LCONST_0 + k) pc ≡ plain (Long (pos k))) refl refl (code - opcode.LCONST_0) (omega arith))

pub row_iload_0 : (pool : Pool) (pc code : ℕ) → (nat_le opcode.ILOAD_0 code && nat_le code opcode.ILOAD_3) ≡ true → operands_of pool code pc ≡ plain (ILoad (code - opcode.ILOAD_0))
unfolding operands_of
row_iload_0 pool pc code e =
    let low = not_below opcode.ILOAD_0 opcode.ILOAD_3 code e in
    let high = not_above opcode.ILOAD_0 opcode.ILOAD_3 code e in
    placed pool pc opcode.ILOAD_0 code _ low (upto4 (λ k. operands_of pool (opcode.ILOAD_0 + k) pc ≡ plain (ILoad k)) refl refl refl refl (code - opcode.ILOAD_0) (omega arith))

pub row_lload_0 : (pool : Pool) (pc code : ℕ) → (nat_le opcode.LLOAD_0 code && nat_le code opcode.LLOAD_3) ≡ true → operands_of pool code pc ≡ plain (LLoad (code - opcode.LLOAD_0))
unfolding operands_of
row_lload_0 pool pc code e =
    let low = not_below opcode.LLOAD_0 opcode.LLOAD_3 code e in
    let high = not_above opcode.LLOAD_0 opcode.LLOAD_3 code e in
    placed pool pc opcode.LLOAD_0 code _ low (upto4 (λ k. operands_of pool (opcode.LLOAD_0 + k) pc ≡ plain (LLoad k)) refl refl refl refl (code - opcode.LLOAD_0) (omega arith))

pub row_aload_0 : (pool : Pool) (pc code : ℕ) → (nat_le opcode.ALOAD_0 code && nat_le code opcode.ALOAD_3) ≡ true → operands_of pool code pc ≡ plain (ALoad (code - opcode.ALOAD_0))
unfolding operands_of
row_aload_0 pool pc code e =
    let low = not_below opcode.ALOAD_0 opcode.ALOAD_3 code e in
    let high = not_above opcode.ALOAD_0 opcode.ALOAD_3 code e in
    placed pool pc opcode.ALOAD_0 code _ low (upto4 (λ k. operands_of pool (opcode.ALOAD_0 + k) pc ≡ plain (ALoad k)) refl refl refl refl (code - opcode.ALOAD_0) (omega arith))

pub row_istore_0 : (pool : Pool) (pc code : ℕ) → (nat_le opcode.ISTORE_0 code && nat_le code opcode.ISTORE_3) ≡ true → operands_of pool code pc ≡ plain (IStore (code - opcode.ISTORE_0))
unfolding operands_of
row_istore_0 pool pc code e =
    let low = not_below opcode.ISTORE_0 opcode.ISTORE_3 code e in
    let high = not_above opcode.ISTORE_0 opcode.ISTORE_3 code e in
    placed pool pc opcode.ISTORE_0 code _ low (upto4 (λ k. operands_of pool (opcode.ISTORE_0 + k) pc ≡ plain (IStore k)) refl refl refl refl (code - opcode.ISTORE_0) (omega arith))

pub row_lstore_0 : (pool : Pool) (pc code : ℕ) → (nat_le opcode.LSTORE_0 code && nat_le code opcode.LSTORE_3) ≡ true → operands_of pool code pc ≡ plain (LStore (code - opcode.LSTORE_0))
unfolding operands_of
row_lstore_0 pool pc code e =
    let low = not_below opcode.LSTORE_0 opcode.LSTORE_3 code e in
    let high = not_above opcode.LSTORE_0 opcode.LSTORE_3 code e in
    placed pool pc opcode.LSTORE_0 code _ low (upto4 (λ k. operands_of pool (opcode.LSTORE_0 + k) pc ≡ plain (LStore k)) refl refl refl refl (code - opcode.LSTORE_0) (omega arith))

pub row_astore_0 : (pool : Pool) (pc code : ℕ) → (nat_le opcode.ASTORE_0 code && nat_le code opcode.ASTORE_3) ≡ true → operands_of pool code pc ≡ plain (AStore (code - opcode.ASTORE_0))
unfolding operands_of
row_astore_0 pool pc code e =
    let low = not_below opcode.ASTORE_0 opcode.ASTORE_3 code e in
    let high = not_above opcode.ASTORE_0 opcode.ASTORE_3 code e in
    placed pool pc opcode.ASTORE_0 code _ low (upto4 (λ k. operands_of pool (opcode.ASTORE_0 + k) pc ≡ plain (AStore k)) refl refl refl refl (code - opcode.ASTORE_0) (omega arith))

pub no_constants : (code : ℕ) → (nat_le opcode.ICONST_M1 code && nat_le code opcode.ICONST_5) ≡ false → (nat_le opcode.LCONST_0 code && nat_le code opcode.LCONST_1) ≡ false → list_any (is_within code) small_constants ≡ false
no_constants code e f = rw (e, f) refl

pub no_locals : (code : ℕ) → (nat_le opcode.ILOAD_0 code && nat_le code opcode.ILOAD_3) ≡ false → (nat_le opcode.LLOAD_0 code && nat_le code opcode.LLOAD_3) ≡ false → (nat_le opcode.ALOAD_0 code && nat_le code opcode.ALOAD_3) ≡ false → (nat_le opcode.ISTORE_0 code && nat_le code opcode.ISTORE_3) ≡ false → (nat_le opcode.LSTORE_0 code && nat_le code opcode.LSTORE_3) ≡ false → (nat_le opcode.ASTORE_0 code && nat_le code opcode.ASTORE_3) ≡ false → list_any (is_within code) small_locals ≡ false
no_locals code a b c d e f = rw (a, b, c, d, e, f) refl

pub not_low : (first last code : ℕ) → (nat_le first code && nat_le code last) ≡ true → first ≤ code
not_low first last code e = not_below first last code e

pub ruleset constants = (int_row, long_row, no_constants, not_low)

pub ruleset locals = (row_iload_0, row_lload_0, row_aload_0, row_istore_0, row_lstore_0, row_astore_0, no_locals, not_low)

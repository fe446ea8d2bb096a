-- Which opcodes take no operands.
use Rattle.std.proofs.Common.{◌≡◌, ◌≢◌, ℕ, false, refl, sym}
use Rattle.std.specs.Prelude.{◌==◌}
use Rattle.std.specs.List.{list_any}
use Rattle.std.proofs.lemmas.Bool.{ne_eqb}
use Rattle.th_syntax.specs.declared.opcode.TheConstants as opcode
use Rattle.th_code.specs.Opcodes.{arithmetic_codes, array_access_codes, conversion_codes, stack_move_codes}

pub not_it : (n code : ℕ) → code ≢ n → (n == code) ≡ false
not_it n code other = ne_eqb n code (λ e. other (sym e))

pub no_array_access : (code : ℕ) → code ≢ opcode.IALOAD → code ≢ opcode.LALOAD → code ≢ opcode.AALOAD → code ≢ opcode.BALOAD → code ≢ opcode.CALOAD → code ≢ opcode.SALOAD → code ≢ opcode.IASTORE → code ≢ opcode.LASTORE → code ≢ opcode.AASTORE → code ≢ opcode.BASTORE → code ≢ opcode.CASTORE → code ≢ opcode.SASTORE → list_any (λ n. n == code) array_access_codes ≡ false
no_array_access code not_iaload not_laload not_aaload not_baload not_caload not_saload not_iastore not_lastore not_aastore not_bastore not_castore not_sastore = rw (not_it opcode.IALOAD code not_iaload, not_it opcode.LALOAD code not_laload, not_it opcode.AALOAD code not_aaload, not_it opcode.BALOAD code not_baload, not_it opcode.CALOAD code not_caload, not_it opcode.SALOAD code not_saload, not_it opcode.IASTORE code not_iastore, not_it opcode.LASTORE code not_lastore, not_it opcode.AASTORE code not_aastore, not_it opcode.BASTORE code not_bastore, not_it opcode.CASTORE code not_castore, not_it opcode.SASTORE code not_sastore) refl

pub no_stack_move : (code : ℕ) → code ≢ opcode.POP → code ≢ opcode.POP2 → code ≢ opcode.DUP → code ≢ opcode.DUP_X1 → code ≢ opcode.DUP_X2 → code ≢ opcode.DUP2 → code ≢ opcode.DUP2_X1 → code ≢ opcode.DUP2_X2 → code ≢ opcode.SWAP → list_any (λ n. n == code) stack_move_codes ≡ false
no_stack_move code not_pop not_pop2 not_dup not_dup_x1 not_dup_x2 not_dup2 not_dup2_x1 not_dup2_x2 not_swap = rw (not_it opcode.POP code not_pop, not_it opcode.POP2 code not_pop2, not_it opcode.DUP code not_dup, not_it opcode.DUP_X1 code not_dup_x1, not_it opcode.DUP_X2 code not_dup_x2, not_it opcode.DUP2 code not_dup2, not_it opcode.DUP2_X1 code not_dup2_x1, not_it opcode.DUP2_X2 code not_dup2_x2, not_it opcode.SWAP code not_swap) refl

pub no_arithmetic : (code : ℕ) → code ≢ opcode.IADD → code ≢ opcode.LADD → code ≢ opcode.ISUB → code ≢ opcode.LSUB → code ≢ opcode.IMUL → code ≢ opcode.LMUL → code ≢ opcode.IDIV → code ≢ opcode.LDIV → code ≢ opcode.IREM → code ≢ opcode.LREM → code ≢ opcode.ISHL → code ≢ opcode.LSHL → code ≢ opcode.ISHR → code ≢ opcode.LSHR → code ≢ opcode.IUSHR → code ≢ opcode.LUSHR → code ≢ opcode.IAND → code ≢ opcode.LAND → code ≢ opcode.IOR → code ≢ opcode.LOR → code ≢ opcode.IXOR → code ≢ opcode.LXOR → list_any (λ n. n == code) arithmetic_codes ≡ false
no_arithmetic code not_iadd not_ladd not_isub not_lsub not_imul not_lmul not_idiv not_ldiv not_irem not_lrem not_ishl not_lshl not_ishr not_lshr not_iushr not_lushr not_iand not_land not_ior not_lor not_ixor not_lxor = rw (not_it opcode.IADD code not_iadd, not_it opcode.LADD code not_ladd, not_it opcode.ISUB code not_isub, not_it opcode.LSUB code not_lsub, not_it opcode.IMUL code not_imul, not_it opcode.LMUL code not_lmul, not_it opcode.IDIV code not_idiv, not_it opcode.LDIV code not_ldiv, not_it opcode.IREM code not_irem, not_it opcode.LREM code not_lrem, not_it opcode.ISHL code not_ishl, not_it opcode.LSHL code not_lshl, not_it opcode.ISHR code not_ishr, not_it opcode.LSHR code not_lshr, not_it opcode.IUSHR code not_iushr, not_it opcode.LUSHR code not_lushr, not_it opcode.IAND code not_iand, not_it opcode.LAND code not_land, not_it opcode.IOR code not_ior, not_it opcode.LOR code not_lor, not_it opcode.IXOR code not_ixor, not_it opcode.LXOR code not_lxor) refl

pub no_conversion : (code : ℕ) → code ≢ opcode.INEG → code ≢ opcode.LNEG → code ≢ opcode.I2L → code ≢ opcode.L2I → code ≢ opcode.I2B → code ≢ opcode.I2C → code ≢ opcode.I2S → code ≢ opcode.LCMP → list_any (λ n. n == code) conversion_codes ≡ false
no_conversion code not_ineg not_lneg not_i2l not_l2i not_i2b not_i2c not_i2s not_lcmp = rw (not_it opcode.INEG code not_ineg, not_it opcode.LNEG code not_lneg, not_it opcode.I2L code not_i2l, not_it opcode.L2I code not_l2i, not_it opcode.I2B code not_i2b, not_it opcode.I2C code not_i2c, not_it opcode.I2S code not_i2s, not_it opcode.LCMP code not_lcmp) refl

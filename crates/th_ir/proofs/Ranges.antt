-- The results of arithmetic are ints of 32 bits.
use Rattle.std.proofs.Common.{◌≡◌, ℕ, suc, ◌-◌, ◌/◌, ◌%◌, ◌^◌, ◌<◌, ◌≤◌, ℤ, pos, negsuc, ◌-ℤ◌, neg_ℤ, Bool, true, false, cond, Option, None, Some, refl, subst, arith, div-le_self}
use Rattle.std.specs.Prelude.{nat_lt, ◌==◌, unsigned_abs, int_div, int_rem, bit_and, bit_or, bit_xor, if◌then◌else◌}
use Rattle.std.proofs.lemmas.Int.{ints}
use Rattle.std.proofs.lemmas.Nat.{and_le_l, or_lt, xor_lt, div-add-mod'}
use Rattle.th_base.specs.declared.operation.ArithOp.{ArithOp}
use Rattle.th_base.specs.declared.operation.ArithOp.TheVariants.{Add, Sub, Mul, Div, Rem, Shl, Shr, Ushr, And, Or, Xor}
use Rattle.th_base.specs.declared.operation.NarrowOp.{NarrowOp}
use Rattle.th_base.specs.declared.operation.NarrowOp.TheVariants.{Byte as ToByte, Char as ToChar, Short as ToShort}
use Rattle.th_wrap.specs.TwosComplement.{low_bits, signed_value, wrapped_value, IsInSignedRange}
use Rattle.th_wrap.specs.Arithmetic.{int_distance, right_shift}
use Rattle.th_wrap.proofs.Range.{wrapped_in_range}
use Rattle.th_wrap.proofs.Widths.{low_bits-below}
use Rattle.th_ir.specs.Effects.{IsInt, arithmetic_of, narrowed}
use Rattle.th_ir.proofs.Plain.{some_is}

by_sign : (n : ℕ) (b : Bool) → nat_lt n (2 ^ 31) ≡ b → n < 2 ^ 32 → IsInt (cond b (pos n) (pos n -ℤ pos (2 ^ 32)))
by_sign n true e few = let below : n < 2 ^ 31 = grind arith in record { low = omega (arith, ints); high = omega (arith, ints) }
by_sign n false e few = let above : 2 ^ 31 ≤ n = grind arith in record { low = omega (arith, ints); high = omega (arith, ints) }

signed_in : (n : ℕ) → n < 2 ^ 32 → IsInt (signed_value 32 n)
unfolding signed_value
signed_in n few = by_sign n (nat_lt n (2 ^ 31)) refl few

given_in : (m r : ℤ) → (let o : Option ℤ = Some m in o) ≡ Some r → IsInt m → IsInt r
given_in m r e int = subst IsInt (some_is m r e) int

quotient_in : (a b r : ℤ) (zero_divisor : Bool) → (if zero_divisor then None else Some (wrapped_value 32 (int_div a b))) ≡ Some r → IsInt r
quotient_in a b r true e = absurd cc
quotient_in a b r false e = given_in (wrapped_value 32 (int_div a b)) r e (wrapped_in_range 32 (int_div a b) (omega arith))

negative_in : (n : ℕ) → n ≤ 2 ^ 31 → IsInt (neg_ℤ (pos n))
negative_in n few = record { low = omega (arith, ints); high = omega (arith, ints) }

rest_in : (a b : ℤ) → IsInt a → IsInt (int_rem a b)
rest_in (pos a) (pos b) int = let e = div-add-mod' a b in let high = int.high in record { low = omega (arith, ints); high = omega (arith, ints) }
rest_in (pos a) (negsuc b) int = let e = div-add-mod' a (suc b) in let high = int.high in record { low = omega (arith, ints); high = omega (arith, ints) }
rest_in (negsuc a) (pos b) int = let e = div-add-mod' (suc a) b in let low = int.low in negative_in (suc a % b) (omega (arith, ints))
rest_in (negsuc a) (negsuc b) int = let e = div-add-mod' (suc a) (suc b) in let low = int.low in negative_in (suc a % suc b) (omega (arith, ints))

remainder_in : (a b r : ℤ) (zero_divisor : Bool) → IsInt a → (if zero_divisor then None else Some (int_rem a b)) ≡ Some r → IsInt r
remainder_in a b r true int e = absurd cc
remainder_in a b r false int e = given_in (int_rem a b) r e (rest_in a b int)

shifted_in : (a : ℤ) (d : ℕ) → IsInt a → IsInt (right_shift a d)
shifted_in (pos n) d int = let less = div-le_self n (2 ^ d) in let high = int.high in record { low = omega (arith, ints); high = omega (arith, ints) }
shifted_in (negsuc n) d int = let less = div-le_self n (2 ^ d) in let low = int.low in record { low = omega (arith, ints); high = omega (arith, ints) }

pub arithmetic_in : (op : ArithOp) (a b r : ℤ) → IsInt a → arithmetic_of op a b ≡ Some r → IsInt r
arithmetic_in Add a b r int e = given_in _ r e (wrapped_in_range 32 _ (omega arith))
arithmetic_in Sub a b r int e = given_in _ r e (wrapped_in_range 32 _ (omega arith))
arithmetic_in Mul a b r int e = given_in _ r e (wrapped_in_range 32 _ (omega arith))
arithmetic_in Div a b r int e = quotient_in a b r (unsigned_abs b == 0) e
arithmetic_in Rem a b r int e = remainder_in a b r (unsigned_abs b == 0) int e
arithmetic_in Shl a b r int e = given_in _ r e (wrapped_in_range 32 _ (omega arith))
arithmetic_in Shr a b r int e = given_in (right_shift a (int_distance b)) r e (shifted_in a (int_distance b) int)
arithmetic_in Ushr a b r int e =
    let few = low_bits-below 32 a in let less = div-le_self (low_bits 32 a) (2 ^ int_distance b) in
    given_in _ r e (signed_in (low_bits 32 a / 2 ^ int_distance b) (omega arith))
arithmetic_in And a b r int e =
    let few = low_bits-below 32 a in let less = and_le_l (low_bits 32 a) (low_bits 32 b) in
    given_in _ r e (signed_in (bit_and (low_bits 32 a) (low_bits 32 b)) (omega arith))
arithmetic_in Or a b r int e =
    given_in _ r e (signed_in (bit_or (low_bits 32 a) (low_bits 32 b)) (or_lt 32 (low_bits 32 a) (low_bits 32 b) (low_bits-below 32 a) (low_bits-below 32 b)))
arithmetic_in Xor a b r int e =
    given_in _ r e (signed_in (bit_xor (low_bits 32 a) (low_bits 32 b)) (xor_lt 32 (low_bits 32 a) (low_bits 32 b) (low_bits-below 32 a) (low_bits-below 32 b)))

small_in : (w : ℕ) (z : ℤ) → 2 ^ (w - 1) < 2 ^ 31 → IsInSignedRange w z → IsInt z
small_in w z less is = let low = is.low in let high = is.high in record { low = omega (arith, ints); high = omega (arith, ints) }

pub narrowed_in : (op : NarrowOp) (a : ℤ) → IsInt (narrowed op a)
narrowed_in ToByte a = small_in 8 (wrapped_value 8 a) (omega arith) (wrapped_in_range 8 a (omega arith))
narrowed_in ToChar a = let few = low_bits-below 16 a in record { low = omega (arith, ints); high = omega (arith, ints) }
narrowed_in ToShort a = small_in 16 (wrapped_value 16 a) (omega arith) (wrapped_in_range 16 a (omega arith))

pub small_number : (n : ℕ) → n < 2 ^ 31 → IsInt (pos n)
small_number n few = record { low = omega (arith, ints); high = omega (arith, ints) }

-- What the arithmetic instructions of the Java machine compute at a type of w bits (Java specification 6.5). An operand is the integer that it holds.
use Rattle.std.specs.Prelude.{ℕ, ◌/◌, ◌^◌, ℤ, pos, negsuc, ◌+ℤ◌, ◌-ℤ◌, ◌*ℤ◌, neg_ℤ, ◌==◌, Option, Some, None, if◌then◌else◌, bit_and, bit_or, bit_xor, unsigned_abs, int_lt, int_div, int_rem}
use Rattle.th_wrap.specs.TwosComplement.{low_bits, signed_value, wrapped_value}

-- iadd, ladd
abbrev pub sum_of : ℕ → ℤ → ℤ → ℤ
sum_of w a b = wrapped_value w (a +ℤ b)

-- isub, lsub
abbrev pub difference_of : ℕ → ℤ → ℤ → ℤ
difference_of w a b = wrapped_value w (a -ℤ b)

-- imul, lmul
abbrev pub product_of : ℕ → ℤ → ℤ → ℤ
product_of w a b = wrapped_value w (a *ℤ b)

-- ineg, lneg
abbrev pub negation_of : ℕ → ℤ → ℤ
negation_of w a = wrapped_value w (neg_ℤ a)

-- idiv, ldiv: the quotient rounded toward zero, and none where the divisor is 0
abbrev pub quotient_of : ℕ → ℤ → ℤ → Option ℤ
quotient_of w a b = if unsigned_abs b == 0 then None else Some (wrapped_value w (int_div a b))

-- irem, lrem: what the quotient rounded toward zero leaves, and none where the divisor is 0
abbrev pub remainder_of : ℤ → ℤ → Option ℤ
remainder_of a b = if unsigned_abs b == 0 then None else Some (int_rem a b)

-- iand, land, ior, lor, ixor, lxor: bit by bit in two's complement
abbrev pub bitwise_and : ℕ → ℤ → ℤ → ℤ
bitwise_and w a b = signed_value w (bit_and (low_bits w a) (low_bits w b))

abbrev pub bitwise_or : ℕ → ℤ → ℤ → ℤ
bitwise_or w a b = signed_value w (bit_or (low_bits w a) (low_bits w b))

abbrev pub bitwise_xor : ℕ → ℤ → ℤ → ℤ
bitwise_xor w a b = signed_value w (bit_xor (low_bits w a) (low_bits w b))

-- the distance of a shift of an `int`: the five low-order bits of the second operand
abbrev pub int_distance : ℤ → ℕ
int_distance b = low_bits 5 b

-- the distance of a shift of a `long`: the six low-order bits of the second operand, which is an `int`
abbrev pub long_distance : ℤ → ℕ
long_distance b = low_bits 6 b

-- ishl, lshl: to the left by a distance, zeros coming in
abbrev pub left_shift : ℕ → ℤ → ℕ → ℤ
left_shift w a distance = wrapped_value w (a *ℤ pos (2 ^ distance))

-- ishr, lshr: to the right by a distance, the sign coming in. It is a / 2 ^ distance, rounded down
abbrev pub right_shift : ℤ → ℕ → ℤ
right_shift (pos n) distance = pos (n / 2 ^ distance)
right_shift (negsuc n) distance = negsuc (n / 2 ^ distance)

-- iushr, lushr: to the right by a distance, zeros coming in
abbrev pub unsigned_right_shift : ℕ → ℤ → ℕ → ℤ
unsigned_right_shift w a distance = signed_value w (low_bits w a / 2 ^ distance)

-- i2b, i2s, l2i: the low-order bits, as a value of the narrower signed type
abbrev pub narrowing_of : ℕ → ℤ → ℤ
narrowing_of w a = wrapped_value w a

-- i2c: the 16 low-order bits, as a number that is not negative
abbrev pub char_of : ℤ → ℤ
char_of a = pos (low_bits 16 a)

-- lcmp: 1 where a is greater, 0 where they are equal, -1 where a is less
abbrev pub comparison_of : ℤ → ℤ → ℤ
comparison_of a b = if int_lt b a then pos 1 else (if int_lt a b then negsuc 0 else pos 0)

-- Integers of w bits in two's complement: 32 for the Java type `int`, 64 for `long`, 16 for `short`, 8 for `byte` (Java specification 2.3.1).
use Rattle.std.specs.Prelude.{ℕ, ◌-◌, ◌%◌, ◌^◌, ℤ, pos, negsuc, ◌+ℤ◌, ◌-ℤ◌, ◌*ℤ◌, neg_ℤ, ◌≤ℤ◌, ◌<ℤ◌, ◌≡◌, nat_lt, if◌then◌else◌}

-- the w low-order bits of an integer in two's complement, as a number below 2 ^ w
unfoldable pub low_bits : ℕ → ℤ → ℕ
low_bits w (pos n) = n % 2 ^ w
low_bits w (negsuc n) = 2 ^ w - 1 - n % 2 ^ w

-- the value of w bits in two's complement: the highest of them counts as - 2 ^ (w - 1)
unfoldable pub signed_value : ℕ → ℕ → ℤ
signed_value w n = if nat_lt n (2 ^ (w - 1)) then pos n else (pos n -ℤ pos (2 ^ w))

-- an integer modulo 2 ^ w, into the signed range: "the w low-order bits of the true result, represented as a value of the type"
unfoldable pub wrapped_value : ℕ → ℤ → ℤ
wrapped_value w z = signed_value w (low_bits w z)

-- the signed range of w bits
pub record IsInSignedRange (w : ℕ) (z : ℤ) : Type 0 where
  pub low : neg_ℤ (pos (2 ^ (w - 1))) ≤ℤ z
  pub high : z <ℤ pos (2 ^ (w - 1))

-- the two integers differ by a multiple of 2 ^ w
abbrev pub IsCongruent : ℕ → ℤ → ℤ → Type 0
IsCongruent w y z = (k : ℤ) × (y ≡ z +ℤ pos (2 ^ w) *ℤ k)

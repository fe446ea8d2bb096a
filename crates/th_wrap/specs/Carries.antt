-- How far a wrapped value is from the exact one.
use Rattle.std.specs.Prelude.{ℕ, ◌^◌, ℤ, pos, negsuc, ◌+ℤ◌, ◌*ℤ◌, ◌≡◌, ◌⊎◌}

-- -1, 0 or 1
abbrev pub IsCarry : ℤ → Type 0
IsCarry k = (k ≡ negsuc 0) ⊎ (k ≡ pos 0) ⊎ (k ≡ pos 1)

-- exactly one k of -1, 0 and 1 has: the result is the exact value plus 2 ^ w times k
pub record HasOneCarry (w : ℕ) (exact wrapped : ℤ) : Type 0 where
  pub carry : (k : ℤ) × (IsCarry k × (wrapped ≡ exact +ℤ pos (2 ^ w) *ℤ k))
  pub at_most_one : (j k : ℤ) → IsCarry j → IsCarry k → wrapped ≡ exact +ℤ pos (2 ^ w) *ℤ j → wrapped ≡ exact +ℤ pos (2 ^ w) *ℤ k → j ≡ k

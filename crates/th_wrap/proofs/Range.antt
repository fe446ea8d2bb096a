-- Wrapping is the one way into the signed range, and is one step of 2 ^ w away from a sum.
use Rattle.std.proofs.Common.{◌≡◌, ℕ, zero, suc, ◌+◌, ◌*◌, ◌-◌, ◌/◌, ◌^◌, ◌<◌, ◌≤◌, ℤ, pos, negsuc, ◌+ℤ◌, ◌-ℤ◌, ◌*ℤ◌, neg_ℤ, ◌≤ℤ◌, Bool, true, false, cond, refl, ap, arith, inl, inr}
use Rattle.std.proofs.Math.Nat.{mod-lt, two-pow-succ, div-add-mod', mul-le-mul_left}
use Rattle.std.proofs.lemmas.Nat.{pow_pos}
use Rattle.std.proofs.lemmas.Int.{ints}
use Rattle.std.specs.Prelude.{nat_lt}
use borrow.Author.Differences.{up, down}
use Rattle.th_wrap.specs.TwosComplement.{low_bits, signed_value, wrapped_value, IsInSignedRange, IsCongruent}
use Rattle.th_wrap.specs.Carries.{IsCarry, HasOneCarry}
use Rattle.th_wrap.proofs.Widths.{low_bits-below}

-- 2 ^ w is twice its half
twice : (w : ℕ) → 0 < w → 2 ^ w ≡ 2 ^ (w - 1) + 2 ^ (w - 1)
twice zero p = absurd (omega arith)
twice (suc w) p = let e : suc w - 1 ≡ w = omega arith in rw e (two-pow-succ w)

value_in_range : (w n : ℕ) (b : Bool) → nat_lt n (2 ^ (w - 1)) ≡ b → 0 < w → n < 2 ^ w → IsInSignedRange w (cond b (pos n) (pos n -ℤ pos (2 ^ w)))
value_in_range w n true e p q = let t = twice w p in let below : n < 2 ^ (w - 1) = grind arith in record { low = omega (arith, ints); high = omega (arith, ints) }
value_in_range w n false e p q = let t = twice w p in let above : 2 ^ (w - 1) ≤ n = grind arith in record { low = omega (arith, ints); high = omega (arith, ints) }

pub wrapped_in_range : (w : ℕ) (z : ℤ) → 0 < w → IsInSignedRange w (wrapped_value w z)
unfolding wrapped_value signed_value
wrapped_in_range w z p = value_in_range w (low_bits w z) (nat_lt (low_bits w z) (2 ^ (w - 1))) refl p (low_bits-below w z)

-- a product of a sum, in the two parts of which `omega` reads an integer
times-sum : (m : ℕ) (j k : ℤ) → pos m *ℤ (j +ℤ k) ≡ pos m *ℤ j +ℤ pos m *ℤ k
times-sum m j k =
    let s : up (j +ℤ k) + (down j + down k) ≡ down (j +ℤ k) + (up j + up k) = omega (arith, ints) in
    let t = ap (λ x. m * x) s in
    omega (arith, ints, t)

times-negation : (m : ℕ) (k : ℤ) → pos m *ℤ neg_ℤ k ≡ neg_ℤ (pos m *ℤ k)
times-negation m k =
    let t : m * up (neg_ℤ k) ≡ m * down k = ap (λ x. m * x) (omega (arith, ints)) in
    let u : m * down (neg_ℤ k) ≡ m * up k = ap (λ x. m * x) (omega (arith, ints)) in
    omega (arith, ints, t, u)

congruent_value : (w n : ℕ) (b : Bool) (z : ℤ) → IsCongruent w (pos n) z → IsCongruent w (cond b (pos n) (pos n -ℤ pos (2 ^ w))) z
congruent_value w n true z c = c
congruent_value w n false z c = let e = c.1 in let t = times-sum (2 ^ w) c.0 (negsuc 0) in (c.0 -ℤ pos 1, omega (arith, ints))

pub low_bits-congruent : (w : ℕ) (z : ℤ) → IsCongruent w (pos (low_bits w z)) z
unfolding low_bits
low_bits-congruent w (pos n) = (neg_ℤ (pos (n / 2 ^ w)), omega (arith, ints, times-negation (2 ^ w) (pos (n / 2 ^ w)), div-add-mod' n (2 ^ w)))
low_bits-congruent w (negsuc n) = let s = mod-lt n (pow_pos w) in (pos (n / 2 ^ w + 1), omega (arith, ints, div-add-mod' n (2 ^ w)))

pub wrapped_congruent : (w : ℕ) (z : ℤ) → IsCongruent w (wrapped_value w z) z
unfolding wrapped_value signed_value
wrapped_congruent w z = congruent_value w (low_bits w z) (nat_lt (low_bits w z) (2 ^ (w - 1))) z (low_bits-congruent w z)

-- two numbers of the signed range that differ by a multiple of 2 ^ w are one
one_in_range : (w : ℕ) (y z k : ℤ) → 0 < w → IsInSignedRange w y → IsInSignedRange w z → y ≡ z +ℤ pos (2 ^ w) *ℤ k → y ≡ z
one_in_range w y z (pos zero) p f g e = omega (arith, ints)
one_in_range w y z (pos (suc k)) p f g e = absurd (omega (arith, ints, twice w p, mul-le-mul_left {m = 1} {n = suc k} (2 ^ w) (omega arith)))
one_in_range w y z (negsuc k) p f g e = absurd (omega (arith, ints, twice w p))

pub wrapped_only : (w : ℕ) (y z : ℤ) → 0 < w → IsInSignedRange w y → IsCongruent w y z → y ≡ wrapped_value w z
wrapped_only w y z p f c =
    let d = wrapped_congruent w z in
    let e = c.1 in
    let h = d.1 in
    let t = times-sum (2 ^ w) c.0 (neg_ℤ d.0) in
    let u = times-negation (2 ^ w) d.0 in
    one_in_range w y (wrapped_value w z) (c.0 -ℤ d.0) p f (wrapped_in_range w z p) (omega (arith, ints))

-- ---- one step of 2 ^ w

one_step : (w : ℕ) (z r k : ℤ) → 0 < w → neg_ℤ (pos (2 ^ w)) ≤ℤ z → z ≤ℤ pos (2 ^ w) → IsInSignedRange w r → r ≡ z +ℤ pos (2 ^ w) *ℤ k → IsCarry k
one_step w z r (pos zero) p l h f e = inr (inl refl)
one_step w z r (pos (suc zero)) p l h f e = inr (inr refl)
one_step w z r (pos (suc (suc k))) p l h f e = absurd (omega (arith, ints, twice w p, pow_pos w, mul-le-mul_left {m = 2} {n = suc (suc k)} (2 ^ w) (omega arith)))
one_step w z r (negsuc zero) p l h f e = inl refl
one_step w z r (negsuc (suc k)) p l h f e = absurd (omega (arith, ints, twice w p, pow_pos w, mul-le-mul_left {m = 2} {n = suc (suc k)} (2 ^ w) (omega arith)))

same_step : (m : ℕ) (z r j k : ℤ) → 0 < m → IsCarry j → IsCarry k → r ≡ z +ℤ pos m *ℤ j → r ≡ z +ℤ pos m *ℤ k → j ≡ k
same_step m z r j k p f g d e = grind (arith, ints)

-- a number from -2 ^ w to 2 ^ w is wrapped_value by at most one step
pub wrapped_one_carry : (w : ℕ) (z : ℤ) → 0 < w → neg_ℤ (pos (2 ^ w)) ≤ℤ z → z ≤ℤ pos (2 ^ w) → HasOneCarry w z (wrapped_value w z)
wrapped_one_carry w z p l h =
    let c = wrapped_congruent w z in
    record {
      carry = (c.0, (one_step w z (wrapped_value w z) c.0 p l h (wrapped_in_range w z p) c.1, c.1));
      at_most_one = λ j k f g. same_step (2 ^ w) z (wrapped_value w z) j k (pow_pos w) f g;
    }

pub sum_one_carry : (w : ℕ) (a b : ℤ) → 0 < w → IsInSignedRange w a → IsInSignedRange w b → HasOneCarry w (a +ℤ b) (wrapped_value w (a +ℤ b))
sum_one_carry w a b p f g = wrapped_one_carry w (a +ℤ b) p (omega (arith, ints, twice w p)) (omega (arith, ints, twice w p))

pub difference_one_carry : (w : ℕ) (a b : ℤ) → 0 < w → IsInSignedRange w a → IsInSignedRange w b → HasOneCarry w (a -ℤ b) (wrapped_value w (a -ℤ b))
difference_one_carry w a b p f g = wrapped_one_carry w (a -ℤ b) p (omega (arith, ints, twice w p)) (omega (arith, ints, twice w p))

pub negation_one_carry : (w : ℕ) (a : ℤ) → 0 < w → IsInSignedRange w a → HasOneCarry w (neg_ℤ a) (wrapped_value w (neg_ℤ a))
negation_one_carry w a p f = wrapped_one_carry w (neg_ℤ a) p (omega (arith, ints, twice w p)) (omega (arith, ints, twice w p))

-- ---- narrow types

pub byte_in_range : (a : ℤ) → (neg_ℤ (pos 128) ≤ℤ wrapped_value 8 a) × (wrapped_value 8 a ≤ℤ pos 127)
byte_in_range a = let r = wrapped_in_range 8 a (omega arith) in let low = r.low in let high = r.high in (low, omega (arith, ints, high))

pub short_in_range : (a : ℤ) → (neg_ℤ (pos 32768) ≤ℤ wrapped_value 16 a) × (wrapped_value 16 a ≤ℤ pos 32767)
short_in_range a = let r = wrapped_in_range 16 a (omega arith) in let low = r.low in let high = r.high in (low, omega (arith, ints, high))

pub char_in_range : (a : ℤ) → (pos 0 ≤ℤ pos (low_bits 16 a)) × (pos (low_bits 16 a) ≤ℤ pos 65535)
char_in_range a = let below : low_bits 16 a < 65536 = low_bits-below 16 a in (omega (arith, ints), omega (arith, ints))

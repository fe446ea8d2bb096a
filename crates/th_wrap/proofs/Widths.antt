-- The definitions over a number of bits agree with the words of std over a width.
use Rattle.std.proofs.Common.{◌≡◌, ℕ, zero, suc, ◌+◌, ◌*◌, ◌-◌, ◌/◌, ◌%◌, ◌^◌, ◌<◌, ◌≤◌, ℤ, pos, negsuc, ◌+ℤ◌, ◌-ℤ◌, ◌*ℤ◌, neg_ℤ, Bool, true, false, cond, refl, ap, sym, ◌∙◌, arith, subst, None, Some}
use Rattle.std.proofs.Math.Nat.{mod-eq_of_lt, mod-lt, div-le_self}
use Rattle.std.proofs.lemmas.Nat.{pow_pos, pow_below}
use Rattle.std.proofs.lemmas.Int.{ints, to_z-of_z, wrapping_add_is, wrapping_sub_is, wrapping_mul_is, wrapping_neg_is, wrapping_mul_onto, int_wrap-mul_left, int_rem_euclid_is}
use Rattle.std.specs.Int.{Width, w8, w16, w32, w64, w128, int_wrap, cast_unsigned, cast_signed, int_wrapping_neg, int_wrapping_div, int_shl, int_shr}
use Rattle.std.specs.Prelude.{unsigned_abs, nat_lt, nat_eq, FitsSigned, int_div}
use Rattle.std.proofs.Math.IntN.{*ℤ_comm}
use Rattle.std.proofs.lemmas.Bool.Decides.{nat_tests}
use lib.Signed.{mag}
use mir.Val.{bits, hbits}
use Rattle.th_wrap.specs.TwosComplement.{low_bits, signed_value, wrapped_value}
use Rattle.th_wrap.specs.Arithmetic.{quotient_of, left_shift, right_shift, unsigned_right_shift}

-- the highest bit of a width, and the bits below it
half : (w : Width) → (2 ^ (bits w - 1) ≡ 2 ^ hbits w) × (2 ^ bits w ≡ 2 ^ hbits w + 2 ^ hbits w)
half w8 = (refl, refl)
half w16 = (refl, refl)
half w32 = (refl, refl)
half w64 = (refl, refl)
half w128 = (refl, refl)

below_or_not : (h m n : ℕ) (b : Bool) → n < m → cond b (pos n) (pos n -ℤ pos m) ≡ cond b (pos n) (negsuc (m - suc n))
below_or_not h m n true p = refl
below_or_not h m n false p = omega (arith, ints)

pub signed_value_is : (w : Width) (n : ℕ) → n < 2 ^ bits w → signed_value (bits w) n ≡ cast_signed w n
unfolding signed_value
signed_value_is w n p = ap (λ h. cond (nat_lt n h) (pos n) (pos n -ℤ pos (2 ^ bits w))) (half w).0 ∙ below_or_not (2 ^ hbits w) (2 ^ bits w) n (nat_lt n (2 ^ hbits w)) p

-- an integer that is at most half out of its range
pub low_bits_is : (w : Width) (z : ℤ) → mag z < 2 ^ bits w → low_bits (bits w) z ≡ cast_unsigned w z
unfolding low_bits
low_bits_is w (pos n) p = mod-eq_of_lt p
low_bits_is w (negsuc n) p = ap (λ k. 2 ^ bits w - 1 - k) (mod-eq_of_lt p) ∙ omega arith

pub low_bits-below : (w : ℕ) (z : ℤ) → low_bits w z < 2 ^ w
unfolding low_bits
low_bits-below w (pos n) = mod-lt n (pow_pos w)
low_bits-below w (negsuc n) = omega (arith, pow_pos w)

pub wrapped_is : (w : Width) (z : ℤ) → wrapped_value (bits w) z ≡ int_wrap w z
unfolding wrapped_value low_bits int_wrap
wrapped_is w (pos n) = signed_value_is w _ (low_bits-below (bits w) (pos n))
wrapped_is w (negsuc n) = signed_value_is w _ (low_bits-below (bits w) (negsuc n))

mag-small : (w : Width) (z : ℤ) → FitsSigned w z → mag z < 2 ^ bits w
mag-small w z f = let h = half w in omega (arith, f.sfits)

cast_unsigned-below : (w : Width) (z : ℤ) → FitsSigned w z → cast_unsigned w z < 2 ^ bits w
cast_unsigned-below w z f = subst (λ n. n < 2 ^ bits w) (low_bits_is w z (mag-small w z f)) (low_bits-below (bits w) z)

-- the d low-order bits are those of the number's bits, where these are a whole number of times d bits
pub low_bits-cast : (w : Width) (z : ℤ) (d k : ℕ) → FitsSigned w z → 2 ^ bits w ≡ k * 2 ^ d → cast_unsigned w z % 2 ^ d ≡ low_bits d z
unfolding low_bits
low_bits-cast w (pos n) d k f e = refl
low_bits-cast w (negsuc n) d k f e =
    let small = mag-small w (negsuc n) f in
    sym (ap unsigned_abs (int_rem_euclid_is (negsuc n) (pos (2 ^ d)) (2 ^ d) k (2 ^ bits w - suc n) (pow_pos d) refl (omega (arith, ints))))

-- ---- what the code's operations leave, at numbers of the signed range

-- a result of the range is read back as it is
pub kept : (w : Width) (r z : ℤ) → mag r < 2 ^ hbits w → r ≡ z → cast_signed w (cast_unsigned w r) ≡ z
kept w r z m e = to_z-of_z w r (record { sfits = m }) ∙ e

module _ (w : Width) (a b : ℤ) (f : FitsSigned w a) (g : FitsSigned w b) where
  pub sum_is : cast_signed w ((cast_unsigned w a + cast_unsigned w b) % 2 ^ bits w) ≡ wrapped_value (bits w) (a +ℤ b)
  sum_is = wrapping_add_is w a b f g ∙ sym (wrapped_is w (a +ℤ b))

  pub difference_is : cast_signed w ((cast_unsigned w a + (2 ^ bits w - cast_unsigned w b)) % 2 ^ bits w) ≡ wrapped_value (bits w) (a -ℤ b)
  difference_is = wrapping_sub_is w a b f g ∙ sym (wrapped_is w (a -ℤ b))

  pub product_is : cast_signed w ((cast_unsigned w a * cast_unsigned w b) % 2 ^ bits w) ≡ wrapped_value (bits w) (a *ℤ b)
  product_is = wrapping_mul_is w a b f g ∙ sym (wrapped_is w (a *ℤ b))

  -- an operation on bits that makes no new ones
  pub bitwise_is : (op : ℕ → ℕ → ℕ) → ((k m n : ℕ) → m < 2 ^ k → n < 2 ^ k → op m n < 2 ^ k)
      → cast_signed w (op (cast_unsigned w a) (cast_unsigned w b)) ≡ signed_value (bits w) (op (low_bits (bits w) a) (low_bits (bits w) b))
  bitwise_is op small =
      sym (signed_value_is w _ (small (bits w) _ _ (cast_unsigned-below w a f) (cast_unsigned-below w b g)))
      ∙ (λ i. signed_value (bits w) (op (sym (low_bits_is w a (mag-small w a f)) i) (sym (low_bits_is w b (mag-small w b g)) i)))

module _ (w : Width) (a r : ℤ) (f : FitsSigned w a) (m : mag r < 2 ^ hbits w) where
  back : (P : ℤ → ℤ) → P (cast_signed w (cast_unsigned w a)) ≡ P a
  back P = ap P (to_z-of_z w a f)

  pub negation_is : r ≡ int_wrapping_neg w (cast_signed w (cast_unsigned w a)) → cast_signed w (cast_unsigned w r) ≡ wrapped_value (bits w) (neg_ℤ a)
  negation_is e = kept w r _ m (e ∙ back (int_wrapping_neg w) ∙ wrapping_neg_is w a f ∙ sym (wrapped_is w (neg_ℤ a)))

mag-neg : (n : ℕ) → mag (neg_ℤ (pos n)) ≤ n
mag-neg zero = omega arith
mag-neg (suc n) = omega arith

mag-int_div : (a b : ℤ) → mag (int_div a b) ≤ suc (mag a)
mag-int_div (pos a) (pos b) = omega (arith, div-le_self a b)
mag-int_div (pos a) (negsuc b) = omega (arith, div-le_self a (suc b), mag-neg (a / suc b))
mag-int_div (negsuc a) (pos b) = omega (arith, div-le_self (suc a) b, mag-neg (suc a / b))
mag-int_div (negsuc a) (negsuc b) = omega (arith, div-le_self (suc a) (suc b))

suc_not_zero : (n : ℕ) → nat_eq (suc n) 0 ≡ false
suc_not_zero n = grind (arith, nat_tests)

pub is_nonzero : (w : Width) (b : ℤ) → (cast_unsigned w b ≡ 0 → ⊥) → nat_eq (unsigned_abs b) 0 ≡ false
is_nonzero w (pos zero) h = absurd (h refl)
is_nonzero w (pos (suc n)) h = suc_not_zero n
is_nonzero w (negsuc n) h = suc_not_zero n

-- the quotient of two numbers of the range is at most one out of it
wrapped_value-int_div : (w : Width) (a b : ℤ) → FitsSigned w a → cast_signed w (cast_unsigned w (int_div a b)) ≡ wrapped_value (bits w) (int_div a b)
unfolding wrapped_value
wrapped_value-int_div w a b f =
    let h = half w in
    let p = pow_pos (hbits w) in
    let small : mag (int_div a b) < 2 ^ bits w = omega (arith, mag-int_div a b, f.sfits) in
    let same = low_bits_is w (int_div a b) small in
    sym (ap (signed_value (bits w)) same ∙ signed_value_is w _ (subst (λ n. n < 2 ^ bits w) same (low_bits-below (bits w) (int_div a b))))

pub quotient_is : (w : Width) (a b r : ℤ) → FitsSigned w a → FitsSigned w b → (cast_unsigned w b ≡ 0 → ⊥) → mag r < 2 ^ hbits w
    → r ≡ int_wrapping_div w (cast_signed w (cast_unsigned w a)) (cast_signed w (cast_unsigned w b))
    → quotient_of (bits w) a b ≡ Some (cast_signed w (cast_unsigned w r))
quotient_is w a b r f g z m e =
    ap (λ t. cond t None (Some (wrapped_value (bits w) (int_div a b)))) (is_nonzero w b z)
    ∙ sym (ap Some (kept w r (wrapped_value (bits w) (int_div a b)) m (e ∙ (λ i. int_wrapping_div w (to_z-of_z w a f i) (to_z-of_z w b g i)) ∙ wrapped_value-int_div w a b f)))

-- ---- shifts of a by the d low-order bits of b

pub right_shift_is : (a : ℤ) (k : ℕ) → int_shr a k ≡ right_shift a k
right_shift_is (pos n) k = refl
right_shift_is (negsuc n) k = refl

left_shift_is : (w : Width) (a : ℤ) (k : ℕ) → FitsSigned w a → k < bits w → int_shl w a k ≡ left_shift (bits w) a k
unfolding int_wrap
left_shift_is w a k f p =
    let q = pow_below k (bits w) p in
    let turned : cast_unsigned w a * 2 ^ k ≡ 2 ^ k * cast_unsigned w a = omega arith in
    let one : cast_signed w (2 ^ k) ≡ int_wrap w (pos (2 ^ k)) = ap (cast_signed w) (sym (mod-eq_of_lt q)) in
    ap (λ n. cast_signed w (n % 2 ^ bits w)) turned ∙ wrapping_mul_onto w (2 ^ k) a q f
    ∙ ap (λ x. int_wrap w (x *ℤ a)) one ∙ int_wrap-mul_left w (pos (2 ^ k)) a
    ∙ ap (int_wrap w) (*ℤ_comm (pos (2 ^ k)) a) ∙ sym (wrapped_is w (a *ℤ pos (2 ^ k)))

module _ (w v : Width) (a b : ℤ) (d k u : ℕ) (f : FitsSigned w a) (g : FitsSigned v b) (whole : 2 ^ bits v ≡ k * 2 ^ d) (e : u ≡ cast_unsigned v (cast_signed v (cast_unsigned v b))) where
  distance_is : u % 2 ^ d ≡ low_bits d b
  distance_is = ap (λ n. n % 2 ^ d) (e ∙ ap (cast_unsigned v) (to_z-of_z v b g)) ∙ low_bits-cast v b d k g whole

  module _ (r : ℤ) (m : mag r < 2 ^ hbits w) where
    pub shl_is : 2 ^ d ≡ bits w → r ≡ int_shl w (cast_signed w (cast_unsigned w a)) (u % 2 ^ d) → cast_signed w (cast_unsigned w r) ≡ left_shift (bits w) a (low_bits d b)
    shl_is n h = kept w r _ m (h ∙ (λ i. int_shl w (to_z-of_z w a f i) (distance_is i)) ∙ left_shift_is w a (low_bits d b) f (subst (λ t. low_bits d b < t) n (low_bits-below d b)))

    pub shr_is : r ≡ int_shr (cast_signed w (cast_unsigned w a)) (u % 2 ^ d) → cast_signed w (cast_unsigned w r) ≡ right_shift a (low_bits d b)
    shr_is h = kept w r _ m (h ∙ (λ i. int_shr (to_z-of_z w a f i) (distance_is i)) ∙ right_shift_is a (low_bits d b))

    pub ushr_is : (s t : ℕ) → s ≡ cast_unsigned w (cast_signed w (cast_unsigned w a)) → t ≡ s / 2 ^ (u % 2 ^ d) → r ≡ cast_signed w t → cast_signed w (cast_unsigned w r) ≡ unsigned_right_shift (bits w) a (low_bits d b)
    ushr_is s t p q h =
        let from : s ≡ low_bits (bits w) a = p ∙ ap (cast_unsigned w) (to_z-of_z w a f) ∙ sym (low_bits_is w a (mag-small w a f)) in
        let to : t ≡ low_bits (bits w) a / 2 ^ low_bits d b = q ∙ (λ i. from i / 2 ^ distance_is i) in
        let small : low_bits (bits w) a / 2 ^ low_bits d b < 2 ^ bits w = omega (arith, div-le_self (low_bits (bits w) a) (2 ^ low_bits d b), low_bits-below (bits w) a) in
        kept w r _ m (h ∙ ap (cast_signed w) to ∙ sym (signed_value_is w _ small))

-- ---- narrowing from v to w

pub narrowed_is : (v w : Width) (a : ℤ) (k u : ℕ) → FitsSigned v a → 2 ^ bits v ≡ k * 2 ^ bits w → u ≡ cast_unsigned v (cast_signed v (cast_unsigned v a))
    → cast_signed w (u % 2 ^ bits w) ≡ wrapped_value (bits w) a
unfolding wrapped_value
narrowed_is v w a k u f whole e =
    let low : u % 2 ^ bits w ≡ low_bits (bits w) a = ap (λ n. n % 2 ^ bits w) (e ∙ ap (cast_unsigned v) (to_z-of_z v a f)) ∙ low_bits-cast v a (bits w) k f whole in
    ap (cast_signed w) low ∙ sym (signed_value_is w _ (low_bits-below (bits w) a))

-- Division toward zero.
use Rattle.std.proofs.Common.{◌≡◌, ℕ, zero, suc, ◌*◌, ◌/◌, ◌≤◌, ℤ, pos, negsuc, ◌*ℤ◌, neg_ℤ, refl, ap, sym, ◌∙◌, subst}
use Rattle.std.proofs.Math.Nat.{div-mul-le_self}
use Rattle.std.proofs.lemmas.Int.{unsigned_abs-mul}
use Rattle.std.specs.Prelude.{unsigned_abs, int_div}

abs-neg : (n : ℕ) → unsigned_abs (neg_ℤ (pos n)) ≡ n
abs-neg zero = refl
abs-neg (suc n) = refl

abs-int_div : (a b : ℤ) → unsigned_abs (int_div a b) ≡ unsigned_abs a / unsigned_abs b
abs-int_div (pos a) (pos b) = refl
abs-int_div (pos a) (negsuc b) = abs-neg (a / suc b)
abs-int_div (negsuc a) (pos b) = abs-neg (suc a / b)
abs-int_div (negsuc a) (negsuc b) = refl

pub toward_zero : (a b : ℤ) → unsigned_abs (int_div a b *ℤ b) ≤ unsigned_abs a
toward_zero a b = subst (λ n. n ≤ unsigned_abs a) (sym (unsigned_abs-mul (int_div a b) b ∙ ap (λ q. q * unsigned_abs b) (abs-int_div a b))) (div-mul-le_self (unsigned_abs a) (unsigned_abs b))

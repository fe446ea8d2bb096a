-- The number that decimal digits write, digit by digit.
use Rattle.std.proofs.Common.{◌≡◌, zero, suc, ◌+◌, ◌*◌, ◌-◌, ◌≤◌, ◌<◌, ◌^◌, ◌&&◌, ℕ, Bool, true, false, List, [], ◌∷◌, ◌++◌, length, get_or, arith, refl, ap, ◌∙◌}
use Rattle.std.proofs.Math.Nat.{pow-suc}
use Rattle.std.specs.List.{list_all}
use Rattle.std.proofs.lemmas.Bool.Decides.{nat_tests}
use Rattle.std.specs.Char.{is_ascii_digit, digit_value}
use Rattle.std.specs.Str.Parse.{digits_value_after}

-- one digit more
pub digit_more : (n : ℕ) (ds : List ℕ) (x : ℕ) → digits_value_after 10 n (ds ++ x ∷ []) ≡ digits_value_after 10 n ds * 10 + digit_value x
digit_more n [] x = refl
digit_more n (d ∷ ds) x = digit_more (n * 10 + digit_value d) ds x

pub digit_is : (x : ℕ) → is_ascii_digit x ≡ true → (48 ≤ x) × (x ≤ 57) × (digit_value x ≡ x - 48)
digit_is x e = (grind (arith, nat_tests), grind (arith, nat_tests), grind (arith, nat_tests))

all_by : (a b : Bool) → (a && b) ≡ true → (a ≡ true) × (b ≡ true)
all_by true b e = (refl, e)
all_by false b e = cc

pub digit_at : (word : List ℕ) (i : ℕ) → list_all is_ascii_digit word ≡ true → i < length word → is_ascii_digit (get_or word i 0) ≡ true
digit_at [] i e under = absurd (omega arith)
digit_at (x ∷ word) zero e under = (all_by (is_ascii_digit x) (list_all is_ascii_digit word) e).0
digit_at (x ∷ word) (suc i) e under = digit_at word i (all_by (is_ascii_digit x) (list_all is_ascii_digit word) e).1 (omega arith)

pub grown_power : (value i digit : ℕ) → value < 10 ^ i → digit < 10 → value * 10 + digit < 10 ^ (i + 1)
grown_power value i digit small one =
    let next : i + 1 ≡ suc i = omega arith in
    let power : 10 ^ (i + 1) ≡ 10 ^ i * 10 = ap (λ k. 10 ^ k) next ∙ pow-suc 10 i in
    omega (arith, power)

-- Division by the greatest common divisor, as a function.
use Rattle.std.specs.Prelude.{ℕ, zero, suc, ◌%◌, ◌==◌, Bool, true, cond, not, ◌&&◌, ℤ, pos, negsuc, List, [], ◌∷◌, map}
use Rattle.std.specs.Int.{div_ceil}
use Rattle.std.specs.Int.RustNames.{unsigned_abs, int_div, int_le}
use Rattle.std.specs.Ordering.{int_eq}
use Rattle.th_linear.specs.Forms.{Form}
use Rattle.th_linear.specs.declared.fact.Rel.{Rel}
use Rattle.th_linear.specs.declared.fact.Rel.TheVariants.{Eq, Le, Ne}
use Rattle.th_linear.specs.declared.division.NormalForm.{NormalForm}
use Rattle.th_linear.specs.declared.division.NormalForm.TheVariants.{True, False, Fact}

-- the greatest number up to n that passes the test, or 0
unfoldable pub greatest : (ℕ → Bool) → ℕ → ℕ
greatest test zero = zero
greatest test (suc n) = cond (test (suc n)) (suc n) (greatest test n)

-- d divides n
abbrev pub divides : ℕ → ℕ → Bool
divides d n = (n % d) == 0

-- d divides each coefficient
abbrev pub divides_each : ℕ → List (ℕ × ℤ) → Bool
divides_each d [] = true
divides_each d (t ∷ ts) = divides d (unsigned_abs t.1) && divides_each d ts

-- the greatest common divisor of two numbers, of which the first isn't 0
unfoldable pub gcd_of : ℕ → ℕ → ℕ
gcd_of a b = greatest (λ d. divides d a && divides d b) a

-- the greatest common divisor of the coefficients, or 0 where there are none
unfoldable pub content_of : List (ℕ × ℤ) → ℕ
content_of [] = 0
content_of (t ∷ ts) = greatest (λ d. divides_each d (t ∷ ts)) (unsigned_abs t.1)

-- k / g, rounded up
abbrev pub quotient_up : ℕ → ℤ → ℤ
quotient_up g (pos n) = pos (div_ceil n g)
quotient_up g (negsuc n) = int_div (negsuc n) (pos g)

-- f with each coefficient divided by g, and a new constant
abbrev pub divided_form : ℕ → Form → ℤ → Form
divided_form g f constant = record { coefs = map (λ t. (t.0, int_div t.1 (pos g))) f.coefs; constant = constant; rel = f.rel }

-- f divided by g, by its relation
abbrev pub divided_by : Rel → ℕ → Form → NormalForm
divided_by Le g f = Fact (divided_form g f (quotient_up g f.constant))
divided_by Eq g f = cond (divides g (unsigned_abs f.constant)) (Fact (divided_form g f (int_div f.constant (pos g)))) False
divided_by Ne g f = cond (divides g (unsigned_abs f.constant)) (Fact (divided_form g f (int_div f.constant (pos g)))) True

-- whether z stands in the relation to 0
abbrev pub stands : Rel → ℤ → Bool
stands Eq z = int_eq z (pos 0)
stands Le z = int_le z (pos 0)
stands Ne z = not (int_eq z (pos 0))

-- a fact without variables is judged, any other divided
abbrev pub normal_by : List (ℕ × ℤ) → Form → NormalForm
normal_by [] f = cond (stands f.rel f.constant) True False
normal_by (t ∷ ts) f = divided_by f.rel (content_of (t ∷ ts)) f

-- what division by the greatest common divisor makes of a fact
unfoldable pub normal_of : Form → NormalForm
normal_of f = normal_by f.coefs f

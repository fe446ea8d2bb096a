-- Where instructions lead, test by test.
use Rattle.std.proofs.Common.{◌≡◌, ℕ, Bool, true, false, ◌&&◌, List, [], ◌∷◌, ◌++◌, map, refl, sym, ap, ◌∙◌}
use Rattle.std.specs.Prelude.{ℤ}
use Rattle.std.specs.List.{list_all}

pub and_true : (b : Bool) → (b && true) ≡ b
and_true true = refl
and_true false = refl

grouped : (a b c : Bool) → (a && (b && c)) ≡ ((a && b) && c)
grouped true b c = refl
grouped false b c = refl

joined : (test : ℕ → Bool) (xs : List ℕ) (y : ℕ) → list_all test (xs ++ y ∷ []) ≡ (list_all test xs && test y)
joined test [] y = and_true (test y)
joined test (x ∷ xs) y = ap (λ (b : Bool). test x && b) (joined test xs y) ∙ grouped (test x) (list_all test xs) (test y)

seconds : (test : ℕ → Bool) (pairs : List (ℤ × ℕ)) → list_all test (map (λ pair. pair.1) pairs) ≡ list_all (λ pair. test pair.1) pairs
seconds test [] = refl
seconds test (pair ∷ pairs) = ap (λ (b : Bool). test pair.1 && b) (seconds test pairs)

pub one_way : (test : ℕ → Bool) (a : ℕ) (r : Bool) → r ≡ test a → r ≡ (test a && true)
one_way test a r e = e ∙ sym (and_true (test a))

-- where each target of a switch is a start, so are all ways where the default is
pub all_ways : (test : ℕ → Bool) (pairs : List (ℤ × ℕ)) (other : ℕ) (s r : Bool) → s ≡ list_all (λ pair. test pair.1) pairs → s ≡ true → r ≡ test other → r ≡ list_all test (map (λ pair. pair.1) pairs ++ other ∷ [])
all_ways test pairs other s r e is f =
    let both : list_all test (map (λ pair. pair.1) pairs) ≡ true = seconds test pairs ∙ sym e ∙ is in
    f ∙ sym (joined test (map (λ (pair : ℤ × ℕ). pair.1) pairs) other ∙ rw both refl)

-- where one isn't, not all are
pub a_way_off : (test : ℕ → Bool) (pairs : List (ℤ × ℕ)) (other : ℕ) (s : Bool) → s ≡ list_all (λ pair. test pair.1) pairs → s ≡ false → false ≡ list_all test (map (λ pair. pair.1) pairs ++ other ∷ [])
a_way_off test pairs other s e is =
    let some : list_all test (map (λ pair. pair.1) pairs) ≡ false = seconds test pairs ∙ sym e ∙ is in
    sym (joined test (map (λ (pair : ℤ × ℕ). pair.1) pairs) other ∙ rw some refl)

pub ruleset leading = (and_true)

-- Sums of multiples of two facts, as functions.
use Rattle.std.specs.Prelude.{ℕ, ◌==◌, nat_lt, Bool, true, cond, ◌&&◌, ℤ, pos, neg_ℤ, ◌+ℤ◌, ◌*ℤ◌, List, [], ◌∷◌, Option, Some, None}
use Rattle.std.specs.Int.RustNames.{unsigned_abs}
use Rattle.std.specs.Ordering.{int_eq}
use Rattle.th_linear.specs.Forms.{Form, coef}
use Rattle.th_linear.specs.Normal.{scaled}
use Rattle.th_linear.specs.Mixed.{mixed}
use Rattle.th_linear.specs.declared.fact.TheConstants.{MAGNITUDE_LIMIT}
use Rattle.th_linear.specs.declared.fact.Rel.{Rel}
use Rattle.th_linear.specs.declared.fact.Rel.TheVariants.{Le}

-- a term before others, left out where its coefficient is 0
abbrev pub term_before : ℕ → ℤ → List (ℕ × ℤ) → List (ℕ × ℤ)
term_before v c ts = cond (int_eq c (pos 0)) ts ((v, c) ∷ ts)

-- c times the variable v, added to ascending terms
abbrev pub added : ℕ → ℤ → List (ℕ × ℤ) → List (ℕ × ℤ)
added v c [] = term_before v c []
added v c (t ∷ ts) = cond (nat_lt v t.0) (term_before v c (t ∷ ts)) (cond (v == t.0) (term_before v (c +ℤ t.1) ts) (t ∷ added v c ts))

-- two sums added
abbrev pub summed : List (ℕ × ℤ) → List (ℕ × ℤ) → List (ℕ × ℤ)
summed [] us = us
summed (t ∷ ts) us = added t.0 t.1 (summed ts us)

-- the terms of p a + q b
unfoldable pub mixed_terms : ℤ → List (ℕ × ℤ) → ℤ → List (ℕ × ℤ) → List (ℕ × ℤ)
mixed_terms p a q b = summed (scaled p a) (summed (scaled q b) [])

-- below 2^62 in magnitude
abbrev pub is_small : ℤ → Bool
is_small z = nat_lt (unsigned_abs z) MAGNITUDE_LIMIT

-- each coefficient is below 2^62 in magnitude
abbrev pub all_small : List (ℕ × ℤ) → Bool
all_small [] = true
all_small (t ∷ ts) = is_small t.1 && all_small ts

-- p a + q b with the relation `to`, or none where a magnitude reaches 2^62
unfoldable pub mixed_form : ℤ → Form → ℤ → Form → Rel → Option Form
mixed_form p a q b to =
    let terms = mixed_terms p a.coefs q b.coefs in
    let constant = mixed p a.constant q b.constant in
    cond (is_small constant && all_small terms) (Some (record { coefs = terms; constant = constant; rel = to })) None

-- the inequality p a + q b
abbrev pub combined : Form → ℤ → Form → ℤ → Option Form
combined a p b q = mixed_form p a q b Le

-- f plus the multiple of `by` that makes the variable vanish, where `by` has it with coefficient 1 or -1
abbrev pub substituted : Form → ℕ → Form → Option Form
substituted f v by = mixed_form (pos 1) f (neg_ℤ (coef v f.coefs *ℤ coef v by.coefs)) by f.rel

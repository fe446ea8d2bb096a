-- Sums of multiples of two facts.
use Rattle.std.specs.Prelude.{◌≡◌, ◌≢◌, ℕ, ◌+◌, ◌<◌, ◌≤◌, Bool, IsTrue, ℤ, pos, ◌+ℤ◌, ◌*ℤ◌, List, [], length, ◌⊎◌, ◌↔◌, Option, MatchOption}
use Rattle.th_linear.specs.Forms.{Form, AreTerms, Holds, value, coef, Small}
use Rattle.th_linear.specs.declared.fact.Rel.{Rel}

-- p x + q y
abbrev pub mixed : ℤ → ℤ → ℤ → ℤ → ℤ
mixed p x q y = (p *ℤ x) +ℤ (q *ℤ y)

-- r is the form p a + q b, with the relation `to`
pub record IsMixed (p : ℤ) (a : Form) (q : ℤ) (b : Form) (to : Rel) (r : Form) : Type 0 where
  pub value : (s : ℕ → ℤ) → value r.coefs s ≡ mixed p (value a.coefs s) q (value b.coefs s)
  pub coef : (v : ℕ) → coef v r.coefs ≡ mixed p (coef v a.coefs) q (coef v b.coefs)
  pub constant : r.constant ≡ mixed p a.constant q b.constant
  pub rel : r.rel ≡ to

-- a coefficient of p a + q b reaches 2^62
abbrev pub HasLarge : ℤ → List (ℕ × ℤ) → ℤ → List (ℕ × ℤ) → Type 0
HasLarge p a q b = (v : ℕ) × (Small (mixed p (coef v a) q (coef v b)) → ⊥)

-- a magnitude of p a + q b reaches 2^62
abbrev pub IsTooLarge : ℤ → Form → ℤ → Form → Type 0
IsTooLarge p a q b = (Small (mixed p a.constant q b.constant) → ⊥) ⊎ HasLarge p a.coefs q b.coefs

-- the answer is p a + q b, and none where a magnitude of it reaches 2^62
abbrev pub IsSum : ℤ → Form → ℤ → Form → Rel → Option Form → Type 0
IsSum p a q b to o = MatchOption o (IsTooLarge p a q b) (IsMixed p a q b to)

-- r holds wherever a and b do
abbrev pub FollowsFrom : Form → Form → Form → Type 0
FollowsFrom a b r = (s : ℕ → ℤ) → Holds a s → Holds b s → Holds r s

-- wherever `by` holds, f and r say the same
abbrev pub SaySame : Form → Form → Form → Type 0
SaySame by f r = (s : ℕ → ℤ) → Holds by s → Holds f s ↔ Holds r s

-- the terms r are p a + q b
pub record AreMixed (p : ℤ) (a : List (ℕ × ℤ)) (q : ℤ) (b r : List (ℕ × ℤ)) : Type 0 where
  pub terms : AreTerms 0 r
  pub value : (s : ℕ → ℤ) → value r s ≡ mixed p (value a s) q (value b s)
  pub coef : (v : ℕ) → coef v r ≡ mixed p (coef v a) q (coef v b)

-- v is the least variable of a and b, c its coefficient in p a + q b, and xs and ys are the rest of a and b
pub record Steps (p : ℤ) (a : List (ℕ × ℤ)) (q : ℤ) (b : List (ℕ × ℤ)) (v : ℕ) (c : ℤ) (xs ys : List (ℕ × ℤ)) : Type 0 where
  pub value : (s : ℕ → ℤ) → mixed p (value a s) q (value b s) ≡ (c *ℤ s v) +ℤ mixed p (value xs s) q (value ys s)
  pub here : c ≡ mixed p (coef v a) q (coef v b)
  pub below : (w : ℕ) → w < v → (coef w a ≡ pos 0) × (coef w b ≡ pos 0)
  pub later : (w : ℕ) → v < w → (coef w xs ≡ coef w a) × (coef w ys ≡ coef w b)
  pub left : AreTerms (v + 1) xs
  pub right : AreTerms (v + 1) ys
  pub low : (low : ℕ) → AreTerms low a → AreTerms low b → low ≤ v
  pub shorter : length xs + length ys < length a + length b

-- whether p a + q b has terms
abbrev pub HasMixed : ℤ → List (ℕ × ℤ) → ℤ → List (ℕ × ℤ) → Bool → Type 0
HasMixed p a q b some = (r : List (ℕ × ℤ)) × AreMixed p a q b r × (IsTrue some ↔ (r ≢ []))

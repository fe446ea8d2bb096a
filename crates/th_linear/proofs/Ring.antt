-- The ring of the integers, and what a positive factor keeps.
use Rattle.std.proofs.Common.{◌≡◌, ℕ, ◌+◌, ◌*◌, ◌<◌, ℤ, pos, ◌+ℤ◌, ◌*ℤ◌, ◌≤ℤ◌, ◌<ℤ◌, arith, refl, ap}
use Rattle.std.proofs.lemmas.Int.{ints}
use borrow.Author.Differences.{up, down}

sum_parts : (b c : ℤ) → up (b +ℤ c) + (down b + down c) ≡ down (b +ℤ c) + (up b + up c)
sum_parts b c = let s : b +ℤ c ≡ b +ℤ c = refl in omega (arith, ints)

product_parts : (a b : ℤ) → up (a *ℤ b) + (up a * down b + down a * up b) ≡ down (a *ℤ b) + (up a * up b + down a * down b)
product_parts a b = omega (arith, ints)

pub distrib : (a b c : ℤ) → a *ℤ (b +ℤ c) ≡ a *ℤ b +ℤ a *ℤ c
distrib a b c = omega (arith, ints, ap (λ n. up a * n) (sum_parts b c), ap (λ n. down a * n) (sum_parts b c))

pub distrib_right : (a b c : ℤ) → (a +ℤ b) *ℤ c ≡ a *ℤ c +ℤ b *ℤ c
distrib_right a b c = omega (arith, ints, ap (λ n. n * up c) (sum_parts a b), ap (λ n. n * down c) (sum_parts a b))

pub assoc : (a b c : ℤ) → (a *ℤ b) *ℤ c ≡ a *ℤ (b *ℤ c)
assoc a b c = omega (
  arith,
  ints,
  ap (λ n. n * up c) (product_parts a b),
  ap (λ n. n * down c) (product_parts a b),
  ap (λ n. up a * n) (product_parts b c),
  ap (λ n. down a * n) (product_parts b c),
)

pub comm : (a b : ℤ) → a *ℤ b ≡ b *ℤ a
comm a b = omega (arith, ints)

pub mono : (p x : ℤ) → pos 0 ≤ℤ p → x ≤ℤ pos 0 → (p *ℤ x) ≤ℤ pos 0
mono p x h k = grind (arith, ints)

pub cancel : (g : ℕ) (x : ℤ) → 0 < g → pos g *ℤ x ≡ pos 0 → x ≡ pos 0
cancel g x h e = grind (arith, ints)

pub cancel_le : (g : ℕ) (x : ℤ) → 0 < g → (pos g *ℤ x) ≤ℤ pos 0 → x ≤ℤ pos 0
cancel_le g x h e = grind (arith, ints)

pub cancel_lt : (g : ℕ) (x : ℤ) → 0 < g → (pos g *ℤ x) <ℤ pos g → x ≤ℤ pos 0
cancel_lt g x h e = grind (arith, ints)

-- The ranges of numbers, one symbol after the other.
use Rattle.std.proofs.Common.{◌≡◌, ℕ, ℤ, ◌+◌, ◌<◌, ◌≤◌, zero, suc, List, [], ◌∷◌, ◌++◌, length, drop, get_or, refl, sym, ap, ◌∙◌, arith}
use Rattle.std.proofs.lemmas.List.{append_assoc, append-nil}
use Rattle.std.proofs.Props.{props}
use Rattle.th_linear.specs.Forms.{Small}
use Rattle.th_pure.specs.declared.range.Range.{Range}
use Rattle.th_query.specs.declared.query.Sym.{Sym}
use Rattle.th_query.specs.declared.query.Sym.TheVariants.{Ref, Int, Carry}
use Rattle.th_query.specs.Contradiction.{ranges_at, ranges_from}

-- what is left from a place on begins with what stands there
pub drop_at : {X : Type 0} (xs : List X) (i : ℕ) (d : X) → i < length xs → drop i xs ≡ get_or xs i d ∷ drop (i + 1) xs
drop_at [] i d h = absurd (omega (arith, h))
drop_at (x ∷ xs) zero d h = refl
drop_at (x ∷ xs) (suc i) d h = let e : suc i + 1 ≡ suc (i + 1) = omega arith in drop_at xs i d (omega (arith, h)) ∙ ap (λ k. get_or xs i d ∷ drop k (x ∷ xs)) (sym e)

pub drop_past : {X : Type 0} (xs : List X) (i : ℕ) → length xs ≤ i → drop i xs ≡ []
drop_past [] zero h = refl
drop_past [] (suc i) h = refl
drop_past (x ∷ xs) zero h = absurd (omega (arith, h))
drop_past (x ∷ xs) (suc i) h = drop_past xs i (omega (arith, h))

ranges_apart : (s : ℕ) (x : Sym) (rest : List Range) → ranges_at s x rest ≡ ranges_at s x [] ++ rest
ranges_apart s (Ref null sites) rest = refl
ranges_apart s Int rest = refl
ranges_apart s Carry rest = refl

-- one symbol more
pub ranges_more : (before after : List Range) (xs : List Sym) (i : ℕ) (x : Sym) (all : List Range) → i < length xs → x ≡ get_or xs i x → after ≡ before ++ ranges_at i x []
    → before ++ ranges_from i (drop i xs) ≡ all → after ++ ranges_from (i + 1) (drop (i + 1) xs) ≡ all
ranges_more before after xs i x all h is new old =
    let rest = ranges_from (i + 1) (drop (i + 1) xs) in
    let split : ranges_from i (drop i xs) ≡ ranges_at i x [] ++ rest =
    ap (ranges_from i) (drop_at xs i x h) ∙ ap (λ y. ranges_at i y rest) (sym is) ∙ ranges_apart i x rest in
    ap (λ ys. ys ++ rest) new ∙ append_assoc before (ranges_at i x []) rest ∙ ap (λ ys. before ++ ys) (sym split) ∙ old

-- and none is left
pub ranges_end : (made : List Range) (xs : List Sym) (i : ℕ) (all : List Range) → length xs ≤ i → made ++ ranges_from i (drop i xs) ≡ all → made ≡ all
ranges_end made xs i all h e = sym (append-nil made) ∙ ap (λ ys. made ++ ranges_from i ys) (sym (drop_past xs i h)) ∙ e

-- a range is known by its variable and its ends
pub pushed : (s : ℕ) (l h : ℤ) (a b : Small l) (c d : Small h) (old new : List Range) → new ≡ old ++ record { variable = s; low = l; high = h; small_low = a; small_high = c } ∷ []
    → new ≡ old ++ record { variable = s; low = l; high = h; small_low = b; small_high = d } ∷ []
pushed s l h a b c d old new e =
    let p : IsProp (Small l) = hlevel props in
    let q : IsProp (Small h) = hlevel props in
    let same : ◌≡◌ {A = Range} (record { variable = s; low = l; high = h; small_low = a; small_high = c }) (record { variable = s; low = l; high = h; small_low = b; small_high = d }) =
    λ i. record { variable = s; low = l; high = h; small_low = p a b i; small_high = q c d i } in
    e ∙ ap (λ r. old ++ r ∷ []) same

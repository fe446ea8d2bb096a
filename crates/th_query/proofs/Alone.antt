-- Members of ascending lists: one of them, and those of two.
use Rattle.std.proofs.Common.{◌≡◌, inl, inr, ℕ, ◌+◌, ◌<◌, ◌≤◌, ◌++◌, zero, suc, eqb, ltb, Bool, true, false, cond, List, [], ◌∷◌, refl, sym, ap, subst, ◌∙◌, arith}
use Rattle.std.specs.Prelude.{◌&&◌, ◌||◌}
use Rattle.std.specs.List.{filter, AllByRecursion}
use Rattle.std.proofs.lemmas.Bool.{cases_lt, eqb-true, eq-eqb, lt-ltb, le-ltb, both_ways}
use Rattle.std.proofs.lemmas.List.{append_assoc}
use Rattle.th_base.specs.IdSet.{has, IsAscending}
use Rattle.th_base.proofs.Ascending.{has-filter, IsAscending-filter, same_members, all_weaker}
use Rattle.th_query.specs.FromSets.{upto}
use Rattle.th_query.proofs.Below.{has_below}

-- all below a bound, and then some that aren't
pub ascends : (n : ℕ) (more : List ℕ) → AllByRecursion (λ x. n ≤ x) more → IsAscending more → IsAscending (upto n ++ more)
ascends zero more a s = s
ascends (suc n) more a s =
    let next : IsAscending (n ∷ more) = (all_weaker (λ x. suc n ≤ x) (λ x. n < x) (λ x h. omega (arith, h)) more a, s) in
    let bound : AllByRecursion (λ x. n ≤ x) (n ∷ more) = (omega arith, all_weaker (λ x. suc n ≤ x) (λ x. n ≤ x) (λ x h. omega (arith, h)) more a) in
    subst IsAscending (sym (append_assoc (upto n) (n ∷ []) more)) (ascends n (n ∷ more) bound next)

pub none_alone : (xs : List ℕ) (s : ℕ) → has xs s ≡ false → filter (λ a. eqb a s) xs ≡ []
none_alone [] s h = refl
none_alone (x ∷ xs) s h = go (eqb x s) h (none_alone xs s)
  where
    go : (b : Bool) → (b || has xs s) ≡ false → (has xs s ≡ false → filter (λ a. eqb a s) xs ≡ []) → cond b (x ∷ filter (λ a. eqb a s) xs) (filter (λ a. eqb a s) xs) ≡ []
    go true e f = absurd (both_ways _ e refl)
    go false e f = f e

pub one_alone : (xs : List ℕ) (s : ℕ) → IsAscending xs → has xs s ≡ true → filter (λ a. eqb a s) xs ≡ s ∷ []
one_alone xs s a h = same_members (filter (λ x. eqb x s) xs) (s ∷ []) (IsAscending-filter (λ x. eqb x s) xs a) (tt, tt) (λ z. has-filter (λ x. eqb x s) xs z ∙ go z (eqb z s) refl)
  where
    flip : (z : ℕ) (b : Bool) → eqb z s ≡ b → eqb s z ≡ b
    flip z true e = eq-eqb s z (sym (eqb-true z s e))
    flip z false e = go2 (eqb s z) refl
      where
        go2 : (b : Bool) → eqb s z ≡ b → eqb s z ≡ false
        go2 true k = absurd (both_ways _ e (eq-eqb z s (sym (eqb-true s z k))))
        go2 false k = k

    go : (z : ℕ) (b : Bool) → eqb z s ≡ b → (eqb z s && has xs z) ≡ (eqb s z || false)
    go z true e = rw (e, flip z true e) (ap (has xs) (eqb-true z s e) ∙ h)
    go z false e = rw (e, flip z false e) refl

-- ---- the members of two lists

and_turned : (a b : Bool) → (a && b) ≡ (b && a)
and_turned true true = refl
and_turned true false = refl
and_turned false true = refl
and_turned false false = refl

comparison : (low high : ℕ) (these those : List ℕ) → low ≤ high → (z : ℕ)
    → ((ltb z low || ((ltb z high || has those z) && has these z)) ≡ ((ltb z high || has those z) && (ltb z low || has these z)))
    × ((ltb z low || ((ltb z high || has those z) && has these z)) ≡ ((ltb z low || has these z) && (ltb z high || has those z)))
comparison low high these those le z = elim (cases_lt z low) [
  | inl below ↦ rw (lt-ltb z low below, lt-ltb z high (omega (arith, below, le))) (refl, refl)
  | inr above ↦ rw (le-ltb z low above) (refl, and_turned (ltb z high || has those z) (has these z))
]

pub bounded_filter : (p : ℕ → Bool) (n : ℕ) (xs : List ℕ) → AllByRecursion (λ x. n ≤ x) xs → AllByRecursion (λ x. n ≤ x) (filter p xs)
bounded_filter p n [] b = tt
bounded_filter p n (x ∷ xs) b = elim (p x) as (λ c. AllByRecursion (λ y. n ≤ y) (cond c (x ∷ filter p xs) (filter p xs))) [ true ↦ (b.0, bounded_filter p n xs b.1) | false ↦ bounded_filter p n xs b.1 ]

-- what two lists have in common: the lower bound, and of what stands above it what the other has
pub common_above : (low high : ℕ) (these those : List ℕ) → low ≤ high → AllByRecursion (λ x. low ≤ x) these → IsAscending these → AllByRecursion (λ x. high ≤ x) those → IsAscending those
    → (upto low ++ filter (has (upto high ++ those)) these ≡ filter (has (upto high ++ those)) (upto low ++ these))
    × (upto low ++ filter (has (upto high ++ those)) these ≡ filter (has (upto low ++ these)) (upto high ++ those))
common_above low high these those le a s b t =
    let first : IsAscending (upto low ++ these) = ascends low these a s in
    let second : IsAscending (upto high ++ those) = ascends high those b t in
    let made : IsAscending (upto low ++ filter (has (upto high ++ those)) these) =
    ascends low (filter (has (upto high ++ those)) these) (bounded_filter (has (upto high ++ those)) low these a) (IsAscending-filter (has (upto high ++ those)) these s) in
    let members : (z : ℕ) → has (upto low ++ filter (has (upto high ++ those)) these) z ≡ (ltb z low || ((ltb z high || has those z) && has these z)) =
    λ z. has_below low (filter (has (upto high ++ those)) these) z ∙ ap (λ m. ltb z low || m) (has-filter (has (upto high ++ those)) these z ∙ ap (λ m. m && has these z) (has_below high those z)) in (
      same_members _ _ made (IsAscending-filter (has (upto high ++ those)) (upto low ++ these) first)
          (λ z. members z ∙ (comparison low high these those le z).0 ∙ sym (has-filter (has (upto high ++ those)) (upto low ++ these) z ∙ (λ i. has_below high those z i && has_below low these z i))),
      same_members _ _ made (IsAscending-filter (has (upto low ++ these)) (upto high ++ those) second)
          (λ z. members z ∙ (comparison low high these those le z).1 ∙ sym (has-filter (has (upto low ++ these)) (upto high ++ those) z ∙ (λ i. has_below low these z i && has_below high those z i))),
    )

-- the members of one ascending list that are in another
pub common_turned : (xs ys : List ℕ) → IsAscending xs → IsAscending ys → filter (has xs) ys ≡ filter (has ys) xs
common_turned xs ys a b = same_members _ _ (IsAscending-filter (has xs) ys b) (IsAscending-filter (has ys) xs a) (λ z. has-filter (has xs) ys z ∙ and_turned (has xs z) (has ys z) ∙ sym (has-filter (has ys) xs z))

-- How many numbers sets hold, and that the least sets hold no fewer than any sets whose numbers reach them.
use Rattle.std.proofs.Common.{◌≡◌, ℕ, ◌<◌, ◌≤◌, ◌+◌, ◌-◌, ◌^◌, suc, zero, true, eqb, List, [], ◌∷◌, inl, inr, length, set, refl, sym, ap, ◌∙◌, subst, arith, get_or-set_same, get_or-set_other}
use Rattle.std.specs.List.{All}
use Rattle.std.proofs.lemmas.Bool.{cases_eq, cases_order, both_ways, or_cases, or_right, eqb-true}
use Rattle.std.proofs.lemmas.List.{length-set, get_or_default}
use Rattle.std.proofs.lemmas.List.Sums.{sum_by-set, sum_by-cons}
use Rattle.th_base.specs.IdSet.{has, union_of, IsAscending}
use Rattle.th_base.proofs.Ascending.{has_first, absent_below, all_weaker, has-union_of, IsAscending-union_of}
use Rattle.th_incl.specs.Least.{set_at, In, Reaches, IsLeast, HasMoreThan, pair_count}
use Rattle.th_incl.specs.Parts.{SameMembers}
use Rattle.th_incl.specs.Run.{Inv, room}
use Rattle.th_incl.specs.declared.constraints.Constraints.{Constraints}
use Rattle.th_incl.proofs.Members.{length-union_of}

pub ascending_at : (sets : List (List ℕ)) → All IsAscending sets → (k : ℕ) → IsAscending (set_at sets k)
ascending_at [] a k = tt
ascending_at (s ∷ ss) a zero = a 0 [] (omega arith)
ascending_at (s ∷ ss) a (suc k) = ascending_at ss (λ j d h. a (suc j) d (omega arith)) k

-- ---- sums

pub pairs_set : (sets : List (List ℕ)) (i : ℕ) (s : List ℕ) (n : ℕ) → i < length sets → length s ≡ length (set_at sets i) + n → pair_count (set sets i s) ≡ pair_count sets + n
pairs_set sets i s n lt e = omega (arith, sum_by-set length sets i s [] lt, e)

pub room_set : (sets : List (List ℕ)) (i : ℕ) (s : List ℕ) (n : ℕ) → i < length sets → length s ≡ length (set_at sets i) + n → length s < 2 ^ 64 → room (set sets i s) + n ≡ room sets
room_set sets i s n lt e fits = omega (arith, sum_by-set (λ t. 2 ^ 64 - length t) sets i s [] lt, e, fits)

-- ---- parts of the least sets

-- an ascending list whose numbers are all in another is no longer
part_le : (xs ys : List ℕ) → IsAscending xs → IsAscending ys → ((z : ℕ) → has xs z ≡ true → has ys z ≡ true) → length xs ≤ length ys
part_le [] ys a b h = omega arith
part_le (x ∷ xs) [] a b h = absurd (both_ways _ refl (h x (has_first x xs)))
part_le (x ∷ xs) (y ∷ ys) a b h =
    elim (cases_order x y) [
      | inl same ↦
          let rest = part_le xs ys a.1 b.1 (λ z k. elim (or_cases (eqb y z) (has ys z) (h z (or_right (eqb x z) (has xs z) k))) [
            | inl first ↦ absurd (both_ways _ (absent_below x xs a.0) (ap (λ w. has xs w) (same ∙ eqb-true y z first) ∙ k))
            | inr later ↦ later
          ]) in
          omega (arith, rest)
      | inr (inl less) ↦
          absurd (both_ways _ (absent_below x (y ∷ ys) (less, all_weaker (λ z. y < z) (λ z. x < z) (λ z g. omega arith) ys b.0)) (h x (has_first x xs)))
      | inr (inr more) ↦
          let rest = part_le (x ∷ xs) ys a b.1 (λ z k. elim (or_cases (eqb y z) (has ys z) (h z k)) [
            | inl first ↦
                absurd (both_ways _ (absent_below y (x ∷ xs) (more, all_weaker (λ z. x < z) (λ z. y < z) (λ z g. omega arith) xs a.0))
                (ap (λ w. has (x ∷ xs) w) (eqb-true y z first) ∙ k))
            | inr later ↦ later
          ]) in
          omega (arith, rest)
    ]

pairs_le : (a b : List (List ℕ)) → length a ≡ length b → ((k : ℕ) → length (set_at a k) ≤ length (set_at b k)) → pair_count a ≤ pair_count b
pairs_le [] b e h = omega arith
pairs_le (x ∷ xs) [] e h = absurd (omega (arith, e))
pairs_le (x ∷ xs) (y ∷ ys) e h = let rest = pairs_le xs ys (omega (arith, e)) (λ k. h (suc k)) in let first = h 0 in omega (arith, rest, first, sum_by-cons length x xs, sum_by-cons length y ys)

over_by : (c : Constraints) (sets : List (List ℕ)) (limit : ℕ) → length sets ≡ c.sets → ((k : ℕ) → IsAscending (set_at sets k))
    → ((i x : ℕ) → In sets i x → Reaches c i x) → limit < pair_count sets → HasMoreThan c limit
over_by c sets limit len asc reach over = record {
  some = sets;
  count = len;
  ascending = λ k d h. subst (λ l. IsAscending l) (sym (get_or_default sets k d [] h)) (asc k);
  reach = reach;
  over = over;
}

-- so do the least sets
pub least_over : (c : Constraints) (limit : ℕ) (sets : List (List ℕ)) → HasMoreThan c limit → IsLeast c sets → limit < pair_count sets
least_over c limit sets m l =
    let le = pairs_le m.some sets (m.count ∙ sym l.count)
    (λ k. part_le (set_at m.some k) (set_at sets k) (ascending_at m.some m.ascending k) (ascending_at sets l.ascending k) (λ z e. (l.exact k z).1 (m.reach k z e))) in
    let over = m.over in
    omega (arith, le, over)

-- what is known already holds more pairs than the limit
pub over : (c : Constraints) (sets news : List (List ℕ)) (limit : ℕ) → Inv c sets news → limit < pair_count sets → HasMoreThan c limit
over c sets news limit v = over_by c sets limit v.sets_len v.ascending (λ i x e. v.sound i x (inl e))

-- the news of one set, `fresh`, would be too many
pub over_news : (c : Constraints) (sets news : List (List ℕ)) (i : ℕ) (fresh : List ℕ) (limit : ℕ) → Inv c sets news → i < length sets
    → SameMembers (set_at news i) fresh → IsAscending fresh → limit < pair_count sets + length fresh → HasMoreThan c limit
over_news c sets news i fresh limit v lt same asc over =
    let old : List ℕ = set_at sets i in
    let both : List ℕ = union_of old fresh in
    let longer : length both ≡ length old + length fresh = length-union_of old fresh asc (λ x h. v.apart i x (sym (same x) ∙ h)) in
    let sum = pairs_set sets i both (length fresh) lt longer in
    over_by c (set sets i both) limit (length-set sets i both ∙ v.sets_len)
    (λ k. elim (cases_eq k i) [
      | inl here ↦ subst (λ n. IsAscending (set_at (set sets i both) n)) (sym here) (subst (λ l. IsAscending l) (sym (get_or-set_same sets i both [] lt)) (IsAscending-union_of old fresh (v.ascending i)))
      | inr ne ↦ subst (λ l. IsAscending l) (sym (get_or-set_other sets i k both [] ne)) (v.ascending k)
    ])
    (λ k x e. elim (cases_eq k i) [
      | inl here ↦
          let e' : has both x ≡ true = sym (ap (λ l. has l x) (get_or-set_same sets i both [] lt)) ∙ subst (λ n. In (set sets i both) n x) here e in
          elim (or_cases (has old x) (has fresh x) (sym (has-union_of old fresh x) ∙ e')) [
            | inl o ↦ v.sound k x (inl (subst (λ n. In sets n x) (sym here) o))
            | inr f ↦ v.sound k x (inr (subst (λ n. In news n x) (sym here) (sym (same x) ∙ f)))
          ]
      | inr ne ↦ v.sound k x (inl (sym (ap (λ l. has l x) (get_or-set_other sets i k both [] ne)) ∙ e))
    ])
    (omega (arith, sum, over))

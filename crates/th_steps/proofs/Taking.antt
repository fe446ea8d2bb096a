-- Items taken from a list in an order without repeats, and lists of what is there.
use Rattle.std.proofs.Common.{◌≡◌, ℕ, ◌+◌, ◌<◌, ◌≤◌, ◌==◌, ◌++◌, zero, suc, Bool, true, false, List, [], ◌∷◌, length, map, drop, get_or, Option, None, Some, slice_get, slice_set, refl, sym, ap, subst, ◌∙◌}
use Rattle.std.specs.Prelude.{◌||◌}
use Rattle.std.proofs.lemmas.Bool.{both_ways, eq-eqb, or_left}
use Rattle.std.proofs.lemmas.List.{append_assoc, append-nil}
use Rattle.th_base.specs.IdSet.{has}
use Rattle.th_query.specs.Unified.{present}
use Rattle.th_query.proofs.InLists.{has_in}
use Rattle.th_query.proofs.Mentioning.{AreOnce}
use Rattle.th_steps.specs.Once.{IsOnce}
use Rattle.th_steps.proofs.Sinking.{drop_at, drop_past}

pub once_from : (xs : List ℕ) → AreOnce xs → IsOnce xs
once_from [] a = tt
once_from (x ∷ xs) a = (go (has xs x) refl, once_from xs a.1)
  where
    go : (b : Bool) → has xs x ≡ b → has xs x ≡ false
    go true e = absurd (a.0 (has_in x xs e))
    go false e = e

-- ---- what is there

present_apart : {X : Type 0} (o : Option X) (rest : List (Option X)) → present (o ∷ rest) ≡ present (o ∷ []) ++ present rest
present_apart None rest = refl
present_apart (Some x) rest = refl

pub present_more : {K X : Type 0} (f : K → Option X) (xs : List K) (i : ℕ) (d : K) (o : Option X) (made next all : List X) → i < length xs → o ≡ f (get_or xs i d) → next ≡ made ++ present (o ∷ [])
    → made ++ present (map f (drop i xs)) ≡ all → next ++ present (map f (drop (i + 1) xs)) ≡ all
present_more f xs i d o made next all h e n before =
    let rest = present (map f (drop (i + 1) xs)) in
    let split : present (map f (drop i xs)) ≡ present (o ∷ []) ++ rest =
    ap (λ ys. present (map f ys)) (drop_at xs i d h) ∙ ap (λ p. present (p ∷ map f (drop (i + 1) xs))) (sym e) ∙ present_apart o (map f (drop (i + 1) xs)) in
    ap (λ ys. ys ++ rest) n ∙ append_assoc made (present (o ∷ [])) rest ∙ ap (λ ys. made ++ ys) (sym split) ∙ before

pub present_end : {K X : Type 0} (f : K → Option X) (xs : List K) (i : ℕ) (made : List X) (all : List X) → length xs ≤ i → made ++ present (map f (drop i xs)) ≡ all → made ≡ all
present_end f xs i made all h before = sym (ap (λ ys. made ++ present (map f ys)) (drop_past xs i h) ∙ append-nil made) ∙ before

-- ---- what is taken is no more asked for

other_stays : {X : Type 0} (xs : List X) (k n : ℕ) (x : X) → (k ≡ n → ⊥) → slice_get (slice_set xs k x) n ≡ slice_get xs n
other_stays [] k n x h = refl
other_stays (y ∷ ys) zero zero x h = absurd (h refl)
other_stays (y ∷ ys) zero (suc n) x h = refl
other_stays (y ∷ ys) (suc k) zero x h = refl
other_stays (y ∷ ys) (suc k) (suc n) x h = other_stays ys k n x (λ e. h (ap suc e))

others_stay : {X : Type 0} (xs : List X) (k : ℕ) (x : X) (ns : List ℕ) → has ns k ≡ false → map (slice_get (slice_set xs k x)) ns ≡ map (slice_get xs) ns
others_stay xs k x [] h = refl
others_stay xs k x (n ∷ ns) h =
    let first : slice_get (slice_set xs k x) n ≡ slice_get xs n = other_stays xs k n x (λ e. both_ways _ h (or_left (n == k) (has ns k) (eq-eqb n k (sym e)))) in
    let rest : map (slice_get (slice_set xs k x)) ns ≡ map (slice_get xs) ns = others_stay xs k x ns (right_false (n == k) (has ns k) h) in
    λ i. first i ∷ rest i
  where
    right_false : (a b : Bool) → (a || b) ≡ false → b ≡ false
    right_false true b e = absurd (both_ways _ e refl)
    right_false false b e = e

-- after the item at the next place is taken
pub taken_one : {X : Type 0} (xs left : List X) (c : X) (order : List ℕ) (i : ℕ) (o : Option X) (made next all : List X) → i < length order → IsOnce (drop i order) → o ≡ slice_get xs (get_or order i 0) → left ≡ slice_set xs (get_or order i 0) c
    → next ≡ made ++ present (o ∷ [])
    → made ++ present (map (slice_get xs) (drop i order)) ≡ all
    → (next ++ present (map (slice_get left) (drop (i + 1) order)) ≡ all) × IsOnce (drop (i + 1) order)
taken_one xs left c order i o made next all h once e gone n before =
    let k = get_or order i 0 in
    let here : IsOnce (k ∷ drop (i + 1) order) = subst IsOnce (drop_at order i 0 h) once in
    let stay = others_stay xs k c (drop (i + 1) order) here.0 in
    (ap (λ ls. next ++ present (map (slice_get ls) (drop (i + 1) order))) gone ∙ ap (λ ys. next ++ present ys) stay ∙ present_more (slice_get xs) order i 0 o made next all h e n before, here.1)

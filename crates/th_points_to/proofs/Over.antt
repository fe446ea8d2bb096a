-- Where sets whose numbers all reach them have more pairs than a limit, the least facts have more.
use Rattle.std.proofs.Common.{◌≡◌, inl, inr, ℕ, ◌<◌, ◌≤◌, ◌+◌, ◌==◌, zero, suc, Bool, true, false, List, [], ◌∷◌, ◌++◌, length, Some, slice_get, refl, sym, ap, subst, arith, ◌∙◌}
use Rattle.std.specs.Prelude.{◌&&◌, ◌||◌, sum, map}
use Rattle.std.specs.List.{AllByRecursion, AllZip, sum_by}
use Rattle.std.proofs.lemmas.Bool.{cases_eq, eq-eqb, eqb-true, ne_eqb, or_right}
use Rattle.std.proofs.lemmas.List.Sums.{sum_by-cons}
use Rattle.th_base.specs.IdSet.{has, IsAscending}
use Rattle.th_incl.specs.Least.{set_at}
use Rattle.th_ir.proofs.Plain.{and_parts}
use Rattle.th_points_to.proofs.Counting.{Once, part_le, sum_cons}

-- how many numbers sets have together
abbrev pub total : List (List ℕ) → ℕ
total sets = sum (map (λ xs. length xs) sets)

total_cons : (x : List ℕ) (xs : List (List ℕ)) → total (x ∷ xs) ≡ length x + total xs
total_cons x xs = sum_cons (length x) (map (λ ys. length ys) xs)

pub total_is : (sets : List (List ℕ)) → sum_by length sets ≡ total sets
total_is [] = refl
total_is (x ∷ xs) = let cons = sum_by-cons length x xs in let rest = total_is xs in let head = total_cons x xs in omega (arith, cons, rest, head)

pub total_append : (xs ys : List (List ℕ)) → total (xs ++ ys) ≡ total xs + total ys
total_append [] ys = let e : total ys ≡ 0 + total ys = omega arith in e
total_append (x ∷ xs) ys = let rest = total_append xs ys in let one = total_cons x (xs ++ ys) in let other = total_cons x xs in omega (arith, rest, one, other)

-- set by set no longer
pub totals_le : (xs ys : List (List ℕ)) → length xs ≡ length ys → AllByRecursion IsAscending xs → AllByRecursion IsAscending ys
    → ((k x : ℕ) → has (set_at xs k) x ≡ true → has (set_at ys k) x ≡ true) → total xs ≤ total ys
totals_le [] ys len a b inside = omega arith
totals_le (x ∷ xs) [] len a b inside = absurd (omega (arith, len))
totals_le (x ∷ xs) (y ∷ ys) len a b inside =
    let rest = totals_le xs ys (omega (arith, len)) a.1 b.1 (λ k z h. inside (suc k) z h) in
    let first = part_le x y a.0 b.0 (λ z h. inside 0 z h) in
    let one = total_cons x xs in
    let other = total_cons y ys in
    omega (arith, rest, first, one, other)

-- numbers from one on, so many
abbrev pub numbers : ℕ → ℕ → List ℕ
numbers n zero = []
numbers n (suc count) = n ∷ numbers (n + 1) count

later_apart : (v n count : ℕ) → v < n → AllByRecursion (λ j. (v == j) ≡ false) (numbers n count)
later_apart v n zero less = tt
later_apart v n (suc count) less = (ne_eqb v n (λ e. let no_way : ⊥ = omega (arith, e, less) in no_way), later_apart v (n + 1) count (omega arith))

pub once_in_numbers : {X : Type 0} (key : X → ℕ) (n count : ℕ) (x : X) → Once (λ j y. key y == j) (numbers n count) x
once_in_numbers key n zero x = tt
once_in_numbers key n (suc count) x =
    (λ e. later_apart (key x) (n + 1) count (let same : key x ≡ n = eqb-true (key x) n e in omega (arith, same)), once_in_numbers key (n + 1) count x)

pub length_numbers : (n count : ℕ) → length (numbers n count) ≡ count
length_numbers n zero = refl
length_numbers n (suc count) = ap suc (length_numbers (n + 1) count)

one_number_more : (n count : ℕ) → numbers n (suc count) ≡ numbers n count ++ (n + count) ∷ []
one_number_more n zero = ap (λ (k : ℕ). k ∷ []) (let e : n ≡ n + 0 = omega arith in e)
one_number_more n (suc count) =
    ap (λ (l : List ℕ). n ∷ l) (one_number_more (n + 1) count ∙ ap (λ (k : ℕ). numbers (n + 1) count ++ k ∷ []) (let e : (n + 1) + count ≡ n + suc count = omega arith in e))

pub numbers_push : (n count : ℕ) → numbers n (count + 1) ≡ numbers n count ++ (n + count) ∷ []
numbers_push n count = ap (numbers n) (let e : count + 1 ≡ suc count = omega arith in e) ∙ one_number_more n count

numbers_above : (k n count : ℕ) → k < n → AllByRecursion (λ x. k < x) (numbers n count)
numbers_above k n zero less = tt
numbers_above k n (suc count) less = (less, numbers_above k (n + 1) count (omega arith))

pub numbers_ascend : (n count : ℕ) → IsAscending (numbers n count)
numbers_ascend n zero = tt
numbers_ascend n (suc count) = (numbers_above n (n + 1) count (omega arith), numbers_ascend (n + 1) count)

pub in_numbers : (n count x : ℕ) → n ≤ x → x < n + count → has (numbers n count) x ≡ true
in_numbers n zero x least less = absurd (omega arith)
in_numbers n (suc count) x least less = elim (cases_eq n x) [
  | inl same ↦ ap (λ (b : Bool). b || has (numbers (n + 1) count) x) (eq-eqb n x same)
  | inr apart ↦ or_right (n == x) (has (numbers (n + 1) count) x) (in_numbers (n + 1) count x (omega (arith, least, apart)) (omega (arith, less)))
]

-- sets at places from one on
pub zip_numbers : (P : ℕ → List ℕ → Type 0) (sets : List (List ℕ)) (n : ℕ) → ((k : ℕ) → k < length sets → P (n + k) (set_at sets k)) → AllZip P (numbers n (length sets)) sets
zip_numbers P [] n each = tt
zip_numbers P (x ∷ xs) n each = (
  subst (λ (m : ℕ). P m x) (let e : n + 0 ≡ n = omega arith in e) (each 0 (omega arith)),
  zip_numbers P xs (n + 1) (λ k less. subst (λ (m : ℕ). P m (set_at xs k)) (let e : n + suc k ≡ (n + 1) + k = omega arith in e) (each (suc k) (omega arith))),
)

pub zip_keys : {K : Type 0} (P : K → List ℕ → Type 0) (keys : List K) (sets : List (List ℕ)) → length sets ≡ length keys
    → ((k : ℕ) (d : K) → slice_get keys k ≡ Some d → P d (set_at sets k)) → AllZip P keys sets
zip_keys P [] [] len each = tt
zip_keys P [] (x ∷ xs) len each = absurd (omega (arith, len))
zip_keys P (d ∷ keys) [] len each = absurd (omega (arith, len))
zip_keys P (d ∷ keys) (x ∷ xs) len each = (each 0 d refl, zip_keys P keys xs (omega (arith, len)) (λ k e at. each (suc k) e at))

abbrev pub is_key : ℕ × ℕ → ℕ × ℕ → Bool
is_key d e = (e.0 == d.0) && (e.1 == d.1)

key_same : (d e : ℕ × ℕ) → is_key d e ≡ true → e ≡ d
key_same d e h =
    let parts = and_parts (e.0 == d.0) (e.1 == d.1) h in
    ap (λ (n : ℕ). (n, e.1)) (eqb-true e.0 d.0 parts.0) ∙ ap (λ (n : ℕ). (d.0, n)) (eqb-true e.1 d.1 parts.1)

keys_apart : (ds : List (ℕ × ℕ)) (e : ℕ × ℕ) → ((k : ℕ) → slice_get ds k ≡ Some e → ⊥) → AllByRecursion (λ d. is_key d e ≡ false) ds
keys_apart [] e none = tt
keys_apart (d ∷ ds) e none = (by (is_key d e) refl, keys_apart ds e (λ k at. none (suc k) at))
  where
    by : (b : Bool) → is_key d e ≡ b → is_key d e ≡ false
    by true h = absurd (none 0 (ap (λ (q : ℕ × ℕ). Some q) (sym (key_same d e h))))
    by false h = h

pub once_in_keys : {X : Type 0} (key : X → ℕ × ℕ) (ds : List (ℕ × ℕ)) (x : X) → ((i k : ℕ) (d : ℕ × ℕ) → slice_get ds i ≡ Some d → slice_get ds k ≡ Some d → i ≡ k)
    → Once (λ d y. is_key d (key y)) ds x
once_in_keys key [] x once = tt
once_in_keys key (d ∷ ds) x once = (
  λ h. keys_apart ds (key x) (λ k at.
      let first : slice_get (d ∷ ds) 0 ≡ Some (key x) = ap (λ (q : ℕ × ℕ). Some q) (sym (key_same d (key x) h)) in
      let clash : 0 ≡ suc k = once 0 (suc k) (key x) first at in
      let no_way : ⊥ = cc in no_way),
  once_in_keys key ds x (λ i k e one other. let same : suc i ≡ suc k = once (suc i) (suc k) e one other in omega (arith, same)),
)

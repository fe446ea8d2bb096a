-- All numbers below a bound, and membership in them.
use Rattle.std.proofs.Common.{Bool, true, false, ◌≡◌, ℕ, ◌+◌, ◌-◌, ◌<◌, ◌≤◌, zero, suc, take, drop, subst, ltb, eqb, List, [], ◌∷◌, ◌++◌, length, get_or, refl, sym, ap, ◌∙◌, inl, inr, arith}
use Rattle.std.specs.Prelude.{◌||◌}
use Rattle.std.proofs.lemmas.Bool.{cases_order, cases_lt, lt-ltb, le-ltb, eq-eqb, ne_eqb, and_right, and_from}
use Rattle.std.specs.Prelude.{◌&&◌}
use Rattle.std.specs.List.{list_all}
use Rattle.std.proofs.lemmas.List.{length-append, get_or_append_left, get_or-append_right, get_or-drop, get_or_past, length-drop, take_all, append_cancel_left}
use Rattle.std.proofs.Math.Seq.{get_or-append_seam}
use Rattle.th_base.specs.IdSet.{has}
use Rattle.th_base.proofs.Ascending.{has-append}
use Rattle.th_query.specs.FromSets.{upto}

pub length_upto : (n : ℕ) → length (upto n) ≡ n
length_upto zero = refl
length_upto (suc n) = let e = length_upto n in length-append (upto n) (n ∷ []) ∙ (omega (arith, e))

one : (n x : ℕ) → (ltb x n || (eqb n x || false)) ≡ ltb x (suc n)
one n x = elim (cases_order x n) [
  | inl e ↦ rw (le-ltb x n (omega (arith, e)), eq-eqb n x (sym e), lt-ltb x (suc n) (omega (arith, e))) refl
  | inr apart ↦ elim apart [
    | inl less ↦ rw (lt-ltb x n less, lt-ltb x (suc n) (omega (arith, less))) refl
    | inr more ↦ rw (le-ltb x n (omega (arith, more)), ne_eqb n x (λ e. absurd (omega (arith, e, more))), le-ltb x (suc n) (omega (arith, more))) refl
  ]
]

pub has_upto : (n x : ℕ) → has (upto n) x ≡ ltb x n
has_upto zero x = sym (le-ltb x 0 (omega arith))
has_upto (suc n) x = has-append (upto n) (n ∷ []) x ∙ ap (λ b. b || (eqb n x || false)) (has_upto n x) ∙ one n x

pub has_below : (n : ℕ) (xs : List ℕ) (x : ℕ) → has (upto n ++ xs) x ≡ (ltb x n || has xs x)
has_below n xs x = has-append (upto n) xs x ∙ ap (λ b. b || has xs x) (has_upto n x)

pub upto_at : (n s d : ℕ) → s < n → get_or (upto n) s d ≡ s
upto_at zero s d h = absurd (omega (arith, h))
upto_at (suc n) s d h = elim (cases_lt s n) [
  | inl less ↦ get_or_append_left (upto n) (n ∷ []) d s (let e = length_upto n in omega (arith, e, less)) ∙ upto_at n s d less
  | inr last ↦ (let e : s ≡ n = omega (arith, h, last) in ap (λ k. get_or (upto n ++ n ∷ []) k d) (e ∙ sym (length_upto n)) ∙ get_or-append_seam (upto n) n [] d ∙ sym e)
]

-- where more numbers stand in front on the other side, the next one stands here
pub next_number : (i high : ℕ) (left rest : List ℕ) → i < high → upto i ++ left ≡ upto high ++ rest → (d : ℕ) → get_or left 0 d ≡ i
next_number i high left rest h e d =
    let long = length_upto high in
    let first : get_or (upto high ++ rest) i d ≡ i = get_or_append_left (upto high) rest d i (omega (arith, long, h)) ∙ upto_at high i d h in
    let zeroth : i - i ≡ 0 = omega arith in
    sym (get_or-append_right (upto i) left i i d (length_upto i) (omega arith) ∙ ap (λ k. get_or left k d) zeroth) ∙ ap (λ xs. get_or xs i d) e ∙ first

pub no_next : (ids : List ℕ) (k n : ℕ) → length ids ≤ k → ((d : ℕ) → get_or (drop k ids) 0 d ≡ n) → ⊥
no_next ids k n h f = let e = f (suc n) in let g = get_or-drop k ids 0 (suc n) in let past = get_or_past ids (k + 0) (suc n) (omega (arith, h)) in absurd (omega (arith, e, g, past))

pub number_at : (ids : List ℕ) (k n : ℕ) → k < length ids → ((d : ℕ) → get_or (drop k ids) 0 d ≡ n) → get_or ids k 0 ≡ n
number_at ids k n h f = let zeroth : k + 0 ≡ k = omega arith in ap (λ i. get_or ids i 0) (sym zeroth) ∙ sym (get_or-drop k ids 0 0) ∙ f 0

-- all that is left from a place on
pub rest_is : (ids : List ℕ) (k : ℕ) → take (length ids - k) (drop k ids) ≡ drop k ids
rest_is ids k = let e = length-drop k ids in take_all (length ids - k) (drop k ids) (omega (arith, e))

-- two lists that continue the same numbers
pub continued : (low high next : ℕ) (ids rest : List ℕ) → next ≡ high → upto low ++ ids ≡ upto next ++ drop (next - low) ids
    → (take (length ids - (high - low)) (drop (high - low) ids) ≡ rest → upto low ++ ids ≡ upto high ++ rest) × (upto low ++ ids ≡ upto high ++ rest → take (length ids - (high - low)) (drop (high - low) ids) ≡ rest)
continued low high next ids rest is e =
    let here : upto low ++ ids ≡ upto high ++ drop (high - low) ids = subst (λ n. upto low ++ ids ≡ upto n ++ drop (n - low) ids) is e in (
      (λ f. here ∙ ap (λ xs. upto high ++ xs) (sym (rest_is ids (high - low)) ∙ f)),
      (λ f. rest_is ids (high - low) ∙ append_cancel_left (upto high) (drop (high - low) ids) rest (sym here ∙ f)),
    )

-- ---- tests of all numbers below a bound

pub all_append : (p : ℕ → Bool) (xs ys : List ℕ) → list_all p (xs ++ ys) ≡ (list_all p xs && list_all p ys)
all_append p [] ys = refl
all_append p (x ∷ xs) ys = ap (λ b. p x && b) (all_append p xs ys) ∙ sym (and_more (p x) (list_all p xs) (list_all p ys))
  where
    and_more : (a b c : Bool) → ((a && b) && c) ≡ (a && (b && c))
    and_more true b c = refl
    and_more false b c = refl

-- one that fails is one of them
pub fails_below : (p : ℕ → Bool) (i n : ℕ) → i < n → p i ≡ false → list_all p (upto n) ≡ false
fails_below p i zero h e = absurd (omega (arith, h))
fails_below p i (suc n) h e = elim (cases_lt i n) [
  | inl less ↦ all_append p (upto n) (n ∷ []) ∙ ap (λ b. b && list_all p (n ∷ [])) (fails_below p i n less e)
  | inr last ↦ let same : n ≡ i = omega (arith, h, last) in all_append p (upto n) (n ∷ []) ∙ and_right (list_all p (upto n)) _ (ap (λ b. b && true) (ap p same ∙ e))
]

pub passes_more : (p : ℕ → Bool) (n : ℕ) → list_all p (upto n) ≡ true → p n ≡ true → list_all p (upto (n + 1)) ≡ true
passes_more p n h e =
    let one : n + 1 ≡ suc n = omega arith in
    ap (λ k. list_all p (upto k)) one ∙ all_append p (upto n) (n ∷ []) ∙ and_from _ _ h (and_from _ _ e refl)

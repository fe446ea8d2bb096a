-- The numbers below a limit that pass a test, one number at a time.
use Rattle.std.proofs.Common.{◌≡◌, zero, suc, ◌+◌, ℕ, Bool, true, false, cond, List, [], ◌∷◌, ◌++◌, map, arith, sym, ap, ◌∙◌}
use Rattle.std.specs.List.{filter, range_with_len}
use Rattle.std.proofs.lemmas.List.{map-append, append-nil}
use Rattle.std.proofs.lemmas.List.Elements.{filter-append}
use Rattle.th_base.specs.declared.number.ClassId.{ClassId}

range_suc : (a n : ℕ) → range_with_len a (suc n) ≡ range_with_len a n ++ (a + n) ∷ []
range_suc a zero = let e : a ≡ a + 0 = omega arith in ap (λ k. k ∷ []) e
range_suc a (suc n) =
    let e : (a + 1) + n ≡ a + suc n = omega arith in
    ap (λ xs. a ∷ xs) (range_suc (a + 1) n ∙ ap (λ k. range_with_len (a + 1) n ++ k ∷ []) e)

range_next : (n : ℕ) → range_with_len 0 (n + 1) ≡ range_with_len 0 n ++ n ∷ []
range_next n =
    let e : 0 + n ≡ n = omega arith in
    let s : n + 1 ≡ suc n = omega arith in
    ap (λ k. range_with_len 0 k) s ∙ range_suc 0 n ∙ ap (λ k. range_with_len 0 n ++ k ∷ []) e

passing_next : (p : ℕ → Bool) (n : ℕ) → filter p (range_with_len 0 (n + 1)) ≡ filter p (range_with_len 0 n) ++ filter p (n ∷ [])
passing_next p n = ap (filter p) (range_next n) ∙ filter-append p (range_with_len 0 n) (n ∷ [])

-- a number that passes is found too
pub passes : (p : ℕ → Bool) (n : ℕ) (found more : List ClassId) (class : ClassId) → class.0 ≡ n → p n ≡ true
    → map (λ c. c.0) found ≡ filter p (range_with_len 0 n) → more ≡ found ++ class ∷ [] → map (λ c. c.0) more ≡ filter p (range_with_len 0 (n + 1))
passes p n found more class same passed so_far grown =
    let one : filter p (n ∷ []) ≡ n ∷ [] = ap (λ b. cond b (n ∷ []) []) passed in
    ap (map (λ c. c.0)) grown ∙ map-append (λ (c : ClassId). c.0) found (class ∷ []) ∙ ap (λ xs. xs ++ class.0 ∷ []) so_far ∙ ap (λ k. filter p (range_with_len 0 n) ++ k ∷ []) same
    ∙ ap (λ xs. filter p (range_with_len 0 n) ++ xs) (sym one) ∙ sym (passing_next p n)

-- and one that doesn't is passed over
pub passed_over : (p : ℕ → Bool) (n : ℕ) (found : List ClassId) → p n ≡ false → map (λ c. c.0) found ≡ filter p (range_with_len 0 n)
    → map (λ c. c.0) found ≡ filter p (range_with_len 0 (n + 1))
passed_over p n found failed so_far =
    let none : filter p (n ∷ []) ≡ [] = ap (λ b. cond b (n ∷ []) []) failed in
    so_far ∙ sym (append-nil (filter p (range_with_len 0 n))) ∙ ap (λ xs. filter p (range_with_len 0 n) ++ xs) (sym none) ∙ sym (passing_next p n)

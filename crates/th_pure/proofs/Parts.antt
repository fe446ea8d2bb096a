-- Facts apart by how they bound a variable, and combined again.
use Rattle.std.proofs.Common.{◌≡◌, ℕ, zero, suc, ◌*◌, ◌/◌, ◌<◌, ◌≤◌, ℤ, pos, ◌<ℤ◌, ◌≤ℤ◌, List, [], ◌∷◌, ◌++◌, map, arith, refl, ap, sym, ◌∙◌, Bool, true, false, append_assoc, get_or, Option, Some, None}
use Rattle.std.specs.Prelude.{filter, All}
use Rattle.std.specs.Int.{◌∣◌}
use Rattle.std.specs.Int.RustNames.{int_lt}
use Rattle.std.specs.Ordering.{int_eq}
use Rattle.std.proofs.lemmas.Int.{ints}
use Rattle.std.proofs.lemmas.List.Elements.{All-filter, filter_passes}
use Rattle.std.proofs.Math.Nat.{mul-le-mul}
use native.Mathlib.Nat.{pos_of_dvd_of_pos, mul-div_cancel'}
use Rattle.th_linear.specs.Forms.{Form, coef}
use Rattle.th_linear.specs.declared.fact.Rel.TheVariants.{Le}
use Rattle.th_pure.specs.declared.facts.Outcome.{Outcome}
use Rattle.th_pure.specs.declared.facts.Outcome.TheVariants.{Refuted, Undecided, Remaining}
use Rattle.th_pure.specs.Outcomes.{and_then, facts_before}
use Rattle.th_pure.specs.Substitution.{all_made}
use Rattle.th_pure.specs.Elimination.{IsUpper, IsLower, AreInequalities, uppers, lowers, without, combinations, vanishing}
use Rattle.th_pure.proofs.Chains.{before_both}

-- ---- signs

upper_test : (z : ℤ) → pos 0 <ℤ z → int_lt (pos 0) z ≡ true
upper_test z h = grind (arith, ints)

lower_test : (z : ℤ) → z <ℤ pos 0 → int_lt z (pos 0) ≡ true
lower_test z h = grind (arith, ints)

not_lower : (z : ℤ) → pos 0 ≤ℤ z → int_lt z (pos 0) ≡ false
not_lower z h = grind (arith, ints)

not_upper : (z : ℤ) → z ≤ℤ pos 0 → int_lt (pos 0) z ≡ false
not_upper z h = grind (arith, ints)

not_zero : (z : ℤ) → pos 0 <ℤ z → int_eq z (pos 0) ≡ false
not_zero z h = grind (arith, ints)

not_zero_below : (z : ℤ) → z <ℤ pos 0 → int_eq z (pos 0) ≡ false
not_zero_below z h = grind (arith, ints)

is_zero : (z : ℤ) → pos 0 ≤ℤ z → z ≤ℤ pos 0 → int_eq z (pos 0) ≡ true
is_zero z h k = grind (arith, ints)

-- the parts so far stand before those of the rest
pub record Apart (v : ℕ) (all us ls ws rest : List Form) : Type 0 where
  pub upper : uppers v all ≡ us ++ uppers v rest
  pub lower : lowers v all ≡ ls ++ lowers v rest
  pub other : without v all ≡ ws ++ without v rest

one_more : (xs ys : List Form) (x : Form) → xs ++ (x ∷ ys) ≡ (xs ++ x ∷ []) ++ ys
one_more xs ys x = sym (append_assoc xs (x ∷ []) ys)

-- a test that a fact passes, and one that it fails
passes : (test : Form → Bool) (f : Form) (xs ys rest more : List Form) → more ≡ f ∷ rest → test f ≡ true → ys ≡ xs ++ filter test more → ys ≡ (xs ++ f ∷ []) ++ filter test rest
passes test f xs ys rest more e t h =
    let kept : filter test more ≡ f ∷ filter test rest = ap (filter test) e ∙ rw t refl in
    h ∙ ap (λ zs. xs ++ zs) kept ∙ one_more xs (filter test rest) f

fails : (test : Form → Bool) (f : Form) (xs ys rest more : List Form) → more ≡ f ∷ rest → test f ≡ false → ys ≡ xs ++ filter test more → ys ≡ xs ++ filter test rest
fails test f xs ys rest more e t h =
    let gone : filter test more ≡ filter test rest = ap (filter test) e ∙ rw t refl in
    h ∙ ap (λ zs. xs ++ zs) gone

pub apart_upper : (v : ℕ) (f : Form) (all us ls ws rest more : List Form) → more ≡ f ∷ rest → pos 0 <ℤ coef v f.coefs
    → Apart v all us ls ws more → Apart v all (us ++ f ∷ []) ls ws rest
apart_upper v f all us ls ws rest more e h a = record {
  upper = passes (λ g. int_lt (pos 0) (coef v g.coefs)) f us (uppers v all) rest more e (upper_test (coef v f.coefs) h) a.upper;
  lower = fails (λ g. int_lt (coef v g.coefs) (pos 0)) f ls (lowers v all) rest more e (not_lower (coef v f.coefs) (omega (arith, ints, h))) a.lower;
  other = fails (λ g. int_eq (coef v g.coefs) (pos 0)) f ws (without v all) rest more e (not_zero (coef v f.coefs) h) a.other;
}

pub apart_lower : (v : ℕ) (f : Form) (all us ls ws rest more : List Form) → more ≡ f ∷ rest → coef v f.coefs <ℤ pos 0
    → Apart v all us ls ws more → Apart v all us (ls ++ f ∷ []) ws rest
apart_lower v f all us ls ws rest more e h a = record {
  upper = fails (λ g. int_lt (pos 0) (coef v g.coefs)) f us (uppers v all) rest more e (not_upper (coef v f.coefs) (omega (arith, ints, h))) a.upper;
  lower = passes (λ g. int_lt (coef v g.coefs) (pos 0)) f ls (lowers v all) rest more e (lower_test (coef v f.coefs) h) a.lower;
  other = fails (λ g. int_eq (coef v g.coefs) (pos 0)) f ws (without v all) rest more e (not_zero_below (coef v f.coefs) h) a.other;
}

pub apart_other : (v : ℕ) (f : Form) (all us ls ws rest more : List Form) → more ≡ f ∷ rest → pos 0 ≤ℤ coef v f.coefs → coef v f.coefs ≤ℤ pos 0
    → Apart v all us ls ws more → Apart v all us ls (ws ++ f ∷ []) rest
apart_other v f all us ls ws rest more e h k a = record {
  upper = fails (λ g. int_lt (pos 0) (coef v g.coefs)) f us (uppers v all) rest more e (not_upper (coef v f.coefs) k) a.upper;
  lower = fails (λ g. int_lt (coef v g.coefs) (pos 0)) f ls (lowers v all) rest more e (not_lower (coef v f.coefs) h) a.lower;
  other = passes (λ g. int_eq (coef v g.coefs) (pos 0)) f ws (without v all) rest more e (is_zero (coef v f.coefs) h k) a.other;
}

-- ---- what the parts are

pub above : (z : ℤ) → int_lt (pos 0) z ≡ true → pos 0 <ℤ z
above z e = grind (arith, ints)

below : (z : ℤ) → int_lt z (pos 0) ≡ true → z <ℤ pos 0
below z e = grind (arith, ints)

pub uppers_are : (v : ℕ) (fs : List Form) → AreInequalities fs → All (IsUpper v) (uppers v fs)
uppers_are v fs h = λ k d lt. (
  All-filter (λ f. int_lt (pos 0) (coef v f.coefs)) (λ f. f.rel ≡ Le) fs h k d lt,
  above (coef v (get_or (uppers v fs) k d).coefs) (filter_passes (λ f. int_lt (pos 0) (coef v f.coefs)) fs k d lt),
)

pub lowers_are : (v : ℕ) (fs : List Form) → AreInequalities fs → All (IsLower v) (lowers v fs)
lowers_are v fs h = λ k d lt. (
  All-filter (λ f. int_lt (coef v f.coefs) (pos 0)) (λ f. f.rel ≡ Le) fs h k d lt,
  below (coef v (get_or (lowers v fs) k d).coefs) (filter_passes (λ f. int_lt (coef v f.coefs) (pos 0)) fs k d lt),
)

pub others_are : (v : ℕ) (fs : List Form) → AreInequalities fs → AreInequalities (without v fs)
others_are v fs h = All-filter (λ f. int_eq (coef v f.coefs) (pos 0)) (λ f. f.rel ≡ Le) fs h

pub not_above : (z : ℤ) → int_lt (pos 0) z ≡ false → z ≤ℤ pos 0
not_above z e = grind (arith, ints)

pub not_below : (z : ℤ) → int_lt z (pos 0) ≡ false → pos 0 ≤ℤ z
not_below z e = grind (arith, ints)

-- ---- results of one list before those of another

after_nothing : (o : Outcome) → o ≡ and_then o (λ fs. Remaining fs)
after_nothing Refuted = refl
after_nothing Undecided = refl
after_nothing (Remaining fs) = refl

chained : (out : List Form) (x r : Outcome) → facts_before out (and_then x (λ fs. facts_before fs r)) ≡ and_then (facts_before out x) (λ ks. facts_before ks r)
chained out Refuted r = refl
chained out Undecided r = refl
chained out (Remaining fs) r = before_both out fs r

before_one : (f : Form) (x r : Outcome) → facts_before (f ∷ []) (and_then x (λ fs. facts_before fs r)) ≡ and_then (facts_before (f ∷ []) x) (λ ks. facts_before ks r)
before_one f x r = chained (f ∷ []) x r

made_append : (xs ys : List (Option Form)) → all_made (xs ++ ys) ≡ and_then (all_made xs) (λ fs. facts_before fs (all_made ys))
made_append [] ys = before_nil (all_made ys)
  where
    before_nil : (o : Outcome) → o ≡ facts_before [] o
    before_nil Refuted = refl
    before_nil Undecided = refl
    before_nil (Remaining fs) = refl
made_append (None ∷ xs) ys = refl
made_append (Some f ∷ xs) ys = ap (facts_before (f ∷ [])) (made_append xs ys) ∙ before_one f (all_made xs) (all_made ys)

-- one fact's combinations made, and then the others'
pub one_combined : (v : ℕ) (a : Form) (rest more bs out : List Form) (o : Outcome) → more ≡ a ∷ rest
    → o ≡ facts_before out (all_made (map (λ b. vanishing v a b) bs))
    → facts_before out (all_made (combinations v more bs)) ≡ and_then o (λ ks. facts_before ks (all_made (combinations v rest bs)))
one_combined v a rest more bs out o e h =
    let first : List (Option Form) = map (λ b. vanishing v a b) bs in
    ap (λ ms. facts_before out (all_made (combinations v ms bs))) e
    ∙ ap (facts_before out) (made_append first (combinations v rest bs))
    ∙ chained out (all_made first) (all_made (combinations v rest bs))
    ∙ ap (λ (x : Outcome). and_then x (λ ks. facts_before ks (all_made (combinations v rest bs)))) (sym h)

-- ---- factors

pub factor_small : (n g m : ℕ) → 0 < n → g ∣ n → n < m → n / g < m
factor_small n g m some d small = under (n / g) (mul-div_cancel' g d) (pos_of_dvd_of_pos d some)
  where
    under : (q : ℕ) → g * q ≡ n → 0 < g → q < m
    under q e h =
        let one : 1 ≤ g = omega (arith, h) in
        let same : q ≤ q = omega arith in
        let k : 1 * q ≤ g * q = mul-le-mul one same in
        omega (arith, k, e, small)

pub factor_positive : (n g : ℕ) → 0 < n → g ∣ n → 0 < n / g
factor_positive n g some d = positive (n / g) (mul-div_cancel' g d)
  where
    positive : (q : ℕ) → g * q ≡ n → 0 < q
    positive zero e = omega (arith, e, some)
    positive (suc q) e = omega arith

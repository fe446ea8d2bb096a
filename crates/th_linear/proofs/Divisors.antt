-- The greatest common divisor of a list, term by term.
use Rattle.std.proofs.Common.{◌≡◌, ℕ, ◌+◌, ◌*◌, ◌<◌, ℤ, pos, negsuc, List, [], ◌∷◌, ◌++◌, ◌*ℤ◌, ◌<ℤ◌, length, take, drop, get_or, set, arith, refl, ap, sym, ◌∙◌, subst}
use Rattle.std.specs.Int.{IsGcd, ◌∣◌}
use Rattle.std.specs.Int.RustNames.{unsigned_abs, int_div, int_rem}
use Rattle.std.proofs.lemmas.Nat.Gcd.{dvd-zero, dvd_trans}
use Rattle.std.proofs.lemmas.Int.{ints, unsigned_abs-mul}
use Rattle.th_linear.specs.Normal.{IsContent, DividesAll, scaled}
use Rattle.th_linear.specs.Forms.{AreTerms, Small}
use native.Mathlib.Nat.{pos_of_dvd_of_pos, mul-div_cancel', le_of_dvd, one-dvd, dvd_of_mod-eq-zero, mod-eq-zero_of_dvd}
use Rattle.std.proofs.Common.{◌/◌, neg_ℤ, suc, zero, ◌^◌}
use Rattle.std.proofs.lemmas.List.{take_more, take_more_set, drop-set-lt, drop-drop, map-append, get_or-drop}

pub content_none : IsContent 0 []
content_none = (tt, (λ d h. dvd-zero d))

pub all_divide : (d e : ℕ) (ts : List (ℕ × ℤ)) → d ∣ e → DividesAll e ts → DividesAll d ts
all_divide d e [] h a = tt
all_divide d e (t ∷ ts) h a = (dvd_trans d h a.0, all_divide d e ts h a.1)

front : (d : ℕ) (ts : List (ℕ × ℤ)) (t : ℕ × ℤ) → DividesAll d (ts ++ t ∷ []) → DividesAll d ts × (d ∣ unsigned_abs t.1)
front d [] t a = (tt, a.0)
front d (u ∷ ts) t a = let r = front d ts t a.1 in ((a.0, r.0), r.1)

back : (d : ℕ) (ts : List (ℕ × ℤ)) (t : ℕ × ℤ) → DividesAll d ts → d ∣ unsigned_abs t.1 → DividesAll d (ts ++ t ∷ [])
back d [] t a h = (h, tt)
back d (u ∷ ts) t a h = (a.0, back d ts t a.1 h)

pub content_more : (ts : List (ℕ × ℤ)) (t : ℕ × ℤ) (g h : ℕ) → IsContent g ts → IsGcd g (unsigned_abs t.1) h → IsContent h (ts ++ t ∷ [])
content_more ts t g h c d =
    (back h ts t (all_divide h g ts d.0 c.0) d.1, (λ e a. let f = front e ts t a in d.2 e (c.1 e f.0) f.1))

-- the greatest common divisor of terms that are there is positive
pub content_positive : (g low : ℕ) (ts : List (ℕ × ℤ)) → (ts ≡ [] → ⊥) → AreTerms low ts → DividesAll g ts → 0 < g
content_positive g low [] some terms d = absurd (some refl)
content_positive g low (t ∷ ts) some terms d = pos_of_dvd_of_pos d.0 terms.1

-- a quotient that is whole
pub exact_div : (g : ℕ) (z : ℤ) → g ∣ unsigned_abs z → z ≡ pos g *ℤ int_div z (pos g)
exact_div g (pos n) d = ap pos (sym (mul-div_cancel' g d))
exact_div g (negsuc n) d =
    let e : g * (suc n / g) ≡ suc n = mul-div_cancel' g d in
    grind (arith, ints, e)

pub exact_div-signed : (z g : ℤ) → pos 0 <ℤ g → unsigned_abs g ∣ unsigned_abs z → z ≡ g *ℤ int_div z g
exact_div-signed z (pos g) p d = exact_div g z d
exact_div-signed z (negsuc g) p d = absurd p.lt

pub quotients : (g : ℕ) (ts : List (ℕ × ℤ)) → DividesAll g ts → (us : List (ℕ × ℤ)) × (ts ≡ scaled (pos g) us)
quotients g [] d = ([], refl)
quotients g (t ∷ ts) d =
    let q = exact_div g t.1 d.0 in
    let rest = quotients g ts d.1 in
    ((t.0, int_div t.1 (pos g)) ∷ rest.0, λ i. (t.0, q i) ∷ rest.1 i)

pub divides_at : (g : ℕ) (ts : List (ℕ × ℤ)) (i : ℕ) (d : ℕ × ℤ) → DividesAll g ts → i < length ts → g ∣ unsigned_abs (get_or ts i d).1
divides_at g [] i d a h = absurd (omega arith)
divides_at g (t ∷ ts) zero d a h = a.0
divides_at g (t ∷ ts) (suc i) d a h = divides_at g ts i d a.1 (omega arith)

pub same_at : (old xs : List (ℕ × ℤ)) (i : ℕ) (d : ℕ × ℤ) → drop i old ≡ drop i xs → get_or old i d ≡ get_or xs i d
same_at old xs i d e =
    let z : i + 0 ≡ i = omega arith in
    ap (λ n. get_or old n d) (sym z) ∙ sym (get_or-drop i old 0 d) ∙ ap (λ ts. get_or ts 0 d) e ∙ get_or-drop i xs 0 d ∙ ap (λ n. get_or xs n d) z

pub divide_step : (g : ℤ) (old xs : List (ℕ × ℤ)) (i : ℕ) (q : ℤ) → i < length xs → length old ≡ length xs
    → take i old ≡ scaled g (take i xs) → drop i old ≡ drop i xs → (get_or xs i (0, pos 0)).1 ≡ g *ℤ q
    → (take (i + 1) old ≡ scaled g (take (i + 1) (set xs i ((get_or xs i (0, pos 0)).0, q))))
    × (drop (i + 1) old ≡ drop (i + 1) (set xs i ((get_or xs i (0, pos 0)).0, q)))
divide_step g old xs i q h len front back e =
    let t = get_or xs i (0, pos 0) in
    let lt : i < length old = omega arith in
    let past : i < i + 1 = omega arith in
    let one : drop (i + 1) old ≡ drop (i + 1) xs = sym (drop-drop 1 i old) ∙ ap (λ ts. drop 1 ts) back ∙ drop-drop 1 i xs in
    let item : get_or old i (0, pos 0) ≡ (t.0, g *ℤ q) = same_at old xs i (0, pos 0) back ∙ (λ j. (t.0, e j)) in (
      take_more old i (0, pos 0) lt ∙ ap (λ ts. ts ++ get_or old i (0, pos 0) ∷ []) front ∙ ap (λ u. scaled g (take i xs) ++ u ∷ []) item
          ∙ sym (ap (scaled g) (take_more_set xs i (t.0, q) h) ∙ map-append _ (take i xs) ((t.0, q) ∷ [])),
      one ∙ sym (drop-set-lt (i + 1) xs i (t.0, q) past),
    )

-- whether a remainder is 0
pub rest-divides : (k g : ℤ) → int_rem k g ≡ pos 0 → unsigned_abs g ∣ unsigned_abs k
rest-divides (pos n) g e = dvd_of_mod-eq-zero (unsigned_abs g) (grind (arith, ints))
rest-divides (negsuc n) g e = dvd_of_mod-eq-zero (unsigned_abs g) (grind (arith, ints))

pub divides-rest : (k g : ℤ) → unsigned_abs g ∣ unsigned_abs k → int_rem k g ≡ pos 0
divides-rest (pos n) g d = ap pos (mod-eq-zero_of_dvd (unsigned_abs g) d)
divides-rest (negsuc n) g d = ap (λ m. neg_ℤ (pos m)) (mod-eq-zero_of_dvd (unsigned_abs g) d)

-- a quotient is no larger
pub quotient_small : (g z q : ℤ) (m : ℕ) → pos 0 <ℤ g → z ≡ g *ℤ q → unsigned_abs z < m → unsigned_abs q < m
quotient_small (pos zero) z q m p e h = absurd p.lt
quotient_small (pos (suc g)) z q m p e h =
    let size : unsigned_abs z ≡ suc g * unsigned_abs q = ap unsigned_abs e ∙ unsigned_abs-mul (pos (suc g)) q in
    omega (arith, size, h)
quotient_small (negsuc g) z q m p e h = absurd p.lt

pub divided-terms : (g : ℤ) (low : ℕ) (ts us : List (ℕ × ℤ)) → pos 0 <ℤ g → ts ≡ scaled g us → AreTerms low ts → AreTerms low us
divided-terms g low ts us p e terms = over us low (subst (AreTerms low) e terms)
  where
    over : (vs : List (ℕ × ℤ)) (n : ℕ) → AreTerms n (scaled g vs) → AreTerms n vs
    over [] n h = tt
    over (v ∷ vs) n h = (h.0, positive v.1 h.1, quotient_small g (g *ℤ v.1) v.1 (2 ^ 62) p refl h.2, over vs (v.0 + 1) h.3)
      where
        positive : (z : ℤ) → 0 < unsigned_abs (g *ℤ z) → 0 < unsigned_abs z
        positive z k = let size = unsigned_abs-mul g z in by (unsigned_abs z) size k
          where
            by : (m : ℕ) → unsigned_abs (g *ℤ z) ≡ unsigned_abs g * m → 0 < unsigned_abs (g *ℤ z) → 0 < m
            by zero size k = omega (arith, size)
            by (suc m) size k = omega arith

pub content_small : (g low : ℕ) (ts : List (ℕ × ℤ)) → (ts ≡ [] → ⊥) → AreTerms low ts → DividesAll g ts → g < 2 ^ 62
content_small g low [] some terms d = absurd (some refl)
content_small g low (t ∷ ts) some terms d = omega (arith, le_of_dvd terms.1 d.0, terms.2)

-- where some of the coefficients are coprime, all are
each_one : (ts : List (ℕ × ℤ)) → DividesAll 1 ts
each_one [] = tt
each_one (t ∷ ts) = (one-dvd (unsigned_abs t.1), each_one ts)

divides_front : (d i : ℕ) (ts : List (ℕ × ℤ)) → DividesAll d ts → DividesAll d (take i ts)
divides_front d zero ts a = tt
divides_front d (suc i) [] a = tt
divides_front d (suc i) (t ∷ ts) a = (a.0, divides_front d i ts a.1)

pub coprime_front : (i : ℕ) (ts : List (ℕ × ℤ)) → IsContent 1 (take i ts) → IsContent 1 ts
coprime_front i ts c = (each_one ts, (λ d a. c.1 d (divides_front d i ts a)))

pub small_term : (low i : ℕ) (ts : List (ℕ × ℤ)) (d : ℕ × ℤ) → AreTerms low ts → i < length ts → Small (get_or ts i d).1
small_term low i [] d h lt = absurd (omega arith)
small_term low zero (t ∷ ts) d h lt = h.2
small_term low (suc i) (t ∷ ts) d h lt = small_term (t.0 + 1) i ts d h.3 (omega arith)

-- Division by the greatest common divisor has one result.
use Rattle.std.proofs.Common.{◌≡◌, ℕ, zero, suc, ◌+◌, ◌*◌, ◌%◌, ◌/◌, ◌^◌, ◌<◌, ◌≤◌, min, ℤ, pos, negsuc, List, [], ◌∷◌, map, ◌*ℤ◌, ◌+ℤ◌, ◌≤ℤ◌, ◌<ℤ◌, neg_ℤ, arith, refl, ap, sym, ◌∙◌, cond, inl, inr, true, false, subst}
use Rattle.std.specs.Int.{◌∣◌, div_ceil}
use Rattle.std.specs.Int.RustNames.{unsigned_abs, int_div}
use Rattle.std.specs.Ordering.{int_eq}
use Rattle.std.specs.Bool.{Decides}
use Rattle.std.proofs.lemmas.Int.{ints, unsigned_abs-mul}
use native.Mathlib.Nat.{dvd-mul_right}
use Rattle.std.proofs.Math.Nat.{mul-le-mul}
use Rattle.std.proofs.lemmas.Bool.{cases_eq, cases_Bool, false_from_ne_true}
use Rattle.std.proofs.lemmas.Bool.Decides.{Decides-int_eq, Decides-not}
use Rattle.th_linear.specs.Forms.{Form, IsForm, Stands, Small}
use Rattle.th_linear.specs.Normal.{IsContent, DividesAll, Divides, IsDivided, IsNormal, LeavesForm, scaled}
use Rattle.th_linear.specs.Divided.{divides, content_of, quotient_up, divided_form, divided_by, stands, normal_by, normal_of}
use Rattle.th_linear.specs.declared.fact.Rel.{Rel}
use Rattle.th_linear.specs.declared.fact.Rel.TheVariants.{Eq, Le, Ne}
use Rattle.th_linear.specs.declared.division.NormalForm.{NormalForm}
use Rattle.th_linear.specs.declared.division.NormalForm.TheVariants.{True, False, Fact}
use Rattle.th_linear.proofs.Ring.{distrib, cancel, cancel_lt}
use Rattle.th_linear.proofs.Divisors.{exact_div, content_positive, quotient_small, divided-terms}
use Rattle.th_linear.proofs.Greatest.{decides_divides, content_is, content_exists}

times_neg : (g : ℕ) (y : ℤ) → pos g *ℤ neg_ℤ y ≡ neg_ℤ (pos g *ℤ y)
times_neg g y =
    let none : y +ℤ neg_ℤ y ≡ pos 0 = omega (arith, ints) in
    let product : pos g *ℤ (y +ℤ neg_ℤ y) ≡ pos 0 = ap (λ z. pos g *ℤ z) none ∙ times_zero (pos g) in
    let parts = distrib (pos g) y (neg_ℤ y) in
    omega (arith, ints, product, parts)
  where
    times_zero : (p : ℤ) → p *ℤ pos 0 ≡ pos 0
    times_zero p = omega (arith, ints)

-- a difference times g
times_less : (g : ℕ) (x y : ℤ) → pos g *ℤ (x +ℤ neg_ℤ y) ≡ (pos g *ℤ x) +ℤ neg_ℤ (pos g *ℤ y)
times_less g x y = distrib (pos g) x (neg_ℤ y) ∙ ap (λ z. (pos g *ℤ x) +ℤ z) (times_neg g y)

cancel_same : (g : ℕ) (x y : ℤ) → 0 < g → pos g *ℤ x ≡ pos g *ℤ y → x ≡ y
cancel_same g x y h e =
    let none : pos g *ℤ (x +ℤ neg_ℤ y) ≡ pos 0 = times_less g x y ∙ opposite (pos g *ℤ x) (pos g *ℤ y) e in
    let z : x +ℤ neg_ℤ y ≡ pos 0 = cancel g (x +ℤ neg_ℤ y) h none in
    omega (arith, ints)
  where
    opposite : (a b : ℤ) → a ≡ b → a +ℤ neg_ℤ b ≡ pos 0
    opposite a b q = omega (arith, ints)

times_div : (g : ℕ) (x : ℤ) → 0 < g → int_div (pos g *ℤ x) (pos g) ≡ x
times_div g x h =
    let d : g ∣ unsigned_abs (pos g *ℤ x) = subst (λ (m : ℕ). g ∣ m) (sym (unsigned_abs-mul (pos g) x)) (dvd-mul_right g (unsigned_abs x)) in
    sym (cancel_same g x (int_div (pos g *ℤ x) (pos g)) h (exact_div g (pos g *ℤ x) d))

quotients_are : (g : ℕ) (us : List (ℕ × ℤ)) → 0 < g → map (λ t. (t.0, int_div t.1 (pos g))) (scaled (pos g) us) ≡ us
quotients_are g [] h = refl
quotients_are g (u ∷ us) h = λ i. (u.0, times_div g u.1 h i) ∷ quotients_are g us h i

no_more : (g : ℕ) (k x y : ℤ) → 0 < g → Divides Le g k x → Divides Le g k y → x ≤ℤ y
no_more g k x y h d e =
    let less = times_less g x y in
    let z : (x +ℤ neg_ℤ y) ≤ℤ pos 0 = cancel_lt g (x +ℤ neg_ℤ y) h (rw less (below (pos g *ℤ x) (pos g *ℤ y) d.1 e.0)) in
    omega (arith, ints)
  where
    below : (a b : ℤ) → a <ℤ (k +ℤ pos g) → k ≤ℤ b → (a +ℤ neg_ℤ b) <ℤ pos g
    below a b u v = omega (arith, ints)

one_up : (g : ℕ) (k x y : ℤ) → 0 < g → Divides Le g k x → Divides Le g k y → x ≡ y
one_up g k x y h d e =
    let a = no_more g k x y h d e in
    let b = no_more g k y x h e d in
    omega (arith, ints)

ceil_bounds : (n g : ℕ) → 0 < g → (n ≤ g * div_ceil n g) × (g * div_ceil n g < n + g)
ceil_bounds n g h = elim (cases_eq (n % g) 0) [
  | inl e ↦
      let m : min 1 (n % g) ≡ 0 = omega (arith, e) in
      rw m (omega (arith, e), omega (arith, e))
  | inr ne ↦
      let m : min 1 (n % g) ≡ 1 = omega (arith, ne) in
      rw m (omega (arith, ne), omega (arith, ne))
]

up_divides : (g : ℕ) (k : ℤ) → 0 < g → Divides Le g k (quotient_up g k)
up_divides g (pos n) h = let b = ceil_bounds n g h in (omega (arith, ints, b.0), omega (arith, ints, b.1))
up_divides g (negsuc n) h =
    let t : pos g *ℤ neg_ℤ (pos (suc n / g)) ≡ neg_ℤ (pos (g * (suc n / g))) = times_neg g (pos (suc n / g)) in
    (rw t (omega (arith, ints)), rw t (omega (arith, ints)))

form_is : (f r : Form) (g : ℕ) (k : ℤ) → 0 < g → f.coefs ≡ scaled (pos g) r.coefs → r.rel ≡ f.rel → r.constant ≡ k → r ≡ divided_form g f k
form_is f r g k h c e d =
    let terms : r.coefs ≡ map (λ t. (t.0, int_div t.1 (pos g))) f.coefs = sym (ap (map (λ t. (t.0, int_div t.1 (pos g)))) c ∙ quotients_are g r.coefs h) in
    λ i. record { coefs = terms i; constant = d i; rel = e i }

whole_div : (g : ℕ) (k r : ℤ) → 0 < g → k ≡ pos g *ℤ r → r ≡ int_div k (pos g)
whole_div g k r h e = sym (ap (λ z. int_div z (pos g)) e ∙ times_div g r h)

whole_divides : (g : ℕ) (k r : ℤ) → k ≡ pos g *ℤ r → g ∣ unsigned_abs k
whole_divides g k r e =
    subst (λ (m : ℕ). g ∣ m) (sym (ap unsigned_abs e ∙ unsigned_abs-mul (pos g) r)) (dvd-mul_right g (unsigned_abs r))

-- a fact with variables divided by its content
by_relation : (rel : Rel) (f r : Form) (g : ℕ) → f.rel ≡ rel → 0 < g → IsDivided f r g → Fact r ≡ divided_by rel g f
by_relation Le f r g e h d =
    ap Fact (form_is f r g (quotient_up g f.constant) h d.coefs d.rel (one_up g f.constant r.constant (quotient_up g f.constant) h (rw e at d.constant) (up_divides g f.constant h)))
by_relation Eq f r g e h d =
    let whole : f.constant ≡ pos g *ℤ r.constant = rw e at d.constant in
    rw ((decides_divides g (unsigned_abs f.constant)).1 (whole_divides g f.constant r.constant whole))
    (ap Fact (form_is f r g (int_div f.constant (pos g)) h d.coefs d.rel (whole_div g f.constant r.constant h whole)))
by_relation Ne f r g e h d =
    let whole : f.constant ≡ pos g *ℤ r.constant = rw e at d.constant in
    rw ((decides_divides g (unsigned_abs f.constant)).1 (whole_divides g f.constant r.constant whole))
    (ap Fact (form_is f r g (int_div f.constant (pos g)) h d.coefs d.rel (whole_div g f.constant r.constant h whole)))

-- a fact with coprime coefficients stays
scaled_one : (ts : List (ℕ × ℤ)) → ts ≡ scaled (pos 1) ts
scaled_one [] = refl
scaled_one (t ∷ ts) = λ i. (t.0, times_one t.1 i) ∷ scaled_one ts i
  where
    times_one : (z : ℤ) → z ≡ pos 1 *ℤ z
    times_one z = omega (arith, ints)

divides_once : (rel : Rel) (k : ℤ) → Divides rel 1 k k
divides_once Le k = (omega (arith, ints), omega (arith, ints))
divides_once Eq k = omega (arith, ints)
divides_once Ne k = omega (arith, ints)

pub undivided : (f : Form) (g : ℕ) → g ≡ 1 → IsContent g f.coefs → IsDivided f f g
undivided f g e c =
    rw e (record { content = rw e at c; coefs = scaled_one f.coefs; constant = divides_once f.rel f.constant; rel = refl })

-- what stands for a fact with variables whose constant isn't divisible
not_whole_Eq : (f : Form) (g : ℕ) → ((g ∣ unsigned_abs f.constant) → ⊥) → False ≡ divided_by Eq g f
not_whole_Eq f g h = rw (false_from_ne_true (divides g (unsigned_abs f.constant)) (λ e. h ((decides_divides g (unsigned_abs f.constant)).0 e))) refl

not_whole_Ne : (f : Form) (g : ℕ) → ((g ∣ unsigned_abs f.constant) → ⊥) → True ≡ divided_by Ne g f
not_whole_Ne f g h = rw (false_from_ne_true (divides g (unsigned_abs f.constant)) (λ e. h ((decides_divides g (unsigned_abs f.constant)).0 e))) refl

pub decides_stands : (rel : Rel) (z : ℤ) → Decides (stands rel z) (Stands rel z)
decides_stands Eq z = Decides-int_eq z (pos 0)
decides_stands Le z = ((λ e. grind (arith, ints)), (λ h. grind (arith, ints)))
decides_stands Ne z = Decides-not (int_eq z (pos 0)) (Decides-int_eq z (pos 0))

-- by the terms of the fact
with_terms : (ts : List (ℕ × ℤ)) (f : Form) → f.coefs ≡ ts → (ts ≡ [] → ⊥) → normal_by ts f ≡ divided_by f.rel (content_of ts) f
with_terms [] f e some = absurd (some refl)
with_terms (t ∷ ts) f e some = refl

with_content : (f : Form) (n : NormalForm) → IsForm f.coefs f.constant → (f.coefs ≡ [] → ⊥) → (g : ℕ) → IsContent g f.coefs
    → n ≡ divided_by f.rel g f → n ≡ normal_of f
unfolding normal_of
with_content f n h some g c e =
    e ∙ sym (with_terms f.coefs f refl some ∙ ap (λ d. divided_by f.rel d f) (content_is g 0 f.coefs some h.terms c))

pub only_normal : (f : Form) (n : NormalForm) → IsForm f.coefs f.constant → IsNormal f n → n ≡ normal_of f
unfolding normal_of
only_normal f True h (inl k) = rw (k.0, (decides_stands f.rel f.constant).1 k.1) refl
only_normal f True h (inr k) =
    let some : f.coefs ≡ [] → ⊥ = k.1 in
    with_content f True h some k.2.0 k.2.1.0 (subst (λ (rel : Rel). True ≡ divided_by rel k.2.0 f) (sym k.0) (not_whole_Ne f k.2.0 k.2.1.1))
only_normal f False h (inl k) = rw (k.0, false_from_ne_true (stands f.rel f.constant) (λ e. k.1 ((decides_stands f.rel f.constant).0 e))) refl
only_normal f False h (inr k) =
    with_content f False h k.1 k.2.0 k.2.1.0 (subst (λ (rel : Rel). False ≡ divided_by rel k.2.0 f) (sym k.0) (not_whole_Eq f k.2.0 k.2.1.1))
only_normal f (Fact r) h k =
    with_content f (Fact r) h k.0 k.1.0 k.1.1.content
    (by_relation f.rel f r k.1.0 refl (content_positive k.1.0 0 f.coefs k.0 h.terms k.1.1.content.0) k.1.1)

-- ---- and it has one

each_times : (g : ℕ) (ts : List (ℕ × ℤ)) → DividesAll g ts → ts ≡ scaled (pos g) (map (λ t. (t.0, int_div t.1 (pos g))) ts)
each_times g [] d = refl
each_times g (t ∷ ts) d = λ i. (t.0, exact_div g t.1 d.0 i) ∷ each_times g ts d.1 i

is_divided : (f : Form) (g : ℕ) (k : ℤ) → IsContent g f.coefs → Divides f.rel g f.constant k → IsDivided f (divided_form g f k) g
is_divided f g k c d = record { content = c; coefs = each_times g f.coefs c.0; constant = d; rel = refl }

whole_at : (g : ℕ) (k : ℤ) → divides g (unsigned_abs k) ≡ true → k ≡ pos g *ℤ int_div k (pos g)
whole_at g k e = exact_div g k ((decides_divides g (unsigned_abs k)).0 e)

not_at : (g : ℕ) (k : ℤ) → divides g (unsigned_abs k) ≡ false → (g ∣ unsigned_abs k) → ⊥
not_at g k e d = let n : true ≡ false = sym ((decides_divides g (unsigned_abs k)).1 d) ∙ e in cc

normal_divided : (rel : Rel) (f : Form) (g : ℕ) → f.rel ≡ rel → (f.coefs ≡ [] → ⊥) → IsContent g f.coefs → 0 < g → IsNormal f (divided_by rel g f)
normal_divided Le f g e some c h =
    (some, (g, is_divided f g (quotient_up g f.constant) c (rw e (up_divides g f.constant h))))
normal_divided Eq f g e some c h = elim (cases_Bool (divides g (unsigned_abs f.constant))) [
  | inl is ↦ rw is (some, (g, is_divided f g (int_div f.constant (pos g)) c (rw e (whole_at g f.constant is))))
  | inr isnt ↦ rw isnt (inr (e, some, (g, (c, not_at g f.constant isnt))))
]
normal_divided Ne f g e some c h = elim (cases_Bool (divides g (unsigned_abs f.constant))) [
  | inl is ↦ rw is (some, (g, is_divided f g (int_div f.constant (pos g)) c (rw e (whole_at g f.constant is))))
  | inr isnt ↦ rw isnt (inr (e, some, (g, (c, not_at g f.constant isnt))))
]

judged_normal : (f : Form) → f.coefs ≡ [] → IsNormal f (cond (stands f.rel f.constant) True False)
judged_normal f e = elim (cases_Bool (stands f.rel f.constant)) [
  | inl is ↦ rw is (inl (e, (decides_stands f.rel f.constant).0 is))
  | inr isnt ↦ rw isnt (inl (e, (λ h. let n : true ≡ false = sym ((decides_stands f.rel f.constant).1 h) ∙ isnt in cc)))
]

normal_terms : (ts : List (ℕ × ℤ)) (f : Form) → f.coefs ≡ ts → IsForm f.coefs f.constant → IsNormal f (normal_by ts f)
normal_terms [] f e h = judged_normal f e
normal_terms (t ∷ ts) f e h =
    let some : f.coefs ≡ [] → ⊥ = λ n. let z : (t ∷ ts) ≡ [] = sym e ∙ n in cc in
    let c = content_exists f.coefs in
    let same : content_of (t ∷ ts) ≡ c.0 = ap content_of (sym e) ∙ content_is c.0 0 f.coefs some h.terms c.1 in
    rw same (normal_divided f.rel f c.0 refl some c.1 (content_positive c.0 0 f.coefs some h.terms c.1.0))

pub is_normal : (f : Form) → IsForm f.coefs f.constant → IsNormal f (normal_of f)
unfolding normal_of
is_normal f h = normal_terms f.coefs f refl h

-- ---- what is left is a fact

no_less : (g q : ℕ) → 0 < g → q ≤ g * q
no_less g q h =
    let one : 1 ≤ g = omega (arith, h) in
    let same : q ≤ q = omega arith in
    let m : 1 * q ≤ g * q = mul-le-mul one same in
    omega (arith, m)

magnitude_neg : (n : ℕ) → unsigned_abs (neg_ℤ (pos n)) ≡ n
magnitude_neg zero = refl
magnitude_neg (suc n) = refl

up_small : (g : ℕ) (k : ℤ) → 0 < g → unsigned_abs (quotient_up g k) ≤ unsigned_abs k
up_small g (pos n) h = elim (cases_eq (n % g) 0) [
  | inl e ↦
      let m : min 1 (n % g) ≡ 0 = omega (arith, e) in
      rw m (omega (arith, no_less g (n / g) h))
  | inr ne ↦
      let m : min 1 (n % g) ≡ 1 = omega (arith, ne) in
      rw m (omega (arith, no_less g (n / g) h, ne))
]
up_small g (negsuc n) h = rw (magnitude_neg (suc n / g)) (omega (arith, no_less g (suc n / g) h))

small_up : (g : ℕ) (k r : ℤ) → 0 < g → Divides Le g k r → unsigned_abs r ≤ unsigned_abs k
small_up g k r h d =
    let e : r ≡ quotient_up g k = one_up g k r (quotient_up g k) h d (up_divides g k h) in
    rw e (up_small g k h)

small_constant : (rel : Rel) (g : ℕ) (k r : ℤ) → 0 < g → Divides rel g k r → Small k → Small r
small_constant Le g k r h d s = omega (arith, small_up g k r h d)
small_constant Eq g k r h d s = quotient_small (pos g) k r (2 ^ 62) (omega (arith, ints)) d s
small_constant Ne g k r h d s = quotient_small (pos g) k r (2 ^ 62) (omega (arith, ints)) d s

pub leaves_form : (f : Form) (n : NormalForm) → IsForm f.coefs f.constant → IsNormal f n → LeavesForm f n
leaves_form f True h k = tt
leaves_form f False h k = tt
leaves_form f (Fact r) h k =
    let g = k.1.0 in
    let d = k.1.1 in
    let p : 0 < g = content_positive g 0 f.coefs k.0 h.terms d.content.0 in (
      record {
        terms = divided-terms (pos g) 0 f.coefs r.coefs (omega (arith, ints, p)) d.coefs h.terms;
        small = small_constant f.rel g f.constant r.constant p d.constant h.small;
      },
      d.rel,
    )

-- What a sum of multiples says.
use Rattle.std.proofs.Common.{◌≡◌, ℕ, ◌+◌, ℤ, pos, negsuc, List, ◌*ℤ◌, ◌+ℤ◌, ◌≤ℤ◌, ◌<ℤ◌, neg_ℤ, arith, sym, ◌∙◌, zero, suc, ◌↔◌, MatchOption, IfSome, IfOk, Result, Option, Some, None, Ok, Err, [], ◌∷◌, Bool, true, false, cond, eqb}
use Rattle.std.specs.declared.alloc.AllocError.{AllocError}
use Rattle.th_linear.specs.declared.fact.Lin.{Lin}
use Rattle.std.specs.Int.RustNames.{unsigned_abs}
use Rattle.std.proofs.lemmas.Int.{ints}
use Rattle.th_linear.specs.Forms.{Form, Holds, value, coef, AreTerms, Small}
use Rattle.th_linear.specs.Mixed.{IsMixed}
use Rattle.th_linear.specs.declared.fact.Rel.{Rel}
use Rattle.th_linear.specs.declared.fact.Rel.TheVariants.{Eq, Le}
use Rattle.th_linear.proofs.Ring.{distrib, mono}

regroup : (a b c d : ℤ) → ((a +ℤ b) +ℤ (c +ℤ d)) ≡ ((a +ℤ c) +ℤ (b +ℤ d))
regroup a b c d = omega (arith, ints)

-- the sum with its constant
whole : (p q : ℤ) (a b r : Form) (to : Rel) (s : ℕ → ℤ) → IsMixed p a q b to r
    → value r.coefs s +ℤ r.constant ≡ (p *ℤ (value a.coefs s +ℤ a.constant)) +ℤ (q *ℤ (value b.coefs s +ℤ b.constant))
whole p q a b r to s m =
    (λ i. m.value s i +ℤ m.constant i)
    ∙ regroup (p *ℤ value a.coefs s) (q *ℤ value b.coefs s) (p *ℤ a.constant) (q *ℤ b.constant)
    ∙ sym (λ i. distrib p (value a.coefs s) a.constant i +ℤ distrib q (value b.coefs s) b.constant i)

pub at_least_zero : (p : ℤ) → pos 0 <ℤ p → pos 0 ≤ℤ p
at_least_zero p h = omega (arith, ints)

pub combined-holds : (p q : ℤ) (a b r : Form) (s : ℕ → ℤ) → a.rel ≡ Le → b.rel ≡ Le → pos 0 ≤ℤ p → pos 0 ≤ℤ q
    → IsMixed p a q b Le r → Holds a s → Holds b s → Holds r s
combined-holds p q a b r s la lb hp hq m x y =
    let u : (value a.coefs s +ℤ a.constant) ≤ℤ pos 0 = rw la at x in
    let v : (value b.coefs s +ℤ b.constant) ≤ℤ pos 0 = rw lb at y in
    let mu = mono p (value a.coefs s +ℤ a.constant) hp u in
    let mv = mono q (value b.coefs s +ℤ b.constant) hq v in
    rw (m.rel, whole p q a b r Le s m) (omega (arith, ints, mu, mv))

unit_square : (c d : ℤ) → unsigned_abs d ≡ 1 → (pos 1 *ℤ c) +ℤ (neg_ℤ (c *ℤ d) *ℤ d) ≡ pos 0
unit_square c (pos zero) e = absurd (omega (arith, e))
unit_square c (pos (suc n)) e = let z : n ≡ 0 = omega (arith, e) in rw z (omega (arith, ints))
unit_square c (negsuc n) e = let z : n ≡ 0 = omega (arith, e) in rw z (omega (arith, ints))

pub variable-gone : (v : ℕ) (f by r : Form) (to : Rel) → unsigned_abs (coef v by.coefs) ≡ 1
    → IsMixed (pos 1) f (neg_ℤ (coef v f.coefs *ℤ coef v by.coefs)) by to r → coef v r.coefs ≡ pos 0
variable-gone v f by r to e m = m.coef v ∙ unit_square (coef v f.coefs) (coef v by.coefs) e

pub substituted-keeps : (m : ℤ) (f by r : Form) (s : ℕ → ℤ) → by.rel ≡ Eq
    → IsMixed (pos 1) f m by f.rel r → Holds by s → Holds f s ↔ Holds r s
substituted-keeps m f by r s e h k =
    let z : value by.coefs s +ℤ by.constant ≡ pos 0 = rw e at k in
    let times : (t : ℤ) → t ≡ pos 0 → m *ℤ t ≡ pos 0 = λ t q. rw q (omega (arith, ints)) in
    let none : m *ℤ (value by.coefs s +ℤ by.constant) ≡ pos 0 = times (value by.coefs s +ℤ by.constant) z in
    let w = whole (pos 1) m f by r f.rel s h in
    let same : value r.coefs s +ℤ r.constant ≡ value f.coefs s +ℤ f.constant = omega (arith, ints, w, none) in
    rw (h.rel, same) ((λ x. x), (λ x. x))

-- what holds of the answers on forms, from what they are
pub each_form : (r : Result (Option Lin) AllocError) (P : Type 0) (Q W : Form → Type 0) → ((f : Form) → Q f → W f)
    → IfOk r (λ o. MatchOption o P Q) → IfOk r (λ o. IfSome o W)
each_form (Ok (Some f)) P Q W h k = h f k
each_form (Ok None) P Q W h k = tt
each_form (Err e) P Q W h k = tt

small_case : (b : Bool) (x y : ℤ) → Small x → Small y → Small (cond b x y)
small_case true x y h k = h
small_case false x y h k = k

pub coef_small : (v low : ℕ) (ts : List (ℕ × ℤ)) → AreTerms low ts → Small (coef v ts)
coef_small v low [] h = omega arith
coef_small v low (t ∷ ts) h = small_case (eqb v t.0) t.1 (coef v ts) h.2 (coef_small v (t.0 + 1) ts h.3)

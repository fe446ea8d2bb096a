-- Division by the greatest common divisor keeps the solutions.
use Rattle.std.proofs.Common.{◌≡◌, ℕ, ◌*◌, ◌<◌, ℤ, pos, List, [], ◌∷◌, ◌*ℤ◌, ◌+ℤ◌, ◌≤ℤ◌, ◌<ℤ◌, arith, ap, sym, ◌∙◌, subst, ◌↔◌}
use Rattle.std.specs.Int.{◌∣◌}
use Rattle.std.specs.Int.RustNames.{unsigned_abs}
use Rattle.std.proofs.lemmas.Int.{ints, unsigned_abs-mul}
use Rattle.th_linear.specs.Forms.{Form, Holds, Stands, value, AreTerms}
use Rattle.th_linear.specs.Normal.{DividesAll, scaled, Divides, IsDivided, IsNormal, HoldsNormal}
use Rattle.th_linear.specs.declared.fact.Rel.{Rel}
use Rattle.th_linear.specs.declared.fact.Rel.TheVariants.{Eq, Le, Ne}
use Rattle.th_linear.specs.declared.division.NormalForm.{NormalForm}
use Rattle.th_linear.specs.declared.division.NormalForm.TheVariants.{True, False, Fact}
use Rattle.th_linear.proofs.Ring.{distrib, assoc, cancel, cancel_lt, mono}
use Rattle.th_linear.proofs.Divisors.{quotients, content_positive}
use Rattle.std.proofs.Common.{inl, inr}
use native.Mathlib.Nat.{dvd-mul_right}

pub value-scaled : (p : ℤ) (ts : List (ℕ × ℤ)) (s : ℕ → ℤ) → value (scaled p ts) s ≡ p *ℤ value ts s
value-scaled p [] s = omega (arith, ints)
value-scaled p (t ∷ ts) s =
    ap (λ z. ((p *ℤ t.1) *ℤ s t.0) +ℤ z) (value-scaled p ts s)
    ∙ ap (λ z. z +ℤ (p *ℤ value ts s)) (assoc p t.1 (s t.0))
    ∙ sym (distrib p (t.1 *ℤ s t.0) (value ts s))

times-zero : (g : ℕ) (z : ℤ) → z ≡ pos 0 → pos g *ℤ z ≡ pos 0
times-zero g z e = grind (arith, ints)

exact : (g : ℕ) (v k r : ℤ) → 0 < g → k ≡ pos g *ℤ r → ((pos g *ℤ v) +ℤ k ≡ pos 0) ↔ (v +ℤ r ≡ pos 0)
exact g v k r h d =
    let whole : (pos g *ℤ v) +ℤ k ≡ pos g *ℤ (v +ℤ r) = ap (λ z. (pos g *ℤ v) +ℤ z) d ∙ sym (distrib (pos g) v r) in
    ((λ e. cancel g (v +ℤ r) h (sym whole ∙ e)), (λ e. whole ∙ times-zero g (v +ℤ r) e))

rounded : (g : ℕ) (v k r : ℤ) → 0 < g → k ≤ℤ (pos g *ℤ r) → (pos g *ℤ r) <ℤ (k +ℤ pos g)
    → (((pos g *ℤ v) +ℤ k) ≤ℤ pos 0) ↔ ((v +ℤ r) ≤ℤ pos 0)
rounded g v k r h low high =
    let whole : pos g *ℤ (v +ℤ r) ≡ (pos g *ℤ v) +ℤ (pos g *ℤ r) = distrib (pos g) v r in (
      (λ e. cancel_lt g (v +ℤ r) h (omega (arith, ints))),
      (λ e.
          let m : (pos g *ℤ (v +ℤ r)) ≤ℤ pos 0 = mono (pos g) (v +ℤ r) (omega (arith, ints)) e in
          omega (arith, ints)),
    )

stands-scaled : (rel : Rel) (g : ℕ) (v k r : ℤ) → 0 < g → Divides rel g k r
    → Stands rel ((pos g *ℤ v) +ℤ k) ↔ Stands rel (v +ℤ r)
stands-scaled Eq g v k r h d = exact g v k r h d
stands-scaled Ne g v k r h d = let e = exact g v k r h d in ((λ n q. n (e.1 q)), (λ n q. n (e.0 q)))
stands-scaled Le g v k r h d = rounded g v k r h d.0 d.1

divided-keeps : (f r : Form) (g : ℕ) (s : ℕ → ℤ) → 0 < g → IsDivided f r g → Holds f s ↔ Holds r s
divided-keeps f r g s h d =
    let v : value f.coefs s ≡ pos g *ℤ value r.coefs s = ap (λ ts. value ts s) d.coefs ∙ value-scaled (pos g) r.coefs s in
    let e = stands-scaled f.rel g (value r.coefs s) f.constant r.constant h d.constant in
    rw (d.rel, v) e

no_quotient : (f : Form) (g : ℕ) (s : ℕ → ℤ) → DividesAll g f.coefs → ((g ∣ unsigned_abs f.constant) → ⊥) → value f.coefs s +ℤ f.constant ≡ pos 0 → ⊥
no_quotient f g s d n e =
    let us = quotients g f.coefs d in
    let v : value f.coefs s ≡ pos g *ℤ value us.0 s = ap (λ ts. value ts s) us.1 ∙ value-scaled (pos g) us.0 s in
    let size : unsigned_abs (pos g *ℤ value us.0 s) ≡ g * unsigned_abs (value us.0 s) = unsigned_abs-mul (pos g) (value us.0 s) in
    let same : unsigned_abs f.constant ≡ g * unsigned_abs (value us.0 s) = opposite (value f.coefs s) f.constant e ∙ ap unsigned_abs v ∙ size in
    n (subst (λ (m : ℕ). g ∣ m) (sym same) (dvd-mul_right g (unsigned_abs (value us.0 s))))
  where
    opposite : (a b : ℤ) → a +ℤ b ≡ pos 0 → unsigned_abs b ≡ unsigned_abs a
    opposite a b h = grind (arith, ints)

alone : (f : Form) (s : ℕ → ℤ) → f.coefs ≡ [] → value f.coefs s +ℤ f.constant ≡ f.constant
alone f s e = ap (λ ts. value ts s +ℤ f.constant) e ∙ omega (arith, ints)

pub normal-keeps : (f : Form) (n : NormalForm) (s : ℕ → ℤ) → AreTerms 0 f.coefs → IsNormal f n → Holds f s ↔ HoldsNormal n s
normal-keeps f True s terms (inl h) = ((λ _. tt), (λ _. rw (alone f s h.0) h.1))
normal-keeps f True s terms (inr h) = ((λ _. tt), (λ _. rw h.0 (no_quotient f h.2.0 s h.2.1.0.0 h.2.1.1)))
normal-keeps f False s terms (inl h) = ((λ k. h.1 (rw (alone f s h.0) at k)), (λ b. absurd b))
normal-keeps f False s terms (inr h) = ((λ k. no_quotient f h.2.0 s h.2.1.0.0 h.2.1.1 (rw h.0 at k)), (λ b. absurd b))
normal-keeps f (Fact r) s terms h =
    divided-keeps f r h.1.0 s (content_positive h.1.0 0 f.coefs h.0 terms h.1.1.content.0) h.1.1

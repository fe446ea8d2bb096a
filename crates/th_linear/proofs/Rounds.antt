-- A quotient of signed numbers, rounded up.
use Rattle.std.proofs.Common.{◌≡◌, suc, zero, ◌<◌, ℤ, pos, negsuc, ◌*ℤ◌, ◌+ℤ◌, ◌≤ℤ◌, ◌<ℤ◌, arith, refl, ap, ◌∙◌, FitsSigned, IsTrue, nat_eq, of_z}
use Rattle.std.specs.Int.{w128}
use Rattle.std.specs.Int.RustNames.{unsigned_abs}
use Rattle.std.proofs.lemmas.Int.{ints}
use Rattle.std.proofs.lemmas.Bool.Decides.{nat_tests}
use Rattle.th_linear.proofs.Ring.{distrib, comm}

pub bump_fits : (k g q r : ℤ) → FitsSigned w128 k → FitsSigned w128 q → pos 0 <ℤ g → (q *ℤ g) +ℤ r ≡ k → pos 0 <ℤ r → FitsSigned w128 (q +ℤ pos 1)
bump_fits k (pos zero) (pos n) r f b p e h = omega (arith, ints)
bump_fits k (pos (suc m)) (pos n) r f b p e h = omega (arith, ints)
bump_fits k (negsuc m) (pos n) r f b p e h = absurd p.lt
bump_fits k g (negsuc n) r f b p e h = omega (arith, ints)

at_magnitude : (g : ℤ) → pos 0 <ℤ g → pos (unsigned_abs g) ≡ g
at_magnitude g p = omega (arith, ints)

pub above : (k g q r : ℤ) → pos 0 <ℤ g → (q *ℤ g) +ℤ r ≡ k → pos 0 <ℤ r → unsigned_abs r < unsigned_abs g
    → (k ≤ℤ (pos (unsigned_abs g) *ℤ (q +ℤ pos 1))) × ((pos (unsigned_abs g) *ℤ (q +ℤ pos 1)) <ℤ (k +ℤ pos (unsigned_abs g)))
above k g q r p e h b =
    let one : g *ℤ pos 1 ≡ g = omega (arith, ints) in
    let d : g *ℤ (q +ℤ pos 1) ≡ (q *ℤ g) +ℤ g = distrib g q (pos 1) ∙ ap (λ z. (g *ℤ q) +ℤ z) one ∙ ap (λ z. z +ℤ g) (comm g q) in
    rw (at_magnitude g p) (omega (arith, ints), omega (arith, ints))

pub at : (k g q r : ℤ) → pos 0 <ℤ g → (q *ℤ g) +ℤ r ≡ k → r ≤ℤ pos 0 → unsigned_abs r < unsigned_abs g
    → (k ≤ℤ (pos (unsigned_abs g) *ℤ q)) × ((pos (unsigned_abs g) *ℤ q) <ℤ (k +ℤ pos (unsigned_abs g)))
at k g q r p e h b =
    let d : g *ℤ q ≡ q *ℤ g = comm g q in
    rw (at_magnitude g p) (omega (arith, ints), omega (arith, ints))

pub zero_test : (z : ℤ) → FitsSigned w128 z
    → (IsTrue (nat_eq (of_z w128 z) 0) → z ≡ pos 0) × (z ≡ pos 0 → IsTrue (nat_eq (of_z w128 z) 0))
zero_test (pos zero) f = ((λ _. refl), (λ _. refl))
zero_test (pos (suc n)) f = ((λ t. absurd (grind (arith, nat_tests, t))), (λ e. cc))
zero_test (negsuc n) f = ((λ t. absurd (let s = f.sfits in grind (arith, nat_tests, t))), (λ e. cc))

pub zero_bits : (z : ℤ) → FitsSigned w128 z → (of_z w128 z ≡ 0 → z ≡ pos 0) × (z ≡ pos 0 → of_z w128 z ≡ 0)
zero_bits z f = let t = zero_test z f in ((λ e. t.0 (grind (arith, nat_tests, e))), (λ e. rw e refl))

pub one_magnitude : (z : ℤ) → FitsSigned w128 z → pos 0 <ℤ z → of_z w128 z ≡ 1 → unsigned_abs z ≡ 1
one_magnitude (pos n) f p e = omega (arith, ints, e)
one_magnitude (negsuc n) f p e = absurd p.lt

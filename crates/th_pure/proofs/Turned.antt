-- Terms with their signs turned.
use Rattle.std.proofs.Common.{◌≡◌, ℕ, zero, suc, ◌+◌, ◌<◌, ℤ, negsuc, ◌*ℤ◌, neg_ℤ, List, [], ◌∷◌, ◌++◌, length, take, get_or, arith, ap, sym, ◌∙◌}
use Rattle.std.specs.Int.RustNames.{unsigned_abs}
use Rattle.std.proofs.lemmas.Int.{ints, unsigned_abs-mul}
use Rattle.std.proofs.lemmas.List.{take_more, map-append}
use Rattle.th_linear.specs.Forms.{AreTerms, Small}
use Rattle.th_linear.specs.Normal.{scaled}

same_magnitude : (z : ℤ) → unsigned_abs (negsuc 0 *ℤ z) ≡ unsigned_abs z
same_magnitude z = omega (arith, unsigned_abs-mul (negsuc 0) z)

pub times_minus : (z : ℤ) → neg_ℤ z ≡ negsuc 0 *ℤ z
times_minus z = omega (arith, ints)

pub turned_are : (low : ℕ) (ts : List (ℕ × ℤ)) → AreTerms low ts → AreTerms low (scaled (negsuc 0) ts)
turned_are low [] h = tt
turned_are low (t ∷ ts) h = (h.0, omega (arith, same_magnitude t.1, h.1), omega (arith, same_magnitude t.1, h.2), turned_are (t.0 + 1) ts h.3)

pub small_at : (low i : ℕ) (ts : List (ℕ × ℤ)) (d : ℕ × ℤ) → AreTerms low ts → i < length ts → Small (get_or ts i d).1
small_at low i [] d h lt = absurd (omega arith)
small_at low zero (t ∷ ts) d h lt = h.2
small_at low (suc i) (t ∷ ts) d h lt = small_at (t.0 + 1) i ts d h.3 (omega arith)

pub turned_more : (ts : List (ℕ × ℤ)) (i : ℕ) (d : ℕ × ℤ) → i < length ts
    → scaled (negsuc 0) (take i ts) ++ ((get_or ts i d).0, neg_ℤ (get_or ts i d).1) ∷ [] ≡ scaled (negsuc 0) (take (i + 1) ts)
turned_more ts i d lt =
    ap (λ (z : ℤ). scaled (negsuc 0) (take i ts) ++ ((get_or ts i d).0, z) ∷ []) (times_minus (get_or ts i d).1)
    ∙ sym (ap (scaled (negsuc 0)) (take_more ts i d lt) ∙ map-append _ (take i ts) (get_or ts i d ∷ []))

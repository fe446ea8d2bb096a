-- One item more is turned.
use Rattle.std.proofs.Common.{◌≡◌, ℕ, ◌+◌, ◌<◌, zero, suc, List, [], ◌∷◌, length, map, take, drop, get_or, slice_set, sym, ap, ◌∙◌, arith}

pub turned_more : {X : Type 0} (f : X → X) (xs old : List X) (i : ℕ) (x y : X) → i < length xs → length xs ≡ length old → x ≡ get_or xs i x → y ≡ f x → take i xs ≡ map f (take i old) → drop i xs ≡ drop i old
    → (take (i + 1) (slice_set xs i y) ≡ map f (take (i + 1) old)) × (drop (i + 1) (slice_set xs i y) ≡ drop (i + 1) old)
turned_more f [] old i x y h l e k t d = absurd (omega (arith, h))
turned_more f (a ∷ xs) [] i x y h l e k t d = absurd (omega (arith, l))
turned_more f (a ∷ xs) (o ∷ old) zero x y h l e k t d =
    let same : a ≡ o = cc in
    let rest : xs ≡ old = cc in
    let new : y ≡ f o = k ∙ ap f (e ∙ same) in
    ((λ i. new i ∷ []), rest)
turned_more f (a ∷ xs) (o ∷ old) (suc i) x y h l e k t d =
    let n : suc i + 1 ≡ suc (i + 1) = omega arith in
    let first : a ≡ f o = cc in
    let rest : take i xs ≡ map f (take i old) = cc in
    let r = turned_more f xs old i x y (omega (arith, h)) (omega (arith, l)) e k rest d in (
      ap (λ j. take j (a ∷ slice_set xs i y)) n ∙ (λ j. first j ∷ r.0 j) ∙ ap (λ j. map f (take j (o ∷ old))) (sym n),
      ap (λ j. drop j (a ∷ slice_set xs i y)) n ∙ r.1 ∙ ap (λ j. drop j (o ∷ old)) (sym n),
    )

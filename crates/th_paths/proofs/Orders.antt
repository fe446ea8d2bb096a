-- The order of paths: one edge more on both sides keeps it, and it is a strict total order.
use Rattle.std.proofs.Common.{◌≡◌, ℕ, ◌<◌, ◌⊎◌, List, [], ◌∷◌, ◌++◌, length, refl, sym, ap, subst, inl, inr, arith, ◌∙◌}
use Rattle.std.proofs.lemmas.Bool.{cases_order}
use Rattle.std.proofs.lemmas.List.{length-append}
use Rattle.th_base.specs.declared.number.EdgeId.{EdgeId}
use Rattle.th_paths.specs.Paths.{IsLessAlong, IsBefore}
use Rattle.th_paths.specs.Search.{IsAtMost}

along_both : (p q : List EdgeId) (a b : EdgeId) → IsLessAlong p q → IsLessAlong (p ++ a ∷ []) (q ++ b ∷ [])
along_both [] q a b less = absurd less
along_both (x ∷ p) [] a b less = absurd less
along_both (x ∷ p) (y ∷ q) a b less = elim less [ inl first ↦ inl first | inr rest ↦ inr (rest.0, along_both p q a b rest.1) ]

along_last : (p : List EdgeId) (a b : EdgeId) → a.0 < b.0 → IsLessAlong (p ++ a ∷ []) (p ++ b ∷ [])
along_last [] a b less = inl less
along_last (x ∷ p) a b less = inr (refl, along_last p a b less)

along_trans : (p q r : List EdgeId) → IsLessAlong p q → IsLessAlong q r → IsLessAlong p r
along_trans [] q r one two = absurd one
along_trans (x ∷ p) [] r one two = absurd one
along_trans (x ∷ p) (y ∷ q) [] one two = absurd two
along_trans (x ∷ p) (y ∷ q) (z ∷ r) one two =
    elim one [
      | inl first ↦ elim two [ inl second ↦ inl (omega arith) | inr rest ↦ inl (omega (arith, rest.0)) ]
      | inr rest ↦ elim two [ inl second ↦ inl (omega (arith, rest.0)) | inr more ↦ inr (rest.0 ∙ more.0, along_trans p q r rest.1 more.1) ]
    ]

along_itself : (p : List EdgeId) → IsLessAlong p p → ⊥
along_itself [] less = less
along_itself (x ∷ p) less = elim less [ inl first ↦ absurd (omega arith) | inr rest ↦ along_itself p rest.1 ]

-- ---- by length first

pub before_both : (p q : List EdgeId) (a b : EdgeId) → IsBefore p q → IsBefore (p ++ a ∷ []) (q ++ b ∷ [])
before_both p q a b less =
    let left = length-append p (a ∷ []) in let right = length-append q (b ∷ []) in
    elim less [ inl shorter ↦ inl (omega (arith, left, right)) | inr same ↦ inr (omega (arith, left, right, same.0), along_both p q a b same.1) ]

pub before_last : (p : List EdgeId) (a b : EdgeId) → a.0 < b.0 → IsBefore (p ++ a ∷ []) (p ++ b ∷ [])
before_last p a b less = inr (length-append p (a ∷ []) ∙ sym (length-append p (b ∷ [])), along_last p a b less)

pub before_longer : (p : List EdgeId) (a : EdgeId) → IsBefore p (p ++ a ∷ [])
before_longer p a = inl (omega (arith, length-append p (a ∷ [])))

-- a path of one edge is before a path of two or more
pub before_two : (e a : EdgeId) (p : List EdgeId) → 0 < length p → IsBefore (e ∷ []) (p ++ a ∷ [])
before_two e a p some = let longer = length-append p (a ∷ []) in inl (omega (arith, longer))

pub before_trans : (p q r : List EdgeId) → IsBefore p q → IsBefore q r → IsBefore p r
before_trans p q r one two =
    elim one [
      | inl shorter ↦ elim two [ inl next ↦ inl (omega arith) | inr same ↦ inl (omega (arith, same.0)) ]
      | inr same ↦ elim two [ inl next ↦ inl (omega (arith, same.0)) | inr more ↦ inr (same.0 ∙ more.0, along_trans p q r same.1 more.1) ]
    ]

pub before_itself : (p : List EdgeId) → IsBefore p p → ⊥
before_itself p less = elim less [ inl shorter ↦ absurd (omega arith) | inr same ↦ along_itself p same.1 ]

-- ---- at most

pub at_most_before : (p q r : List EdgeId) → IsAtMost p q → IsBefore q r → IsBefore p r
at_most_before p q r one two = elim one [ inl same ↦ subst (λ z. IsBefore z r) same two | inr less ↦ before_trans p q r less two ]

pub at_most_trans : (p q r : List EdgeId) → IsAtMost p q → IsAtMost q r → IsAtMost p r
at_most_trans p q r one two = elim two [ inl same ↦ subst (λ z. IsAtMost p z) (sym same) one | inr less ↦ inr (at_most_before p q r one less) ]

pub at_most_both : (p q : List EdgeId) (a : EdgeId) → IsAtMost p q → IsAtMost (p ++ a ∷ []) (q ++ a ∷ [])
at_most_both p q a one = elim one [ inl same ↦ inl (ap (λ z. z ++ a ∷ []) same) | inr less ↦ inr (before_both p q a a less) ]

-- ---- it is total

same_or_along : (p q : List EdgeId) → length p ≡ length q → (p ≡ q) ⊎ (IsLessAlong p q ⊎ IsLessAlong q p)
same_or_along [] [] same = inl refl
same_or_along [] (y ∷ q) same = absurd (omega (arith, same))
same_or_along (x ∷ p) [] same = absurd (omega (arith, same))
same_or_along (x ∷ p) (y ∷ q) same =
    elim (cases_order x.0 y.0) [
      | inl equal ↦
          elim (same_or_along p q (omega (arith, same))) [
            | inl rest ↦ let make : ℕ → EdgeId = λ n. record { 0 = n } in inl (ap (λ z. z ∷ p) (ap make equal) ∙ ap (λ z. y ∷ z) rest)
            | inr other ↦ elim other [ inl less ↦ inr (inl (inr (equal, less))) | inr more ↦ inr (inr (inr (sym equal, more))) ]
          ]
      | inr other ↦ elim other [ inl less ↦ inr (inl (inl less)) | inr more ↦ inr (inr (inl more)) ]
    ]

pub same_or_before : (p q : List EdgeId) → (p ≡ q) ⊎ (IsBefore p q ⊎ IsBefore q p)
same_or_before p q =
    elim (cases_order (length p) (length q)) [
      | inl equal ↦
          elim (same_or_along p q equal) [
            | inl same ↦ inl same
            | inr other ↦ elim other [ inl less ↦ inr (inl (inr (equal, less))) | inr more ↦ inr (inr (inr (sym equal, more))) ]
          ]
      | inr other ↦ elim other [ inl less ↦ inr (inl (inl less)) | inr more ↦ inr (inr (inl more)) ]
    ]

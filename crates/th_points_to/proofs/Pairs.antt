-- Lists in pairs, and members of lists.
use Rattle.std.proofs.Common.{◌≡◌, inl, inr, ℕ, ◌<◌, ◌≤◌, zero, suc, Bool, true, List, [], ◌∷◌, length, get_or, refl, sym, ap, subst, arith, ◌∙◌}
use Rattle.std.specs.Prelude.{zip, ◌||◌, ◌==◌, ◌&&◌}
use Rattle.std.specs.List.{AllByRecursion}
use Rattle.std.proofs.lemmas.Bool.{or_cases, or_right, eq-eqb, eqb-true}
use Rattle.th_base.specs.IdSet.{has}
use Rattle.th_ir.proofs.Plain.{and_parts}

pub zip_left : {A B : Type 0} (xs : List A) (ys : List B) → length xs ≤ length ys → length (zip xs ys) ≡ length xs
zip_left [] ys h = refl
zip_left (x ∷ xs) [] h = absurd (omega arith)
zip_left (x ∷ xs) (y ∷ ys) h = ap suc (zip_left xs ys (omega arith))

pub zip_right : {A B : Type 0} (xs : List A) (ys : List B) → length ys ≤ length xs → length (zip xs ys) ≡ length ys
zip_right [] [] h = refl
zip_right [] (y ∷ ys) h = absurd (omega arith)
zip_right (x ∷ xs) [] h = refl
zip_right (x ∷ xs) (y ∷ ys) h = ap suc (zip_right xs ys (omega arith))

pub zip_at : {A B : Type 0} (xs : List A) (ys : List B) (i : ℕ) (d : A) (e : B) → i < length xs → i < length ys → get_or (zip xs ys) i (d, e) ≡ (get_or xs i d, get_or ys i e)
zip_at [] ys i d e h k = absurd (omega arith)
zip_at (x ∷ xs) [] i d e h k = absurd (omega arith)
zip_at (x ∷ xs) (y ∷ ys) zero d e h k = refl
zip_at (x ∷ xs) (y ∷ ys) (suc i) d e h k = zip_at xs ys i d e (omega arith) (omega arith)

pub all_has : (Q : ℕ → Type 0) (xs : List ℕ) (x : ℕ) → AllByRecursion Q xs → has xs x ≡ true → Q x
all_has Q [] x all h = absurd cc
all_has Q (y ∷ xs) x all h = elim (or_cases (y == x) (has xs x) h) [ inl same ↦ subst Q (eqb-true y x same) all.0 | inr more ↦ all_has Q xs x all.1 more ]

pub all_by_has : (Q : ℕ → Type 0) (xs : List ℕ) → ((x : ℕ) → has xs x ≡ true → Q x) → AllByRecursion Q xs
all_by_has Q [] each = tt
all_by_has Q (y ∷ xs) each = (each y (subst (λ (b : Bool). (b || has xs y) ≡ true) (sym (eq-eqb y y refl)) refl), all_by_has Q xs (λ x h. each x (or_right (y == x) (has xs x) h)))

abbrev pub pair_eq : ℕ × ℕ → ℕ × ℕ → Bool
pair_eq x y = (x.0 == y.0) && (x.1 == y.1)

pub pair_same : (x y : ℕ × ℕ) → pair_eq x y ≡ true → x ≡ y
pair_same x y e =
    let parts = and_parts (x.0 == y.0) (x.1 == y.1) e in
    let one : x.0 ≡ y.0 = eqb-true x.0 y.0 parts.0 in
    let other : x.1 ≡ y.1 = eqb-true x.1 y.1 parts.1 in
    ap (λ (n : ℕ). (n, x.1)) one ∙ ap (λ (n : ℕ). (y.0, n)) other

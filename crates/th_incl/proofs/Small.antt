-- The solution of the small system.
use Rattle.std.proofs.Common.{◌≡◌, ℕ, Bool, true, false, eqb, ◌<◌, ◌≤◌, zero, suc, List, [], ◌∷◌, ◌⊎◌, inl, inr, get_or, refl, subst, arith}
use Rattle.std.specs.List.{Contains}
use Rattle.std.proofs.lemmas.Bool.{cases_Bool, both_ways, or_cases, eqb-true}
use Rattle.th_base.specs.IdSet.{has, IsAscending}
use Rattle.th_incl.specs.Least.{is_in, In, Reaches, given, passed, IsLeast, IsClosed, IsInRange, TellsWithin, pair_count}
use Rattle.th_incl.specs.Worked.{small_system, small_solution}
use Rattle.th_incl.specs.declared.constraints.Inclusion.{Inclusion}
use Rattle.th_incl.proofs.Through.{nothing_in_none}
use Rattle.th_incl.proofs.Families.{within_closed}

has_cases : (y : ℕ) (ys : List ℕ) (x : ℕ) → has (y ∷ ys) x ≡ true → (y ≡ x) ⊎ (has ys x ≡ true)
has_cases y ys x h = elim (or_cases (eqb y x) (has ys x) h) [ inl e ↦ inl (eqb-true y x e) | inr o ↦ inr o ]

contains_cases : {X : Type 0} → (y : X) (ys : List X) (x : X) → Contains (y ∷ ys) x → (y ≡ x) ⊎ Contains ys x
contains_cases y ys x (zero, lt, e) = inl e
contains_cases y ys x (suc k, lt, e) = inr (k, omega arith, e)

abbrev second : Inclusion
second = record { from = 1; to = 2; filter = 1 }

abbrev third : Inclusion
third = record { from = 2; to = 1; filter = 1 }

-- an inclusion of the small system is one of its three
inclusion_cases : (j : Inclusion) → Contains small_system.copies j → (record { from = 0; to = 1; filter = 0 } ≡ j) ⊎ ((second ≡ j) ⊎ (third ≡ j))
inclusion_cases j one = elim (contains_cases record { from = 0; to = 1; filter = 0 } (second ∷ third ∷ []) j one) [
  | inl same ↦ inl same
  | inr later ↦ elim (contains_cases second (third ∷ []) j later) [
    | inl same ↦ inr (inl same)
    | inr last ↦ elim (contains_cases third [] j last) [ inl same ↦ inr (inr same) | inr none ↦ absurd (nothing_in_none j none) ]
  ]
]

-- a base pair is one of its two
base_cases : (i x : ℕ) → Contains small_system.base (i, x) → (◌≡◌ {A = ℕ × ℕ} (0, 5) (i, x)) ⊎ (◌≡◌ {A = ℕ × ℕ} (0, 6) (i, x))
base_cases i x one = elim (contains_cases (0, 5) ((0, 6) ∷ []) (i, x) one) [
  | inl same ↦ inl same
  | inr later ↦ elim (contains_cases (0, 6) [] (i, x) later) [ inl same ↦ inr same | inr none ↦ absurd (nothing_in_none (i, x) none) ]
]

five_in_one : Reaches small_system 1 5
five_in_one = passed record { from = 0; to = 1; filter = 0 } 5 (0, omega arith, refl) (given 0 5 (0, omega arith, refl)) refl

five_in_two : Reaches small_system 2 5
five_in_two = passed record { from = 1; to = 2; filter = 1 } 5 (1, omega arith, refl) five_in_one refl

in_solution : (i x : ℕ) → In small_solution i x → Reaches small_system i x
in_solution zero x h = elim (has_cases 5 (6 ∷ []) x h) [
  | inl five ↦ subst (λ z. Reaches small_system 0 z) five (given 0 5 (0, omega arith, refl))
  | inr later ↦ elim (has_cases 6 [] x later) [
    | inl six ↦ subst (λ z. Reaches small_system 0 z) six (given 0 6 (1, omega arith, refl))
    | inr none ↦ absurd (both_ways _ refl none)
  ]
]
in_solution (suc zero) x h = elim (has_cases 5 [] x h) [ inl five ↦ subst (λ z. Reaches small_system 1 z) five five_in_one | inr none ↦ absurd (both_ways _ refl none) ]
in_solution (suc (suc zero)) x h = elim (has_cases 5 [] x h) [ inl five ↦ subst (λ z. Reaches small_system 2 z) five five_in_two | inr none ↦ absurd (both_ways _ refl none) ]
in_solution (suc (suc (suc i))) x h = absurd (both_ways _ refl h)

solution_is_closed : IsClosed small_system (is_in small_solution)
solution_is_closed = record {
  base = λ i x one. elim (base_cases i x one) [
    | inl e ↦ subst (λ p. is_in small_solution p.0 p.1 ≡ true) e refl
    | inr e ↦ subst (λ p. is_in small_solution p.0 p.1 ≡ true) e refl
  ];
  copies = λ j x one e f. elim (inclusion_cases j one) [
    | inl same ↦ subst (λ j. In small_system.filters j.filter x → is_in small_solution j.to x ≡ true) same (λ f. f) f
    | inr later ↦ elim later [
      | inl same ↦ subst (λ j. is_in small_solution j.from x ≡ true → is_in small_solution j.to x ≡ true) same (λ e. e) e
      | inr same ↦ subst (λ j. is_in small_solution j.from x ≡ true → is_in small_solution j.to x ≡ true) same (λ e. e) e
    ]
  ];
}

abbrev Fits3 : Inclusion → Type 0
Fits3 j = (j.from < 3) × (j.to < 3) × (j.filter < 2)

pub small_range : IsInRange small_system
small_range = record {
  base = λ i x one. elim (base_cases i x one) [ inl e ↦ subst (λ p. p.0 < 3) e (omega arith) | inr e ↦ subst (λ p. p.0 < 3) e (omega arith) ];
  copies = λ j one. elim (inclusion_cases j one) [
    | inl same ↦ subst Fits3 same (omega arith, omega arith, omega arith)
    | inr later ↦ elim later [
      | inl same ↦ subst Fits3 same (omega arith, omega arith, omega arith)
      | inr same ↦ subst Fits3 same (omega arith, omega arith, omega arith)
    ]
  ];
}

five_then_six : IsAscending (5 ∷ 6 ∷ [])
five_then_six = let less : 5 < 6 = omega arith in ((less, tt), (tt, tt))

pub small_is_least : IsLeast small_system small_solution
small_is_least = record {
  count = refl;
  ascending = λ k d lt. go k d lt;
  exact = λ i x. (in_solution i x, within_closed small_system (is_in small_solution) solution_is_closed i x);
}
  where
    go : (k : ℕ) (d : List ℕ) → k < 3 → IsAscending (get_or small_solution k d)
    go zero d lt = five_then_six
    go (suc zero) d lt = (tt, tt)
    go (suc (suc zero)) d lt = (tt, tt)
    go (suc (suc (suc k))) d lt = absurd (omega arith)

pub four_within : (within : Bool) → TellsWithin small_system 4 within → within ≡ true
four_within within tells = (tells small_solution small_is_least).1 (omega arith)

pub three_over : (within : Bool) → TellsWithin small_system 3 within → within ≡ false
three_over within tells = elim (cases_Bool within) [
  | inl t ↦ (let le : pair_count small_solution ≤ 3 = (tells small_solution small_is_least).0 t in absurd (omega arith))
  | inr f ↦ f
]

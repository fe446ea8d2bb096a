-- Lists of seats read by `get_elem?`, and lists of an edge with something else.
use Rattle.std.proofs.Common.{◌≡◌, ℕ, zero, suc, ◌+◌, ◌<◌, ◌≤◌, ◌≢◌, ◌⊎◌, ◌==◌, Bool, cond, List, [], ◌∷◌, ◌++◌, length, get_or, set, sym, refl, ap, subst, inl, inr, ⊎_elim, arith, eq-eqb, ne_eqb}
use Rattle.std.specs.Prelude.{Contains, sum_by}
use Rattle.std.proofs.lemmas.List.Sums.{sum_by-cons, sum_by-append, sum_by_push, sum_by-set}
use Rattle.std.proofs.lemmas.List.Elements.{Contains-append_cases}
use mathlib.Core.Logic.{dite}
use mathlib.Core.Option.{some, some-injective, some-ne-none}
use native.Mathlib.Decide.{ℕ_discrete}
use lib.ListN.{get_elem?}
use Rattle.th_base.specs.declared.number.EdgeId.{EdgeId}
use Rattle.th_edge_table.specs.Facts.{times}

module _ {A : Type 0} where
  pub at_read : (l : List A) (i : ℕ) (a d : A) → get_elem? l i ≡ some a → (i < length l) × (get_or l i d ≡ a)
  at_read [] i a d e = absurd (some-ne-none a (sym e))
  at_read (x ∷ xs) zero a d e = (omega arith, some-injective x a e)
  at_read (x ∷ xs) (suc i) a d e = let h = at_read xs i a d e in (omega arith, h.1)

  pub sum_set : (f : A → ℕ) (l : List A) (i : ℕ) (v w : A) → get_elem? l i ≡ some v → sum_by f (set l i w) + f v ≡ sum_by f l + f w
  sum_set f l i v w e = let h = at_read l i v v e in subst (λ x. sum_by f (set l i w) + f x ≡ sum_by f l + f w) h.1 (sum_by-set f l i w v h.0)

  pub at_le_sum : (f : A → ℕ) (l : List A) (i : ℕ) (v : A) → get_elem? l i ≡ some v → f v ≤ sum_by f l
  at_le_sum f [] i v e = absurd (some-ne-none v (sym e))
  at_le_sum f (x ∷ xs) zero v e = let s = sum_by-cons f x xs in let h : f x ≡ f v = ap f (some-injective x v e) in omega arith
  at_le_sum f (x ∷ xs) (suc i) v e = let s = sum_by-cons f x xs in let h = at_le_sum f xs i v e in omega arith

  -- two places are counted twice
  pub two_le_sum : (f : A → ℕ) (l : List A) (i j : ℕ) (v w : A) → get_elem? l i ≡ some v → get_elem? l j ≡ some w → i ≢ j → f v + f w ≤ sum_by f l
  two_le_sum f [] i j v w e g n = absurd (some-ne-none v (sym e))
  two_le_sum f (x ∷ xs) zero zero v w e g n = absurd (n refl)
  two_le_sum f (x ∷ xs) zero (suc j) v w e g n = let s = sum_by-cons f x xs in let h : f x ≡ f v = ap f (some-injective x v e) in let k = at_le_sum f xs j w g in omega arith
  two_le_sum f (x ∷ xs) (suc i) zero v w e g n = let s = sum_by-cons f x xs in let h : f x ≡ f w = ap f (some-injective x w g) in let k = at_le_sum f xs i v e in omega arith
  two_le_sum f (x ∷ xs) (suc i) (suc j) v w e g n = let s = sum_by-cons f x xs in let k = two_le_sum f xs i j v w e g (λ q. n (ap suc q)) in omega arith

  -- where the sum is positive, some place counts
  pub some_counts : (f : A → ℕ) (l : List A) → 0 < sum_by f l → (i : ℕ) × (v : A) × (get_elem? l i ≡ some v) × (0 < f v)
  some_counts f [] h = absurd (omega arith)
  some_counts f (x ∷ xs) h = let s = sum_by-cons f x xs in dite (ℕ_discrete (f x) 0)
      (λ z. let k = some_counts f xs (omega arith) in (suc k.0, k.1, k.2, k.3))
      (λ z. (0, x, refl, omega arith))

  pub contains_one : (y x : A) → Contains (y ∷ []) x → y ≡ x
  contains_one y x (zero, l, e) = e
  contains_one y x (suc k, l, e) = absurd (omega arith)

  pub contains_snoc : (xs : List A) (y x : A) → Contains (xs ++ y ∷ []) x → Contains xs x ⊎ (y ≡ x)
  contains_snoc xs y x h = ⊎_elim (λ a. inl a) (λ b. inr (contains_one y x b)) (Contains-append_cases xs (y ∷ []) x h)

abbrev pub one_if : Bool → ℕ
one_if b = cond b 1 0

pub counts_same : (f e : ℕ) → f ≡ e → one_if (f == e) ≡ 1
counts_same f e q = ap one_if (eq-eqb f e q)

pub counts_other : (f e : ℕ) → f ≢ e → one_if (f == e) ≡ 0
counts_other f e q = ap one_if (ne_eqb f e q)

-- an edge is its number
pub edge_is : (e f : EdgeId) → e.0 ≡ f.0 → e ≡ f
edge_is e f q = λ i. record { 0 = q i }

module _ {X : Type 0} where
  pub times_push : (e : EdgeId) (xs : List (EdgeId × X)) (f : EdgeId) (x : X) → times e (xs ++ (f, x) ∷ []) ≡ times e xs + cond (f.0 == e.0) 1 0
  times_push e xs f x = sum_by_push (λ y. cond (y.0.0 == e.0) 1 0) xs (f, x)

  pub times_append : (e : EdgeId) (xs ys : List (EdgeId × X)) → times e (xs ++ ys) ≡ times e xs + times e ys
  times_append e xs ys = sum_by-append (λ y. cond (y.0.0 == e.0) 1 0) xs ys

  times_cons : (e : EdgeId) (x : EdgeId × X) (xs : List (EdgeId × X)) → times e (x ∷ xs) ≡ cond (x.0.0 == e.0) 1 0 + times e xs
  times_cons e x xs = sum_by-cons (λ y. cond (y.0.0 == e.0) 1 0) x xs

  pub times_contains : (e : EdgeId) (x : X) (xs : List (EdgeId × X)) → Contains xs (e, x) → 0 < times e xs
  times_contains e x [] (k, l, h) = absurd (omega arith)
  times_contains e x (y ∷ ys) (zero, l, h) = let s = times_cons e y ys in let t = counts_same y.0.0 e.0 (ap (λ (z : EdgeId × X). z.0.0) h) in omega arith
  times_contains e x (y ∷ ys) (suc k, l, h) = let s = times_cons e y ys in let t = times_contains e x ys (k, omega arith, h) in omega arith

  pub contains_times : (e : EdgeId) (xs : List (EdgeId × X)) → 0 < times e xs → (x : X) × Contains xs (e, x)
  contains_times e [] h = absurd (omega arith)
  contains_times e (y ∷ ys) h = let s = times_cons e y ys in dite (ℕ_discrete y.0.0 e.0)
      (λ q. (y.1, (0, omega arith, λ i. (edge_is y.0 e q i, y.1))))
      (λ q. let t = counts_other y.0.0 e.0 q in let k = contains_times e ys (omega arith) in (k.0, (suc k.1.0, omega arith, k.1.2)))

module _ {A : Type 0} where
  pub sum_none : (f : A → ℕ) (l : List A) → ((j : ℕ) (u : A) → get_elem? l j ≡ some u → f u ≡ 0) → sum_by f l ≡ 0
  sum_none f [] z = refl
  sum_none f (x ∷ xs) z = let s = sum_by-cons f x xs in let h = z 0 x refl in let t = sum_none f xs (λ j u e. z (suc j) u e) in omega arith

  -- only one place counts
  pub sum_single : (f : A → ℕ) (l : List A) (i : ℕ) (v : A) → get_elem? l i ≡ some v → ((j : ℕ) (u : A) → get_elem? l j ≡ some u → j ≢ i → f u ≡ 0) → sum_by f l ≡ f v
  sum_single f [] i v e z = absurd (some-ne-none v (sym e))
  sum_single f (x ∷ xs) zero v e z =
      let s = sum_by-cons f x xs in let h : f x ≡ f v = ap f (some-injective x v e) in let t = sum_none f xs (λ j u g. z (suc j) u g (λ q. absurd (omega arith))) in omega arith
  sum_single f (x ∷ xs) (suc i) v e z =
      let s = sum_by-cons f x xs in let h = z 0 x refl (λ q. absurd (omega arith)) in let t = sum_single f xs i v e (λ j u g n. z (suc j) u g (λ q. n (omega arith))) in omega arith

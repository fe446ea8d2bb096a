-- Rows grow by a pair at a time, and have what items give.
use Rattle.std.proofs.Common.{◌≡◌, ◌⊎◌, inl, inr, ℕ, ◌<◌, ◌≤◌, ◌+◌, zero, suc, Bool, true, false, List, [], ◌∷◌, ◌++◌, length, get_or, take, replicate, Option, None, Some, slice_get, cond, refl, sym, ap, subst, arith, ◌∙◌, if◌then◌else◌, get_or-set_same, get_or-set_other}
use Rattle.std.specs.Prelude.{map, filter, nat_lt, ◌==◌, ◌||◌, option_to_list, slice_set}
use Rattle.std.proofs.lemmas.Bool.{cases_eq, or_cases, or_right, eq-eqb, eqb-true, ne_eqb}
use Rattle.std.proofs.lemmas.List.{take_more, length-set}
use Rattle.th_base.specs.IdSet.{has}
use Rattle.th_incl.specs.Least.{set_at}
use Rattle.th_ir.proofs.Plain.{some_is}
use Rattle.th_points_to.specs.Rows.{row_of, AreRows, with_pair, pairs_from}

row_push : (k : ℕ) (ps : List (ℕ × ℕ)) (q : ℕ × ℕ) → row_of k (ps ++ q ∷ []) ≡ row_of k ps ++ (if q.0 == k then q.1 ∷ [] else [])
row_push k [] q = by (q.0 == k)
  where
    by : (b : Bool) → map {A = ℕ × ℕ} {B = ℕ} (λ pair. pair.1) (cond b (q ∷ []) []) ≡ (if b then q.1 ∷ [] else [])
    by true = refl
    by false = refl
row_push k (x ∷ ps) q = by (x.0 == k) (row_push k ps q)
  where
    by : (b : Bool) → row_of k (ps ++ q ∷ []) ≡ row_of k ps ++ (if q.0 == k then q.1 ∷ [] else []) → map {A = ℕ × ℕ} {B = ℕ} (λ pair. pair.1) (cond b (x ∷ filter (λ pair. pair.0 == k) (ps ++ q ∷ [])) (filter (λ pair. pair.0 == k) (ps ++ q ∷ [])))
        ≡ map {A = ℕ × ℕ} {B = ℕ} (λ pair. pair.1) (cond b (x ∷ filter (λ pair. pair.0 == k) ps) (filter (λ pair. pair.0 == k) ps)) ++ (if q.0 == k then q.1 ∷ [] else [])
    by true rest = ap (λ l. x.1 ∷ l) rest
    by false rest = rest

append_none : (xs : List ℕ) → xs ++ [] ≡ xs
append_none [] = refl
append_none (x ∷ xs) = ap (λ l. x ∷ l) (append_none xs)

rows_one : (count : ℕ) (ps : List (ℕ × ℕ)) (rows : List (List ℕ)) (q : ℕ × ℕ) → AreRows count ps rows → AreRows count (ps ++ q ∷ []) (with_pair rows (Some q))
rows_one count ps rows q are = by (nat_lt q.0 (length rows)) refl
  where
    by : (b : Bool) → nat_lt q.0 (length rows) ≡ b → AreRows count (ps ++ q ∷ []) (if b then slice_set rows q.0 (set_at rows q.0 ++ q.1 ∷ []) else rows)
    by true e =
        let inside : q.0 < length rows = grind arith in
        record {
          len = length-set rows q.0 _ ∙ are.len;
          row = λ k h. elim (cases_eq k q.0) [
            | inl same ↦
                subst (λ (n : ℕ). set_at (slice_set rows q.0 (set_at rows q.0 ++ q.1 ∷ [])) n ≡ row_of n (ps ++ q ∷ [])) (sym same)
                (get_or-set_same rows q.0 (set_at rows q.0 ++ q.1 ∷ []) [] inside
                ∙ ap (λ l. l ++ q.1 ∷ []) (are.row q.0 (omega (arith, inside, are.len)))
                ∙ sym (row_push q.0 ps q ∙ ap (λ b. row_of q.0 ps ++ (if b then q.1 ∷ [] else [])) (eq-eqb q.0 q.0 refl)))
            | inr apart ↦
                get_or-set_other rows q.0 k (set_at rows q.0 ++ q.1 ∷ []) [] apart ∙ are.row k h
                ∙ sym (row_push k ps q ∙ ap (λ b. row_of k ps ++ (if b then q.1 ∷ [] else [])) (ne_eqb q.0 k (λ s. apart (sym s))) ∙ append_none (row_of k ps))
          ];
        }
    by false e = record {
      len = are.len;
      row = λ k h.
          (let past : length rows ≤ q.0 = grind arith in
          are.row k h ∙ sym (row_push k ps q ∙ ap (λ b. row_of k ps ++ (if b then q.1 ∷ [] else [])) (ne_eqb q.0 k (λ s. let no : ⊥ = omega (arith, s, h, past, are.len) in no)) ∙ append_none (row_of k ps)));
    }

append_nothing : (ps : List (ℕ × ℕ)) → ps ++ [] ≡ ps
append_nothing [] = refl
append_nothing (x ∷ xs) = ap (λ l. x ∷ l) (append_nothing xs)

rows_with : (count : ℕ) (ps : List (ℕ × ℕ)) (rows : List (List ℕ)) (o : Option (ℕ × ℕ)) → AreRows count ps rows → AreRows count (ps ++ option_to_list o) (with_pair rows o)
rows_with count ps rows None are = subst (λ qs. AreRows count qs rows) (sym (append_nothing ps)) are
rows_with count ps rows (Some q) are = rows_one count ps rows q are

append_thrice : (xs ys zs : List (ℕ × ℕ)) → (xs ++ ys) ++ zs ≡ xs ++ (ys ++ zs)
append_thrice [] ys zs = refl
append_thrice (x ∷ xs) ys zs = ap (λ l. x ∷ l) (append_thrice xs ys zs)

pairs_push : {A : Type 0} (f : ℕ → A → Option (ℕ × ℕ)) (i : ℕ) (xs : List A) (x : A) → pairs_from f i (xs ++ x ∷ []) ≡ pairs_from f i xs ++ option_to_list (f (i + length xs) x)
pairs_push f i [] x = append_nothing (option_to_list (f i x)) ∙ ap (λ (n : ℕ). option_to_list (f n x)) (let e : i ≡ i + 0 = omega arith in e)
pairs_push f i (y ∷ xs) x =
    ap (λ ps. option_to_list (f i y) ++ ps) (pairs_push f (i + 1) xs x)
    ∙ sym (append_thrice (option_to_list (f i y)) (pairs_from f (i + 1) xs) (option_to_list (f ((i + 1) + length xs) x)))
    ∙ ap (λ (n : ℕ). (option_to_list (f i y) ++ pairs_from f (i + 1) xs) ++ option_to_list (f n x)) (let e : (i + 1) + length xs ≡ i + suc (length xs) = omega arith in e)

length_take : {A : Type 0} (xs : List A) (i : ℕ) → i ≤ length xs → length (take i xs) ≡ i
length_take xs zero h = refl
length_take [] (suc i) h = absurd (omega arith)
length_take (x ∷ xs) (suc i) h = ap suc (length_take xs i (omega arith))

-- a step of a loop that puts what each item gives
pub rows_next : {A : Type 0} (f : ℕ → A → Option (ℕ × ℕ)) (count : ℕ) (xs : List A) (i : ℕ) (d : A) (rows rows' : List (List ℕ)) (o : Option (ℕ × ℕ)) → i < length xs
    → AreRows count (pairs_from f 0 (take i xs)) rows → rows' ≡ with_pair rows o → o ≡ f i (get_or xs i d) → AreRows count (pairs_from f 0 (take (i + 1) xs)) rows'
rows_next f count xs i d rows rows' o h are e is =
    let x = get_or xs i d in
    let pairs : pairs_from f 0 (take (i + 1) xs) ≡ pairs_from f 0 (take i xs) ++ option_to_list (f i x) =
    ap (pairs_from f 0) (take_more xs i d h) ∙ pairs_push f 0 (take i xs) x
    ∙ ap (λ (n : ℕ). pairs_from f 0 (take i xs) ++ option_to_list (f n x)) (let same : 0 + length (take i xs) ≡ i = omega (arith, length_take xs i (omega arith)) in same) in
    subst (λ ps. AreRows count ps rows') (sym pairs)
    (subst (λ rs. AreRows count (pairs_from f 0 (take i xs) ++ option_to_list (f i x)) rs) (sym e)
    (subst (λ (q : Option (ℕ × ℕ)). AreRows count (pairs_from f 0 (take i xs) ++ option_to_list (f i x)) (with_pair rows q)) (sym is)
    (rows_with count (pairs_from f 0 (take i xs)) rows (f i x) are)))

replicate_at : (n k : ℕ) → get_or (replicate n (let none : List ℕ = [] in none)) k [] ≡ []
replicate_at zero k = refl
replicate_at (suc n) zero = refl
replicate_at (suc n) (suc k) = replicate_at n k

length_replicate : (n : ℕ) → length (replicate n (let none : List ℕ = [] in none)) ≡ n
length_replicate zero = refl
length_replicate (suc n) = ap suc (length_replicate n)

pub rows_none : (count : ℕ) (rows : List (List ℕ)) → rows ≡ replicate count [] → AreRows count [] rows
rows_none count rows e = record { len = ap length e ∙ length_replicate count; row = λ k h. ap (λ rs. set_at rs k) e ∙ replicate_at count k }

-- ---- what is in a row

in_append : (k x : ℕ) (ps qs : List (ℕ × ℕ)) → row_of k (ps ++ qs) ≡ row_of k ps ++ row_of k qs
in_append k x [] qs = refl
in_append k x (p ∷ ps) qs = by (p.0 == k) (in_append k x ps qs)
  where
    by : (b : Bool) → row_of k (ps ++ qs) ≡ row_of k ps ++ row_of k qs → map {A = ℕ × ℕ} {B = ℕ} (λ pair. pair.1) (cond b (p ∷ filter (λ pair. pair.0 == k) (ps ++ qs)) (filter (λ pair. pair.0 == k) (ps ++ qs)))
        ≡ map {A = ℕ × ℕ} {B = ℕ} (λ pair. pair.1) (cond b (p ∷ filter (λ pair. pair.0 == k) ps) (filter (λ pair. pair.0 == k) ps)) ++ row_of k qs
    by true rest = ap (λ l. p.1 ∷ l) rest
    by false rest = rest

has_append : (xs ys : List ℕ) (x : ℕ) → has (xs ++ ys) x ≡ true → (has xs x ≡ true) ⊎ (has ys x ≡ true)
has_append [] ys x h = inr h
has_append (y ∷ xs) ys x h = elim (or_cases (y == x) (has (xs ++ ys) x) h) [
  | inl same ↦ inl (subst (λ (b : Bool). (b || has xs x) ≡ true) (sym same) refl)
  | inr more ↦ elim (has_append xs ys x more) [ inl left ↦ inl (or_right (y == x) (has xs x) left) | inr right ↦ inr right ]
]

has_left : (xs ys : List ℕ) (x : ℕ) → has xs x ≡ true → has (xs ++ ys) x ≡ true
has_left [] ys x h = absurd cc
has_left (y ∷ xs) ys x h = elim (or_cases (y == x) (has xs x) h) [
  | inl same ↦ subst (λ (b : Bool). (b || has (xs ++ ys) x) ≡ true) (sym same) refl
  | inr more ↦ or_right (y == x) (has (xs ++ ys) x) (has_left xs ys x more)
]

has_right : (xs ys : List ℕ) (x : ℕ) → has ys x ≡ true → has (xs ++ ys) x ≡ true
has_right [] ys x h = h
has_right (y ∷ xs) ys x h = or_right (y == x) (has (xs ++ ys) x) (has_right xs ys x h)

one_in : (k x : ℕ) (o : Option (ℕ × ℕ)) → has (row_of k (option_to_list o)) x ≡ true → o ≡ Some (k, x)
one_in k x None h = absurd cc
one_in k x (Some q) h = by (q.0 == k) refl h
  where
    by : (b : Bool) → (q.0 == k) ≡ b → has (map {A = ℕ × ℕ} {B = ℕ} (λ pair. pair.1) (cond b (q ∷ []) [])) x ≡ true → Some q ≡ Some (k, x)
    by false e h = absurd cc
    by true e h = elim (or_cases (q.1 == x) false h) [
      | inl same ↦ ap (λ (n : ℕ). Some (n, q.1)) (eqb-true q.0 k e) ∙ ap (λ (n : ℕ). Some (k, n)) (eqb-true q.1 x same)
      | inr none ↦ absurd cc
    ]

one_there : (k x : ℕ) (o : Option (ℕ × ℕ)) → o ≡ Some (k, x) → has (row_of k (option_to_list o)) x ≡ true
one_there k x o e = subst (λ (q : Option (ℕ × ℕ)). has (row_of k (option_to_list q)) x ≡ true) (sym e) there
  where
    there : has (row_of k ((k, x) ∷ [])) x ≡ true
    there = subst (λ (b : Bool). has (map {A = ℕ × ℕ} {B = ℕ} (λ pair. pair.1) (cond b ((k, x) ∷ []) [])) x ≡ true) (sym (eq-eqb k k refl))
        (subst (λ (b : Bool). (b || false) ≡ true) (sym (eq-eqb x x refl)) refl)

-- an item that gives the pair
pub record Gives {A : Type 0} (f : ℕ → A → Option (ℕ × ℕ)) (i : ℕ) (xs : List A) (k x : ℕ) : Type 0 where
  pub place : ℕ
  pub item : A
  pub stands : slice_get xs place ≡ Some item
  pub gives : f (i + place) item ≡ Some (k, x)

pub in_row : {A : Type 0} (f : ℕ → A → Option (ℕ × ℕ)) (i : ℕ) (xs : List A) (k x : ℕ) → has (row_of k (pairs_from f i xs)) x ≡ true → Gives f i xs k x
in_row f i [] k x h = absurd cc
in_row f i (y ∷ xs) k x h = elim (has_append (row_of k (option_to_list (f i y))) (row_of k (pairs_from f (i + 1) xs)) x (ap (λ l. has l x) (sym (in_append k x (option_to_list (f i y)) (pairs_from f (i + 1) xs))) ∙ h)) [
  | inl first ↦ record { place = 0; item = y; stands = refl; gives = subst (λ (n : ℕ). f n y ≡ Some (k, x)) (let e : i ≡ i + 0 = omega arith in e) (one_in k x (f i y) first) }
  | inr later ↦
      (let g = in_row f (i + 1) xs k x later in
      record { place = suc g.place; item = g.item; stands = g.stands; gives = subst (λ (n : ℕ). f n g.item ≡ Some (k, x)) (let e : (i + 1) + g.place ≡ i + suc g.place = omega arith in e) g.gives })
]

pub to_row : {A : Type 0} (f : ℕ → A → Option (ℕ × ℕ)) (i : ℕ) (xs : List A) (k x n : ℕ) (y : A) → slice_get xs n ≡ Some y → f (i + n) y ≡ Some (k, x) → has (row_of k (pairs_from f i xs)) x ≡ true
to_row f i [] k x n y at e = absurd cc
to_row f i (z ∷ xs) k x zero y at e =
    ap (λ l. has l x) (in_append k x (option_to_list (f i z)) (pairs_from f (i + 1) xs))
    ∙ has_left (row_of k (option_to_list (f i z))) (row_of k (pairs_from f (i + 1) xs)) x
    (one_there k x (f i z) (ap (λ y. f i y) (some_is z y at) ∙ ap (λ (n : ℕ). f n y) (let same : i ≡ i + 0 = omega arith in same) ∙ e))
to_row f i (z ∷ xs) k x (suc n) y at e =
    ap (λ l. has l x) (in_append k x (option_to_list (f i z)) (pairs_from f (i + 1) xs))
    ∙ has_right (row_of k (option_to_list (f i z))) (row_of k (pairs_from f (i + 1) xs)) x
    (to_row f (i + 1) xs k x n y at (ap (λ (m : ℕ). f m y) (let same : (i + 1) + n ≡ i + suc n = omega arith in same) ∙ e))

take_every : {A : Type 0} (xs : List A) (i : ℕ) → length xs ≤ i → take i xs ≡ xs
take_every [] zero h = refl
take_every [] (suc i) h = refl
take_every (x ∷ xs) zero h = absurd (omega arith)
take_every (x ∷ xs) (suc i) h = ap (λ l. x ∷ l) (take_every xs i (omega arith))

pub rows_whole : {A : Type 0} (f : ℕ → A → Option (ℕ × ℕ)) (count : ℕ) (xs : List A) (i : ℕ) (rows : List (List ℕ)) → length xs ≤ i → AreRows count (pairs_from f 0 (take i xs)) rows
    → AreRows count (pairs_from f 0 xs) rows
rows_whole {A} f count xs i rows h are = subst (λ (ys : List A). AreRows count (pairs_from f 0 ys) rows) (take_every xs i h) are

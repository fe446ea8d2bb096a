-- Ascending lists of numbers: two that have the same members are one list.
use Rattle.std.proofs.Common.{◌≡◌, ℕ, ◌+◌, ◌<◌, ◌≤◌, zero, suc, Bool, true, false, cond, eqb, ltb, ◌||◌, ◌&&◌, List, [], ◌∷◌, ◌++◌, length, take, drop, get_or, Result, Ok, Err, is_ok, refl, sym, ap, ◌∙◌, subst, inl, inr, arith}
use Rattle.std.specs.List.{filter, AllByRecursion, insert, items_where_true}
use Rattle.std.specs.List.Sorted.{IsBinarySearchResult}
use Rattle.std.specs.Result.{MatchResult}
use Rattle.std.specs.Ordering.{nat_cmp}
use Rattle.std.proofs.lemmas.Bool.{ltb-true, lt-ltb, le-ltb, eqb-true, eq-eqb, ne_eqb, cases_order, cases_Bool, or_right, both_ways}
use Rattle.std.proofs.lemmas.List.{append-nil, length-drop, get_or-drop, take-append-drop}
use Rattle.std.proofs.lemmas.List.Elements.{filter-append}
use Rattle.std.proofs.lemmas.List.Sorted.{searched}
use Rattle.th_base.specs.IdSet.{has, IsAscending, inserted, union_of}
use Rattle.th_base.proofs.Booleans.{or_assoc, or_false, or_over}

-- ---- what holds of each number

pub all_weaker : (P Q : ℕ → Type 0) → ((y : ℕ) → P y → Q y) → (xs : List ℕ) → AllByRecursion P xs → AllByRecursion Q xs
all_weaker P Q f [] a = tt
all_weaker P Q f (x ∷ xs) a = (f x a.0, all_weaker P Q f xs a.1)

all_append : (P : ℕ → Type 0) (xs ys : List ℕ) → AllByRecursion P xs → AllByRecursion P ys → AllByRecursion P (xs ++ ys)
all_append P [] ys a b = b
all_append P (x ∷ xs) ys a b = (a.0, all_append P xs ys a.1 b)

all_filter : (P : ℕ → Type 0) (p : ℕ → Bool) (xs : List ℕ) → AllByRecursion P xs → AllByRecursion P (filter p xs)
all_filter P p [] a = tt
all_filter P p (x ∷ xs) a =
    elim (p x) as (λ b. AllByRecursion P (cond b (x ∷ filter p xs) (filter p xs))) [ true ↦ (a.0, all_filter P p xs a.1) | false ↦ all_filter P p xs a.1 ]

all_take : (P : ℕ → Type 0) (n : ℕ) (xs : List ℕ) → AllByRecursion P xs → AllByRecursion P (take n xs)
all_take P zero xs a = tt
all_take P (suc n) [] a = tt
all_take P (suc n) (x ∷ xs) a = (a.0, all_take P n xs a.1)

all_below : (x : ℕ) (xs : List ℕ) → AllByRecursion (λ y. y < x) (filter (λ y. ltb y x) xs)
all_below x [] = tt
all_below x (y ∷ ys) =
    elim (ltb y x) as (λ b. ltb y x ≡ b → AllByRecursion (λ z. z < x) (cond b (y ∷ filter (λ z. ltb z x) ys) (filter (λ z. ltb z x) ys))) [
      | true ↦ λ e. (ltb-true y x e, all_below x ys)
      | false ↦ λ e. all_below x ys
    ] refl

all_above : (x : ℕ) (xs : List ℕ) → AllByRecursion (λ y. x < y) (filter (λ y. ltb x y) xs)
all_above x [] = tt
all_above x (y ∷ ys) =
    elim (ltb x y) as (λ b. ltb x y ≡ b → AllByRecursion (λ z. x < z) (cond b (y ∷ filter (λ z. ltb x z) ys) (filter (λ z. ltb x z) ys))) [
      | true ↦ λ e. (ltb-true x y e, all_above x ys)
      | false ↦ λ e. all_above x ys
    ] refl

all_at : (P : ℕ → Type 0) (xs : List ℕ) → AllByRecursion P xs → (i : ℕ) → i < length xs → P (get_or xs i 0)
all_at P [] a i h = absurd (omega arith)
all_at P (x ∷ xs) a zero h = a.0
all_at P (x ∷ xs) a (suc i) h = all_at P xs a.1 i (omega arith)

-- ---- membership

pub has-append : (xs ys : List ℕ) (x : ℕ) → has (xs ++ ys) x ≡ (has xs x || has ys x)
has-append [] ys x = refl
has-append (z ∷ zs) ys x = ap (λ b. eqb z x || b) (has-append zs ys x) ∙ sym (or_assoc (eqb z x) (has zs x) (has ys x))

-- no number that is above all is in the list
pub absent_below : (x : ℕ) (xs : List ℕ) → AllByRecursion (λ y. x < y) xs → has xs x ≡ false
absent_below x [] a = refl
absent_below x (y ∷ ys) a = let h : x < y = a.0 in rw (ne_eqb y x (omega arith), absent_below x ys a.1) refl

absent_above : (x : ℕ) (xs : List ℕ) → AllByRecursion (λ y. y < x) xs → has xs x ≡ false
absent_above x [] a = refl
absent_above x (y ∷ ys) a = let h : y < x = a.0 in rw (ne_eqb y x (omega arith), absent_above x ys a.1) refl

-- the first of an ascending list
pub has_first : (x : ℕ) (xs : List ℕ) → has (x ∷ xs) x ≡ true
has_first x xs = rw (eq-eqb x x refl) refl

step_has-filter : (p : ℕ → Bool) (y : ℕ) (ys : List ℕ) (x : ℕ) (b : Bool) → p y ≡ b → has (filter p ys) x ≡ (p x && has ys x)
    → has (cond b (y ∷ filter p ys) (filter p ys)) x ≡ (p x && (eqb y x || has ys x))
step_has-filter p y ys x true e h =
    elim (cases_Bool (eqb y x)) [
      | inl same ↦ let q : p x ≡ true = ap p (sym (eqb-true y x same)) ∙ e in rw (same, q) refl
      | inr other ↦ rw other h
    ]
step_has-filter p y ys x false e h =
    elim (cases_Bool (eqb y x)) [
      | inl same ↦ let q : p x ≡ false = ap p (sym (eqb-true y x same)) ∙ e in h ∙ rw q refl
      | inr other ↦ rw other h
    ]

pub has-filter : (p : ℕ → Bool) (xs : List ℕ) (x : ℕ) → has (filter p xs) x ≡ (p x && has xs x)
has-filter p [] x = elim (p x) as (λ b. false ≡ (b && false)) [ true ↦ refl | false ↦ refl ]
has-filter p (y ∷ ys) x = step_has-filter p y ys x (p y) refl (has-filter p ys x)

pub has-inserted : (y : ℕ) (xs : List ℕ) (x : ℕ) → has (inserted y xs) x ≡ (eqb y x || has xs x)
has-inserted y xs x =
    has-append (filter (λ z. ltb z y) xs) (y ∷ filter (λ z. ltb y z) xs) x
    ∙ rw (has-filter (λ z. ltb z y) xs x, has-filter (λ z. ltb y z) xs x) (
    elim (cases_order x y) [
      | inl e ↦ rw (eq-eqb y x (sym e), le-ltb x y (omega arith)) refl
      | inr (inl less) ↦ rw (ne_eqb y x (omega arith), lt-ltb x y less, le-ltb y x (omega arith)) (elim (has xs x) as (λ b. (b || false) ≡ b) [ true ↦ refl | false ↦ refl ])
      | inr (inr more) ↦ rw (ne_eqb y x (omega arith), le-ltb x y (omega arith), lt-ltb y x more) refl
    ])

pub has-union_of : (xs ys : List ℕ) (x : ℕ) → has (union_of xs ys) x ≡ (has xs x || has ys x)
has-union_of xs [] x = sym (or_false (has xs x))
has-union_of xs (y ∷ ys) x =
    has-inserted y (union_of xs ys) x ∙ ap (λ b. eqb y x || b) (has-union_of xs ys x) ∙ or_over (eqb y x) (has xs x) (has ys x)

-- ---- order

pub IsAscending-filter : (p : ℕ → Bool) (xs : List ℕ) → IsAscending xs → IsAscending (filter p xs)
IsAscending-filter p [] a = tt
IsAscending-filter p (x ∷ xs) a =
    elim (p x) as (λ b. IsAscending (cond b (x ∷ filter p xs) (filter p xs))) [
      | true ↦ (all_filter (λ y. x < y) p xs a.0, IsAscending-filter p xs a.1)
      | false ↦ IsAscending-filter p xs a.1
    ]

all_where_true : (P : ℕ → Type 0) (bs : List Bool) (xs : List ℕ) → AllByRecursion P xs → AllByRecursion P (items_where_true bs xs)
all_where_true P [] xs a = tt
all_where_true P (b ∷ bs) [] a = tt
all_where_true P (true ∷ bs) (x ∷ xs) a = (a.0, all_where_true P bs xs a.1)
all_where_true P (false ∷ bs) (x ∷ xs) a = all_where_true P bs xs a.1

pub IsAscending-where_true : (bs : List Bool) (xs : List ℕ) → IsAscending xs → IsAscending (items_where_true bs xs)
IsAscending-where_true [] xs a = tt
IsAscending-where_true (b ∷ bs) [] a = tt
IsAscending-where_true (true ∷ bs) (x ∷ xs) a = (all_where_true (λ y. x < y) bs xs a.0, IsAscending-where_true bs xs a.1)
IsAscending-where_true (false ∷ bs) (x ∷ xs) a = IsAscending-where_true bs xs a.1

-- two ascending lists, each number of the first below x, of the second above it
pub IsAscending-around : (x : ℕ) (ls rs : List ℕ) → IsAscending ls → IsAscending rs → AllByRecursion (λ y. y < x) ls → AllByRecursion (λ y. x < y) rs
    → IsAscending (ls ++ x ∷ rs)
IsAscending-around x [] rs l r below above = (above, r)
IsAscending-around x (y ∷ ys) rs l r below above =
    let h : y < x = below.0 in (
      all_append (λ z. y < z) ys (x ∷ rs) l.0 (h, all_weaker (λ z. x < z) (λ z. y < z) (λ z g. omega arith) rs above),
      IsAscending-around x ys rs l.1 r below.1 above,
    )

pub IsAscending-inserted : (x : ℕ) (xs : List ℕ) → IsAscending xs → IsAscending (inserted x xs)
IsAscending-inserted x xs a =
    IsAscending-around x _ _ (IsAscending-filter _ xs a) (IsAscending-filter _ xs a) (all_below x xs) (all_above x xs)

pub IsAscending-union_of : (xs ys : List ℕ) → IsAscending xs → IsAscending (union_of xs ys)
IsAscending-union_of xs [] a = a
IsAscending-union_of xs (y ∷ ys) a = IsAscending-inserted y (union_of xs ys) (IsAscending-union_of xs ys a)

pub IsAscending-drop : (n : ℕ) (xs : List ℕ) → IsAscending xs → IsAscending (drop n xs)
IsAscending-drop zero xs a = a
IsAscending-drop (suc n) [] a = tt
IsAscending-drop (suc n) (x ∷ xs) a = IsAscending-drop n xs a.1

pub IsAscending-take : (n : ℕ) (xs : List ℕ) → IsAscending xs → IsAscending (take n xs)
IsAscending-take zero xs a = tt
IsAscending-take (suc n) [] a = tt
IsAscending-take (suc n) (x ∷ xs) a = (all_take (λ y. x < y) n xs a.0, IsAscending-take n xs a.1)

-- ---- one list

-- a first that differs: the lesser is in one list alone
first_same : (x y : ℕ) (xs ys : List ℕ) → IsAscending (x ∷ xs) → IsAscending (y ∷ ys) → ((z : ℕ) → has (x ∷ xs) z ≡ has (y ∷ ys) z) → x ≡ y
first_same x y xs ys a b same =
    elim (cases_order x y) [
      | inl e ↦ e
      | inr (inl less) ↦
          absurd (both_ways _ (absent_below x (y ∷ ys) (less, all_weaker (λ z. y < z) (λ z. x < z) (λ z g. omega arith) ys b.0)) (sym (same x) ∙ has_first x xs))
      | inr (inr more) ↦
          absurd (both_ways _ (absent_below y (x ∷ xs) (more, all_weaker (λ z. x < z) (λ z. y < z) (λ z g. omega arith) xs a.0)) (same y ∙ has_first y ys))
    ]

rest_same : (x z : ℕ) (xs ys : List ℕ) → AllByRecursion (λ w. x < w) xs → AllByRecursion (λ w. x < w) ys → has (x ∷ xs) z ≡ has (x ∷ ys) z → has xs z ≡ has ys z
rest_same x z xs ys a b e =
    elim (cases_Bool (eqb x z)) [
      | inl same ↦ let q : x ≡ z = eqb-true x z same in
          subst (λ w. has xs w ≡ has ys w) q (absent_below x xs a ∙ sym (absent_below x ys b))
      | inr other ↦ rw other at e
    ]

pub same_members : (xs ys : List ℕ) → IsAscending xs → IsAscending ys → ((z : ℕ) → has xs z ≡ has ys z) → xs ≡ ys
same_members [] [] a b same = refl
same_members [] (y ∷ ys) a b same = absurd (both_ways _ (sym (same y)) (has_first y ys))
same_members (x ∷ xs) [] a b same = absurd (both_ways _ (same x) (has_first x xs))
same_members (x ∷ xs) (y ∷ ys) a b same =
    let e : x ≡ y = first_same x y xs ys a b same in
    let b' : AllByRecursion (λ w. x < w) ys = rw e b.0 in
    let same' : (z : ℕ) → has (x ∷ xs) z ≡ has (x ∷ ys) z = λ z. same z ∙ ap (λ w. has (w ∷ ys) z) (sym e) in
    let rest : xs ≡ ys = same_members xs ys a.1 b.1 (λ z. rest_same x z xs ys a.0 b' (same' z)) in
    cc

-- ---- what a binary search finds

pub front_below : (x i : ℕ) (xs : List ℕ) → i ≤ length xs → ((k : ℕ) → k < i → get_or xs k 0 < x) → AllByRecursion (λ y. y < x) (take i xs)
front_below x zero xs h b = tt
front_below x (suc i) [] h b = tt
front_below x (suc i) (y ∷ ys) h b = (b 0 (omega arith), front_below x i ys (omega arith) (λ k g. b (suc k) (omega arith)))

back_above : (x : ℕ) (xs : List ℕ) → ((k : ℕ) → k < length xs → x < get_or xs k 0) → AllByRecursion (λ y. x < y) xs
back_above x [] b = tt
back_above x (y ∷ ys) b = (b 0 (omega arith), back_above x ys (λ k g. b (suc k) (omega arith)))

pub filter_all_below : (x : ℕ) (xs : List ℕ) → AllByRecursion (λ y. y < x) xs → filter (λ y. ltb y x) xs ≡ xs
filter_all_below x [] a = refl
filter_all_below x (y ∷ ys) a = rw (lt-ltb y x a.0, filter_all_below x ys a.1) refl

filter_none_below : (x : ℕ) (xs : List ℕ) → AllByRecursion (λ y. x < y) xs → filter (λ y. ltb y x) xs ≡ []
filter_none_below x [] a = refl
filter_none_below x (y ∷ ys) a = let h : x < y = a.0 in rw (le-ltb y x (omega arith), filter_none_below x ys a.1) refl

filter_all_above : (x : ℕ) (xs : List ℕ) → AllByRecursion (λ y. x < y) xs → filter (λ y. ltb x y) xs ≡ xs
filter_all_above x [] a = refl
filter_all_above x (y ∷ ys) a = rw (lt-ltb x y a.0, filter_all_above x ys a.1) refl

filter_none_above : (x : ℕ) (xs : List ℕ) → AllByRecursion (λ y. y < x) xs → filter (λ y. ltb x y) xs ≡ []
filter_none_above x [] a = refl
filter_none_above x (y ∷ ys) a = let h : y < x = a.0 in rw (le-ltb x y (omega arith), filter_none_above x ys a.1) refl

-- a number that stands between two parts is inserted there
pub inserted_between : (x : ℕ) (ls rs : List ℕ) → AllByRecursion (λ y. y < x) ls → AllByRecursion (λ y. x < y) rs → inserted x (ls ++ rs) ≡ ls ++ x ∷ rs
inserted_between x ls rs below above =
    rw (filter-append (λ y. ltb y x) ls rs, filter-append (λ y. ltb x y) ls rs, filter_all_below x ls below, filter_none_below x rs above, filter_none_above x ls below, filter_all_above x rs above, append-nil ls) refl

pub absent_between : (x : ℕ) (ls rs : List ℕ) → AllByRecursion (λ y. y < x) ls → AllByRecursion (λ y. x < y) rs → has (ls ++ rs) x ≡ false
absent_between x ls rs below above = rw (has-append ls rs x, absent_above x ls below, absent_below x rs above) refl

pub get_or-le : (xs : List ℕ) → IsAscending xs → (i j : ℕ) → i ≤ j → j < length xs → get_or xs i 0 ≤ get_or xs j 0
get_or-le [] a i j h g = absurd (omega arith)
get_or-le (x ∷ xs) a zero zero h g = omega arith
get_or-le (x ∷ xs) a zero (suc j) h g = let above : x < get_or xs j 0 = all_at (λ y. x < y) xs a.0 j (omega arith) in omega arith
get_or-le (x ∷ xs) a (suc i) zero h g = absurd (omega arith)
get_or-le (x ∷ xs) a (suc i) (suc j) h g = get_or-le xs a.1 i j (omega arith) (omega arith)

pub has_at : (xs : List ℕ) (x i : ℕ) → i < length xs → get_or xs i 0 ≡ x → has xs x ≡ true
has_at [] x i h e = absurd (omega arith)
has_at (y ∷ ys) x zero h e = rw (eq-eqb y x e) refl
has_at (y ∷ ys) x (suc i) h e = or_right (eqb y x) (has ys x) (has_at ys x i (omega arith) e)

-- where a binary search finds a number, or where the number would stand
abbrev pub Found : List ℕ → ℕ → Result ℕ ℕ → Type 0
Found xs x r = MatchResult r (λ i. has xs x ≡ true) (λ i. (i ≤ length xs) × (insert xs i x ≡ inserted x xs) × (has xs x ≡ false))

found_by : (xs : List ℕ) (x : ℕ) (r : Result ℕ ℕ)
    → MatchResult r (λ i. (i < length xs) × (get_or xs i 0 ≡ x)) (λ i. (i ≤ length xs) × ((k : ℕ) → k < i → get_or xs k 0 < x) × ((k : ℕ) → i ≤ k → k < length xs → x < get_or xs k 0))
    → Found xs x r
found_by xs x (Ok i) h = has_at xs x i h.0 h.1
found_by xs x (Err i) h =
    let below : AllByRecursion (λ y. y < x) (take i xs) = front_below x i xs h.0 h.1 in
    let above : AllByRecursion (λ y. x < y) (drop i xs) =
    back_above x (drop i xs) (λ k g. rw (get_or-drop i xs k 0) (h.2 (i + k) (omega arith) (omega (arith, length-drop i xs)))) in (
      h.0,
      sym (inserted_between x (take i xs) (drop i xs) below above) ∙ ap (λ l. inserted x l) (take-append-drop i xs),
      ap (λ l. has l x) (sym (take-append-drop i xs)) ∙ absent_between x (take i xs) (drop i xs) below above,
    )

pub found : (xs : List ℕ) (x : ℕ) (r : Result ℕ ℕ) → IsBinarySearchResult (λ y. nat_cmp y x) xs r → IsAscending xs → Found xs x r
found xs x r h a = found_by xs x r (searched xs x r h (get_or-le xs a))

pub is_ok_found : (xs : List ℕ) (x : ℕ) (r : Result ℕ ℕ) → Found xs x r → is_ok r ≡ has xs x
is_ok_found xs x (Ok i) h = sym h
is_ok_found xs x (Err i) h = sym h.2

-- inserting a number that is there changes nothing
pub inserted_present : (x : ℕ) (xs : List ℕ) → IsAscending xs → has xs x ≡ true → inserted x xs ≡ xs
inserted_present x xs a h =
    same_members (inserted x xs) xs (IsAscending-inserted x xs a) a
    (λ z. has-inserted x xs z ∙ elim (cases_Bool (eqb x z)) [
      | inl same ↦ let q : has xs z ≡ true = subst (λ w. has xs w ≡ true) (eqb-true x z same) h in rw (same, q) refl
      | inr other ↦ rw other refl
    ])

pub found_present : (xs : List ℕ) (x : ℕ) (r : Result ℕ ℕ) → Found xs x r → (i : ℕ) → r ≡ Ok i → has xs x ≡ true
found_present xs x r h i e = subst (Found xs x) e h

pub found_place : (xs : List ℕ) (x : ℕ) (r : Result ℕ ℕ) → Found xs x r → (i : ℕ) → r ≡ Err i → insert xs i x ≡ inserted x xs
found_place xs x r h i e = (subst (Found xs x) e h).1

pub found_absent : (xs : List ℕ) (x : ℕ) (r : Result ℕ ℕ) → Found xs x r → (i : ℕ) → r ≡ Err i → has xs x ≡ false
found_absent xs x r h i e = (subst (Found xs x) e h).2

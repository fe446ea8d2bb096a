-- The index of a class's members: sorted by name and descriptor, its first entry of a key is that of the first member.
use Rattle.std.proofs.Common.{◌≡◌, ℕ, ◌+◌, ◌<◌, ◌≤◌, zero, suc, Bool, true, false, not, cond, ◌&&◌, List, [], ◌∷◌, ◌++◌, Option, Some, None, length, take, get_or, refl, sym, ap, ◌∙◌, subst, inl, inr, arith, Bor, Ordering, Less, Equal, Greater}
use denote.Param.Members.{Mut}
use Rattle.std.specs.Cmp.{IsTotalOrder}
use Rattle.std.specs.Cmp.Lexicographic.{slice_cmp}
use Rattle.std.specs.Fn.{Called, ComparesAs}
use Rattle.std.specs.List.{filter, find, slice_get}
use Rattle.std.specs.List.Sorted.{IsSortedByKey, IsSortedByClosure, IsStableByClosure, IsNonDecreasingBy, IsPartitionedBy, IsPartitionPoint, ties}
use Rattle.std.specs.Option.{option_and_then, option_copied, option_map}
use Rattle.std.specs.Ordering.{nat_cmp, is_lt, is_eq, ordering_index, ordering_then, ordering_reverse}
use Rattle.std.specs.Slice.{IsItemAt}
use Rattle.std.specs.Str.{bytes_eq}
use Rattle.std.proofs.lemmas.Bool.{cases_Bool, cases_lt}
use Rattle.std.proofs.lemmas.Cmp.{nat_list_cmp_total, on_total, then_total}
use Rattle.std.proofs.lemmas.Fn.{always_returns_same}
use Rattle.std.proofs.lemmas.List.{append-nil, take_more, length-take, get_or_default}
use Rattle.std.proofs.lemmas.List.Elements.{filter_agree}
use Rattle.std.proofs.lemmas.List.Sorted.{ranks_by, searchable_from_sorted}
use Rattle.std.proofs.lemmas.Option.{slice_get-get_or, slice_get_past}
use Rattle.std.proofs.lemmas.Map.Text.{is_eq-slice_cmp}
use Rattle.th_base.specs.declared.class.ClassInfo.{ClassInfo}
use Rattle.th_base.specs.declared.index.Entry.{Entry}
use Rattle.th_base.specs.declared.members.Members.{Members}
use Rattle.th_base.specs.MemberIndex.{IsIndex, IsIndexed, AreIndexed, entries_from, is_of, key_cmp, key_of}

-- ---- the order of names and descriptors

abbrev Key : Type 0
Key = List ℕ × List ℕ

key_total : IsTotalOrder key_cmp
key_total = then_total (on_total (λ (k : Key). k.0) nat_list_cmp_total) (on_total (λ (k : Key). k.1) nat_list_cmp_total)

then_equal : (a b : Ordering) → is_eq (ordering_then a b) ≡ (is_eq a && is_eq b)
then_equal Less b = refl
then_equal Equal b = refl
then_equal Greater b = refl

-- an entry's key is equal to one just where it is of that name and descriptor
equal_key : (e : Entry) (name descriptor : List ℕ) → is_eq (key_cmp (key_of e) (name, descriptor)) ≡ is_of name descriptor e
equal_key e name descriptor =
    then_equal (slice_cmp nat_cmp e.name name) (slice_cmp nat_cmp e.descriptor descriptor)
    ∙ ap (λ b. b && is_eq (slice_cmp nat_cmp e.descriptor descriptor)) (is_eq-slice_cmp e.name name)
    ∙ ap (λ b. bytes_eq e.name name && b) (is_eq-slice_cmp e.descriptor descriptor)

neither_below : (r : Ordering) → (not (is_lt (ordering_reverse r)) && not (is_lt r)) ≡ is_eq r
neither_below Less = refl
neither_below Equal = refl
neither_below Greater = refl

abbrev below : Entry → Entry → Bool
below a b = is_lt (key_cmp (key_of a) (key_of b))

tied : (x e : Entry) → ties below x e ≡ is_of x.name x.descriptor e
tied x e =
    ap (λ r. not (is_lt r) && not (below e x)) (key_total.antisymm (key_of x) (key_of e))
    ∙ neither_below (key_cmp (key_of e) (key_of x)) ∙ equal_key e x.name x.descriptor

-- what a stable sort by name and descriptor gives
pub sorted_index : {F : Type 0} {g : Mut F (Bor Entry × (Bor Entry × Unit {0})) Ordering} {f : F} (xs ys : List Entry) → IsSortedByClosure g f ys → IsStableByClosure g f xs ys
    → ((a : Bor Entry × (Bor Entry × Unit {0})) (r : Ordering) (f' : F) → Called g f a r f' → (r ≡ key_cmp (key_of a.0.now) (key_of a.1.0.now)) × (f' ≡ f)) → IsIndex xs ys
sorted_index {g = g} {f = f} xs ys up stable h =
    let compares : ComparesAs g below f = always_returns_same g (λ a r. is_lt r ≡ below a.0.now a.1.0.now) f (λ a r f' k. (ap is_lt (h a r f' k).0, (h a r f' k).1)) in
    record {
      ascending = up below (ranks_by key_total key_of) compares;
      same = λ name descriptor.
          let x : Entry = record { name = name; descriptor = descriptor; place = 0 } in
          filter_agree (is_of name descriptor) (ties below x) (λ e. sym (tied x e)) ys
          ∙ stable below (ranks_by key_total key_of) compares x
          ∙ filter_agree (ties below x) (is_of name descriptor) (tied x) xs;
    }

-- ---- a search in the order

abbrev pub is_below : List ℕ → List ℕ → Entry → Bool
is_below name descriptor e = is_lt (key_cmp (key_of e) (name, descriptor))

rises : (ys : List Entry) (name descriptor : List ℕ) → IsSortedByKey key_of key_cmp ys → IsNonDecreasingBy (λ e. ordering_index (key_cmp (key_of e) (name, descriptor))) ys
rises ys name descriptor up = searchable_from_sorted key_total key_of ys (name, descriptor) up

below_before : (r s : Ordering) → ordering_index r ≤ ordering_index s → is_lt s ≡ true → is_lt r ≡ true
below_before Less s h e = refl
below_before Equal Less h e = absurd (omega arith)
below_before Equal Equal h e = cc
below_before Equal Greater h e = cc
below_before Greater Less h e = absurd (omega arith)
below_before Greater Equal h e = cc
below_before Greater Greater h e = cc

pub below_first : (ys : List Entry) (name descriptor : List ℕ) → IsSortedByKey key_of key_cmp ys → IsPartitionedBy (is_below name descriptor) ys
below_first ys name descriptor up = λ i j d h k e. below_before _ _ (rises ys name descriptor up i j d h k) e

below_other : (r : Ordering) → is_lt r ≡ true → is_eq r ≡ false
below_other Less e = refl
below_other Equal e = cc
below_other Greater e = cc

beyond_other : (r s : Ordering) → ordering_index r ≤ ordering_index s → is_lt r ≡ false → is_eq r ≡ false → is_eq s ≡ false
beyond_other Less s h e g = cc
beyond_other Equal s h e g = cc
beyond_other Greater Less h e g = refl
beyond_other Greater Equal h e g = absurd (omega arith)
beyond_other Greater Greater h e g = refl

find_none : {X : Type 0} (p : X → Bool) (ys : List X) → ((k : ℕ) (d : X) → k < length ys → p (get_or ys k d) ≡ false) → find p ys ≡ None
find_none p [] h = refl
find_none p (y ∷ ys) h = ap (λ b. cond b (Some y) (find p ys)) (h 0 y (omega arith)) ∙ find_none p ys (λ k d g. h (suc k) d (omega arith))

find_some : {X : Type 0} (p : X → Bool) (ys : List X) (j : ℕ) (y : X) → j < length ys → y ≡ get_or ys j y → ((k : ℕ) (d : X) → k < j → p (get_or ys k d) ≡ false) → p y ≡ true → find p ys ≡ Some y
find_some p [] j y h e before here = absurd (omega arith)
find_some p (x ∷ ys) zero y h e before here = ap (λ z. cond (p z) (Some z) (find p ys)) (sym e) ∙ ap (λ b. cond b (Some y) (find p ys)) here
find_some p (x ∷ ys) (suc j) y h e before here =
    ap (λ b. cond b (Some x) (find p ys)) (before 0 x (omega arith)) ∙ find_some p ys j y (omega arith) e (λ k d g. before (suc k) d (omega arith)) here

module _ (ys : List Entry) (name descriptor : List ℕ) (at : ℕ) (up : IsSortedByKey key_of key_cmp ys)
    (split : IsPartitionPoint (λ e. is_below name descriptor e ≡ true) (λ e. is_below name descriptor e ≡ false) ys at) where
  not_before : (k : ℕ) (d : Entry) → k < at → is_of name descriptor (get_or ys k d) ≡ false
  not_before k d h = sym (equal_key (get_or ys k d) name descriptor) ∙ below_other _ (split.0 k d (omega arith) h)

  -- the first entry that isn't below is of the key
  pub search_found : (e : Entry) → at < length ys → e ≡ get_or ys at e → is_eq (key_cmp (key_of e) (name, descriptor)) ≡ true → find (is_of name descriptor) ys ≡ Some e
  search_found e h is same = find_some (is_of name descriptor) ys at e h is not_before (sym (equal_key e name descriptor) ∙ same)

  -- it is of another
  pub search_missed : (e : Entry) → at < length ys → e ≡ get_or ys at e → is_eq (key_cmp (key_of e) (name, descriptor)) ≡ false → find (is_of name descriptor) ys ≡ None
  search_missed e h is other = find_none (is_of name descriptor) ys (λ k d g.
      elim (cases_lt k at) [
        | inl before ↦ not_before k d before
        | inr from ↦
            let here : get_or ys at d ≡ e = get_or_default ys at d e h ∙ sym is in
            sym (equal_key (get_or ys k d) name descriptor)
            ∙ beyond_other (key_cmp (key_of (get_or ys at d)) (name, descriptor)) _ (rises ys name descriptor up at k d from g) (split.1 at d (omega arith) h)
            (ap (λ x. is_eq (key_cmp (key_of x) (name, descriptor))) here ∙ other)
      ])

  -- there is none
  pub search_past : length ys ≤ at → find (is_of name descriptor) ys ≡ None
  search_past h = find_none (is_of name descriptor) ys (λ k d g. not_before k d (omega arith))

-- ---- the entries of a class's members

and_false : (b : Bool) → (b && false) ≡ false
and_false true = refl
and_false false = refl

pub and_true : (b : Bool) → b ≡ (b && true)
and_true true = refl
and_true false = refl

first_filtered : {X : Type 0} (p : X → Bool) (ys : List X) → find p ys ≡ slice_get (filter p ys) 0
first_filtered p [] = refl
first_filtered p (y ∷ ys) =
    elim (cases_Bool (p y)) [
      | inl passes ↦ ap (λ b. cond b (Some y) (find p ys)) passes ∙ sym (ap (λ b. slice_get (cond b (y ∷ filter p ys) (filter p ys)) 0) passes)
      | inr fails ↦ ap (λ b. cond b (Some y) (find p ys)) fails ∙ first_filtered p ys ∙ sym (ap (λ b. slice_get (cond b (y ∷ filter p ys) (filter p ys)) 0) fails)
    ]

module _ {X : Type 0} (keeps : X → Bool) (name descriptor : X → List ℕ) where
  abbrev entry : X → ℕ → Entry
  entry x place = record { name = name x; descriptor = descriptor x; place = place }

  abbrev from : ℕ → List X → List Entry
  from = entries_from keeps name descriptor

  entries-append : (a : ℕ) (xs ys : List X) → from a (xs ++ ys) ≡ from a xs ++ from (a + length xs) ys
  entries-append a [] ys = let e : a ≡ a + 0 = omega arith in ap (λ n. from n ys) e
  entries-append a (x ∷ xs) ys =
      let e : (a + 1) + length xs ≡ a + suc (length xs) = omega arith in
      let rest = entries-append (a + 1) xs ys ∙ ap (λ n. from (a + 1) xs ++ from n ys) e in
      elim (cases_Bool (keeps x)) [
        | inl kept ↦
            ap (λ b. cond b (entry x a ∷ from (a + 1) (xs ++ ys)) (from (a + 1) (xs ++ ys))) kept ∙ ap (λ l. entry x a ∷ l) rest
            ∙ sym (ap (λ b. cond b (entry x a ∷ from (a + 1) xs) (from (a + 1) xs) ++ from (a + suc (length xs)) ys) kept)
        | inr left ↦
            ap (λ b. cond b (entry x a ∷ from (a + 1) (xs ++ ys)) (from (a + 1) (xs ++ ys))) left ∙ rest
            ∙ sym (ap (λ b. cond b (entry x a ∷ from (a + 1) xs) (from (a + 1) xs) ++ from (a + suc (length xs)) ys) left)
      ]

  -- the entries as far as one member more
  entries_more : (xs : List X) (i : ℕ) (x : X) → i < length xs → x ≡ get_or xs i x → from 0 (take (i + 1) xs) ≡ from 0 (take i xs) ++ cond (keeps x) (entry x i ∷ []) []
  entries_more xs i x h e =
      let at : 0 + length (take i xs) ≡ i = omega (arith, length-take i xs) in
      ap (from 0) (take_more xs i x h ∙ ap (λ z. take i xs ++ z ∷ []) (sym e)) ∙ entries-append 0 (take i xs) (x ∷ [])
      ∙ ap (λ n. from 0 (take i xs) ++ cond (keeps x) (entry x n ∷ []) []) at

  pub entries_kept : (xs : List X) (i : ℕ) (x : X) → i < length xs → x ≡ get_or xs i x → keeps x ≡ true → from 0 (take (i + 1) xs) ≡ from 0 (take i xs) ++ entry x i ∷ []
  entries_kept xs i x h e kept = entries_more xs i x h e ∙ ap (λ b. from 0 (take i xs) ++ cond b (entry x i ∷ []) []) kept

  pub entries_left : (xs : List X) (i : ℕ) (x : X) → i < length xs → x ≡ get_or xs i x → keeps x ≡ false → from 0 (take (i + 1) xs) ≡ from 0 (take i xs)
  entries_left xs i x h e left = entries_more xs i x h e ∙ ap (λ b. from 0 (take i xs) ++ cond b (entry x i ∷ []) []) left ∙ append-nil (from 0 (take i xs))

  module _ (wanted kind : List ℕ) (p : X → Bool) (asks : (x : X) → p x ≡ ((bytes_eq (name x) wanted && bytes_eq (descriptor x) kind) && keeps x)) (f : ℕ → Option X) where
    abbrev answer : List Entry → Option X
    answer es = option_and_then f (option_map (λ e. e.place) (find (is_of wanted kind) es))

    -- a search along the members is one along their entries
    find_entries : (a : ℕ) (xs : List X) → ((i : ℕ) → i < length xs → f (a + i) ≡ slice_get xs i)
        → find p xs ≡ option_and_then f (option_map (λ e. e.place) (find (is_of wanted kind) (from a xs)))
    find_entries a [] h = refl
    find_entries a (x ∷ xs) h =
        let here : f a ≡ Some x = let e : a ≡ a + 0 = omega arith in ap f e ∙ h 0 (omega arith) in
        let rest = find_entries (a + 1) xs (λ i g. let e : (a + 1) + i ≡ a + suc i = omega arith in ap f e ∙ h (suc i) (omega arith)) in
        elim (cases_Bool (keeps x)) [
          | inl kept ↦
              let listed : answer (from a (x ∷ xs)) ≡ answer (entry x a ∷ from (a + 1) xs) = ap (λ b. answer (cond b (entry x a ∷ from (a + 1) xs) (from (a + 1) xs))) kept in
              elim (cases_Bool (is_of wanted kind (entry x a))) [
                | inl same ↦
                    ap (λ b. cond b (Some x) (find p xs)) (asks x ∙ ap (λ b. b && keeps x) same ∙ kept) ∙ sym here
                    ∙ sym (listed ∙ ap (λ b. option_and_then f (option_map (λ e. e.place) (cond b (Some (entry x a)) (find (is_of wanted kind) (from (a + 1) xs))))) same)
                | inr other ↦
                    ap (λ b. cond b (Some x) (find p xs)) (asks x ∙ ap (λ b. b && keeps x) other) ∙ rest
                    ∙ sym (listed ∙ ap (λ b. option_and_then f (option_map (λ e. e.place) (cond b (Some (entry x a)) (find (is_of wanted kind) (from (a + 1) xs))))) other)
              ]
          | inr left ↦
              ap (λ b. cond b (Some x) (find p xs)) (asks x ∙ ap (λ b. is_of wanted kind (entry x a) && b) left ∙ and_false (is_of wanted kind (entry x a))) ∙ rest
              ∙ sym (ap (λ b. answer (cond b (entry x a ∷ from (a + 1) xs) (from (a + 1) xs))) left)
        ]

-- a search along the members has the answer of one along the index of their entries
pub find_indexed : {X : Type 0} (keeps : X → Bool) (name descriptor : X → List ℕ) (wanted kind : List ℕ) (p : X → Bool)
    → ((x : X) → p x ≡ ((bytes_eq (name x) wanted && bytes_eq (descriptor x) kind) && keeps x)) → (xs : List X) (sorted : List Entry) → IsIndex (entries_from keeps name descriptor 0 xs) sorted
    → find p xs ≡ option_and_then (slice_get xs) (option_map (λ e. e.place) (find (is_of wanted kind) sorted))
find_indexed keeps name descriptor wanted kind p asks xs sorted index =
    let entries = entries_from keeps name descriptor 0 xs in
    let same : find (is_of wanted kind) entries ≡ find (is_of wanted kind) sorted =
    first_filtered (is_of wanted kind) entries ∙ ap (λ l. slice_get l 0) (sym (index.same wanted kind)) ∙ sym (first_filtered (is_of wanted kind) sorted) in
    find_entries keeps name descriptor wanted kind p asks (slice_get xs) 0 xs (λ i h. let e : 0 + i ≡ i = omega arith in ap (slice_get xs) e)
    ∙ ap (λ o. option_and_then (slice_get xs) (option_map (λ e. e.place) o)) same

-- what is got at the place that an index gave
pub got_at : {X : Type 0} (xs : List X) (i : ℕ) (r : Option (Bor X)) → IsItemAt xs i r → option_copied r ≡ slice_get xs i
got_at xs i None h = sym (slice_get_past xs i h.3)
got_at xs i (Some x) h = ap (λ y. Some y) h.1 ∙ sym (slice_get-get_or xs i x.now h.3.0)

-- ---- the indexes of all classes

indexed_pushed : (ks : List ClassInfo) (ms : List Members) (k : ClassInfo) (m : Members) → AreIndexed ks ms → IsIndexed k m → AreIndexed (ks ++ k ∷ []) (ms ++ m ∷ [])
indexed_pushed [] [] k m t here = (here, tt)
indexed_pushed [] (b ∷ bs) k m t here = absurd t
indexed_pushed (a ∷ ks) [] k m t here = absurd t
indexed_pushed (a ∷ ks) (b ∷ ms) k m t here = (t.0, indexed_pushed ks ms k m t.1 here)

pub indexed_more : (ks : List ClassInfo) (ms : List Members) (i : ℕ) (k : ClassInfo) (m : Members) → i < length ks → k ≡ get_or ks i k → AreIndexed (take i ks) ms → IsIndexed k m
    → AreIndexed (take (i + 1) ks) (ms ++ m ∷ [])
indexed_more ks ms i k m h e before here = subst (λ l. AreIndexed l (ms ++ m ∷ [])) (sym (take_more ks i k h ∙ ap (λ x. take i ks ++ x ∷ []) (sym e))) (indexed_pushed (take i ks) ms k m before here)

pub indexed_length : (ks : List ClassInfo) (ms : List Members) → AreIndexed ks ms → length ms ≡ length ks
indexed_length [] [] t = refl
indexed_length [] (m ∷ ms) t = absurd t
indexed_length (k ∷ ks) [] t = absurd t
indexed_length (k ∷ ks) (m ∷ ms) t = ap (λ n. suc n) (indexed_length ks ms t.1)

pub indexed_at : (ks : List ClassInfo) (ms : List Members) (i : ℕ) (k : ClassInfo) (m : Members) → AreIndexed ks ms → i < length ks → k ≡ get_or ks i k → m ≡ get_or ms i m → IsIndexed k m
indexed_at [] ms i k m t h e g = absurd (omega arith)
indexed_at (k' ∷ ks) [] i k m t h e g = absurd t
indexed_at (k' ∷ ks) (m' ∷ ms) zero k m t h e g = subst (λ x. IsIndexed x m) (sym e) (subst (IsIndexed k') (sym g) t.0)
indexed_at (k' ∷ ks) (m' ∷ ms) (suc i) k m t h e g = indexed_at ks ms i k m t.1 (omega arith) e g

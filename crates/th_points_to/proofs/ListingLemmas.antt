-- Lists of what was found are a listing of it.
use Rattle.std.proofs.Common.{◌≡◌, ◌⊎◌, inl, inr, ℕ, ◌<◌, ◌≤◌, ◌+◌, ◌==◌, zero, suc, Bool, true, false, List, [], ◌∷◌, ◌++◌, length, get_or, take, drop, cond, Option, Some, None, slice_get, refl, sym, ap, subst, arith, ◌∙◌, get_or-set_other}
use Rattle.std.specs.Prelude.{◌&&◌, ◌||◌, not, map, nat_lt, position, slice_set}
use Rattle.std.specs.List.{AllByRecursion, Contains, list_any, position_or_len}
use Rattle.std.specs.List.Sorted.{IsStrictlySortedBy}
use Rattle.std.specs.declared.cmp.Ordering.{Ordering}
use Rattle.std.specs.declared.cmp.Ordering.TheVariants.{Less}
use Rattle.std.specs.Ordering.{ordering_then, nat_cmp}
use Rattle.std.specs.Cmp.Lexicographic.{slice_cmp}
use Rattle.std.specs.Option.{option_map_or}
use Rattle.std.proofs.lemmas.Bool.{or_cases, or_right, eq-eqb, eqb-true, ne_eqb}
use Rattle.std.proofs.lemmas.List.{take_more}
use Rattle.std.proofs.lemmas.List.Quantifiers.{position-Some}
use Rattle.std.proofs.lemmas.Option.{slice_get-get_or}
use Rattle.th_base.specs.declared.class.ClassInfo.{ClassInfo}
use Rattle.th_base.specs.declared.number.FieldId.{FieldId}
use Rattle.th_base.specs.declared.number.MethodId.{MethodId}
use Rattle.th_base.specs.declared.number.NodeId.{NodeId}
use Rattle.th_base.specs.declared.number.SiteId.{SiteId}
use Rattle.th_base.specs.IdSet.{has, IsAscending}
use Rattle.th_incl.specs.Least.{set_at, IsLeast}
use Rattle.th_incl.proofs.Counts.{ascending_at}
use Rattle.th_ir.specs.declared.facts.Facts.{Facts}
use Rattle.th_ir.specs.declared.program.RegProgram.{RegProgram}
use Rattle.th_ir.specs.Fields.{field_count}
use Rattle.th_ir.specs.FactSets.{set_at as fact_at, sets_of, AscendBy, IsListedSet, cell_key, elem_key, call_key}
use Rattle.th_ir.specs.Program.{register_count}
use Rattle.th_ir.proofs.Plain.{some_is, and_parts, and_both}
use Rattle.th_points_to.specs.declared.found.Found.{Found}
use Rattle.th_points_to.specs.declared.place.Layout.{Layout}
use Rattle.th_points_to.specs.Found.{IsLaid}
use Rattle.th_points_to.specs.Listing.{AreOnce, IsListing, with_set, elements_from, cells_of, is_pair, pair_key, cell_set, AreListedCells, call_of, IsListed}

-- ---- sets at places

pub none_past : (sets : List (List ℕ)) (k : ℕ) → length sets ≤ k → set_at sets k ≡ []
none_past [] k h = refl
none_past (x ∷ xs) zero h = absurd (omega arith)
none_past (x ∷ xs) (suc k) h = none_past xs k (omega arith)

pub fact_is : (sets : List (List ℕ)) (k x : ℕ) → fact_at sets k x ≡ has (set_at sets k) x
fact_is [] k x = refl
fact_is (y ∷ sets) zero x = refl
fact_is (y ∷ sets) (suc k) x = fact_is sets k x

pub at_take : (n : ℕ) (sets : List (List ℕ)) (k : ℕ) → k < n → set_at (take n sets) k ≡ set_at sets k
at_take zero sets k h = absurd (omega arith)
at_take (suc n) [] k h = refl
at_take (suc n) (x ∷ sets) zero h = refl
at_take (suc n) (x ∷ sets) (suc k) h = at_take n sets k (omega arith)

length_take_le : (n : ℕ) (sets : List (List ℕ)) → length (take n sets) ≤ n
length_take_le zero sets = omega arith
length_take_le (suc n) [] = omega arith
length_take_le (suc n) (x ∷ sets) = let rest = length_take_le n sets in omega arith

pub length_take : (n : ℕ) (sets : List (List ℕ)) → n ≤ length sets → length (take n sets) ≡ n
length_take zero sets h = refl
length_take (suc n) [] h = absurd (omega arith)
length_take (suc n) (x ∷ sets) h = ap suc (length_take n sets (omega arith))

pub length_drop : (n : ℕ) (sets : List (List ℕ)) → n ≤ length sets → length (drop n sets) + n ≡ length sets
length_drop zero sets h = omega arith
length_drop (suc n) [] h = absurd (omega arith)
length_drop (suc n) (x ∷ sets) h = let rest = length_drop n sets (omega arith) in omega (arith, rest)

pub past_take : (n : ℕ) (sets : List (List ℕ)) (k : ℕ) → n ≤ k → set_at (take n sets) k ≡ []
past_take n sets k h = none_past (take n sets) k (let most = length_take_le n sets in omega (arith, most, h))

pub at_drop : (n : ℕ) (sets : List (List ℕ)) (k : ℕ) → set_at (drop n sets) k ≡ set_at sets (n + k)
at_drop zero sets k = ap (set_at sets) (let e : k ≡ 0 + k = omega arith in e)
at_drop (suc n) [] k = refl
at_drop (suc n) (x ∷ sets) k = at_drop n sets k ∙ ap (set_at (x ∷ sets)) (let e : suc (n + k) ≡ suc n + k = omega arith in e)

pub all_by_at : (sets : List (List ℕ)) → ((k : ℕ) → IsAscending (set_at sets k)) → AllByRecursion IsAscending sets
all_by_at [] each = tt
all_by_at (x ∷ sets) each = (each 0, all_by_at sets (λ k. each (suc k)))

less_or : (a b : ℕ) → (a < b) ⊎ (b ≤ a)
less_or a b = grind arith

pub taken : (n : ℕ) (sets : List (List ℕ)) → ((k : ℕ) → IsAscending (set_at sets k)) → (k : ℕ) → IsAscending (set_at (take n sets) k)
taken n sets all k = elim (less_or k n) [
  | inl less ↦ subst IsAscending (sym (at_take n sets k less)) (all k)
  | inr past ↦ subst IsAscending (sym (past_take n sets k past)) tt
]

pub dropped : (n : ℕ) (sets : List (List ℕ)) → ((k : ℕ) → IsAscending (set_at sets k)) → (k : ℕ) → IsAscending (set_at (drop n sets) k)
dropped n sets all k = subst IsAscending (sym (at_drop n sets k)) (all (n + k))

-- ---- elements

any_append : {X : Type 0} (test : X → Bool) (xs ys : List X) → list_any test (xs ++ ys) ≡ (list_any test xs || list_any test ys)
any_append test [] ys = refl
any_append test (x ∷ xs) ys = by (test x) (any_append test xs ys)
  where
    by : (b : Bool) → list_any test (xs ++ ys) ≡ (list_any test xs || list_any test ys) → (b || list_any test (xs ++ ys)) ≡ ((b || list_any test xs) || list_any test ys)
    by true e = refl
    by false e = e

append_thrice : {X : Type 0} (xs ys zs : List X) → (xs ++ ys) ++ zs ≡ xs ++ (ys ++ zs)
append_thrice [] ys zs = refl
append_thrice (x ∷ xs) ys zs = ap (λ l. x ∷ l) (append_thrice xs ys zs)

or_none : (b : Bool) → (b || false) ≡ b
or_none true = refl
or_none false = refl

-- one entry says what its set has, where it is the right one
entry_says : {X : Type 0} (right : X → Bool) (set : X → List ℕ) (entry : List ℕ → X) (x : ℕ) → ((ys : List ℕ) → right (entry ys) ≡ true) → ((ys : List ℕ) → set (entry ys) ≡ ys)
    → (ys : List ℕ) → list_any (λ e. right e && has (set e) x) (with_set entry ys) ≡ has ys x
entry_says right set entry x is same [] = refl
entry_says right set entry x is same (y ∷ ys) =
    or_none (right (entry (y ∷ ys)) && has (set (entry (y ∷ ys))) x) ∙ ap (λ (b : Bool). b && has (set (entry (y ∷ ys))) x) (is (y ∷ ys)) ∙ ap (λ zs. has zs x) (same (y ∷ ys))

entry_silent : {X : Type 0} (right : X → Bool) (set : X → List ℕ) (entry : List ℕ → X) (x : ℕ) → ((ys : List ℕ) → right (entry ys) ≡ false)
    → (ys : List ℕ) → list_any (λ e. right e && has (set e) x) (with_set entry ys) ≡ false
entry_silent right set entry x is [] = refl
entry_silent right set entry x is (y ∷ ys) = or_none (right (entry (y ∷ ys)) && has (set (entry (y ∷ ys))) x) ∙ ap (λ (b : Bool). b && has (set (entry (y ∷ ys))) x) (is (y ∷ ys))

abbrev elem_says : ℕ → ℕ → List (SiteId × List ℕ) → Bool
elem_says s x elems = list_any (λ e. e.0.0 == s && has e.1 x) elems

elements_before : (n s x : ℕ) (sets : List (List ℕ)) → s < n → elem_says s x (elements_from n sets) ≡ false
elements_before n s x [] less = refl
elements_before n s x (ys ∷ sets) less =
    any_append (λ (e : SiteId × List ℕ). e.0.0 == s && has e.1 x) (with_set (λ zs. (record { 0 = n }, zs)) ys) (elements_from (n + 1) sets)
    ∙ ap (λ (b : Bool). b || elem_says s x (elements_from (n + 1) sets))
    (entry_silent (λ (e : SiteId × List ℕ). e.0.0 == s) (λ e. e.1) (λ zs. (record { 0 = n }, zs)) x (λ zs. ne_eqb n s (λ e. let no_way : ⊥ = omega (arith, e, less) in no_way)) ys)
    ∙ elements_before (n + 1) s x sets (omega arith)

elements_at : (n k x : ℕ) (sets : List (List ℕ)) → elem_says (n + k) x (elements_from n sets) ≡ has (set_at sets k) x
elements_at n k x [] = refl
elements_at n zero x (ys ∷ sets) =
    any_append (λ (e : SiteId × List ℕ). e.0.0 == (n + 0) && has e.1 x) (with_set (λ zs. (record { 0 = n }, zs)) ys) (elements_from (n + 1) sets)
    ∙ ap (λ (b : Bool). b || elem_says (n + 0) x (elements_from (n + 1) sets))
    (entry_says (λ (e : SiteId × List ℕ). e.0.0 == (n + 0)) (λ e. e.1) (λ zs. (record { 0 = n }, zs)) x (λ zs. eq-eqb n (n + 0) (omega arith)) (λ zs. refl) ys)
    ∙ ap (λ (b : Bool). has ys x || b) (elements_before (n + 1) (n + 0) x sets (omega arith)) ∙ or_none (has ys x)
elements_at n (suc k) x (ys ∷ sets) =
    any_append (λ (e : SiteId × List ℕ). e.0.0 == (n + suc k) && has e.1 x) (with_set (λ zs. (record { 0 = n }, zs)) ys) (elements_from (n + 1) sets)
    ∙ ap (λ (b : Bool). b || elem_says (n + suc k) x (elements_from (n + 1) sets))
    (entry_silent (λ (e : SiteId × List ℕ). e.0.0 == (n + suc k)) (λ e. e.1) (λ zs. (record { 0 = n }, zs)) x (λ zs. ne_eqb n (n + suc k) (λ e. let no_way : ⊥ = omega (arith, e) in no_way)) ys)
    ∙ ap (λ (s : ℕ). elem_says s x (elements_from (n + 1) sets)) (let e : n + suc k ≡ (n + 1) + k = omega arith in e) ∙ elements_at (n + 1) k x sets

elements_listed : (n : ℕ) (sets : List (List ℕ)) → AllByRecursion IsAscending sets → AllByRecursion (λ e. IsListedSet e.1) (elements_from n sets)
elements_listed n [] all = tt
elements_listed n ([] ∷ sets) all = elements_listed (n + 1) sets all.1
elements_listed n ((y ∷ ys) ∷ sets) all = (all.0, elements_listed (n + 1) sets all.1)

-- the first key comes before the second
abbrev IsBelow : List ℕ → List ℕ → Type 0
IsBelow a b = slice_cmp nat_cmp a b ≡ Less

below_then : (o p : Ordering) → o ≡ Less → ordering_then o p ≡ Less
below_then o p e = rw e refl

nat_below : (a b : ℕ) → a < b → nat_cmp a b ≡ Less
nat_below a b h = grind arith

elements_above : (m n : ℕ) (sets : List (List ℕ)) → m < n → AllByRecursion (λ k. IsBelow (m ∷ []) k) (map elem_key (elements_from n sets))
elements_above m n [] less = tt
elements_above m n ([] ∷ sets) less = elements_above m (n + 1) sets (omega arith)
elements_above m n ((y ∷ ys) ∷ sets) less = (below_then (nat_cmp m n) (slice_cmp nat_cmp [] []) (nat_below m n less), elements_above m (n + 1) sets (omega arith))

elements_ascend : (n : ℕ) (sets : List (List ℕ)) → AscendBy elem_key (elements_from n sets)
unfolding IsStrictlySortedBy
elements_ascend n [] = tt
elements_ascend n ([] ∷ sets) = elements_ascend (n + 1) sets
elements_ascend n ((y ∷ ys) ∷ sets) = (elements_above n (n + 1) sets (omega arith), elements_ascend (n + 1) sets)

-- ---- cells

abbrev cell_says : ℕ → ℕ → ℕ → List (SiteId × FieldId × List ℕ) → Bool
cell_says s f x cells = list_any (λ c. (c.0.0 == s && c.1.0 == f) && has c.2 x) cells

-- a cell is told where its pair is among those, and its set has the site
cells_tell : (set : ℕ × ℕ → List ℕ) (s f x : ℕ) (ds : List (ℕ × ℕ)) → cell_says s f x (cells_of set ds) ≡ true
    → (list_any (is_pair (s, f)) ds ≡ true) × (has (set (s, f)) x ≡ true)
cells_tell set s f x [] e = absurd cc
cells_tell set s f x (d ∷ ds) e =
    elim (or_cases (cell_says s f x (with_set (λ zs. (record { 0 = d.0 }, record { 0 = d.1 }, zs)) (set d))) (cell_says s f x (cells_of set ds))
    (sym (any_append (λ (c : SiteId × FieldId × List ℕ). (c.0.0 == s && c.1.0 == f) && has c.2 x) (with_set (λ zs. (record { 0 = d.0 }, record { 0 = d.1 }, zs)) (set d)) (cells_of set ds)) ∙ e)) [
      | inl here ↦
          (let one = in_entry (set d) here in
          let same = pair_is d one.0 in
          (ap (λ (b : Bool). b || list_any (is_pair (s, f)) ds) one.0, subst (λ (q : ℕ × ℕ). has (set q) x ≡ true) same one.1))
      | inr later ↦ (let rest = cells_tell set s f x ds later in (or_right (is_pair (s, f) d) (list_any (is_pair (s, f)) ds) rest.0, rest.1))
    ]
  where
    in_entry : (ys : List ℕ) → cell_says s f x (with_set (λ zs. (record { 0 = d.0 }, record { 0 = d.1 }, zs)) ys) ≡ true → (is_pair (s, f) d ≡ true) × (has ys x ≡ true)
    in_entry [] h = absurd cc
    in_entry (y ∷ ys) h = and_parts (is_pair (s, f) d) (has (y ∷ ys) x) (sym (or_none (is_pair (s, f) d && has (y ∷ ys) x)) ∙ h)

    pair_is : (q : ℕ × ℕ) → is_pair (s, f) q ≡ true → q ≡ (s, f)
    pair_is q h =
        let parts = and_parts (q.0 == s) (q.1 == f) h in
        ap (λ (n : ℕ). (n, q.1)) (eqb-true q.0 s parts.0) ∙ ap (λ (n : ℕ). (s, n)) (eqb-true q.1 f parts.1)

told_cells : (set : ℕ × ℕ → List ℕ) (s f x : ℕ) (ds : List (ℕ × ℕ)) → list_any (is_pair (s, f)) ds ≡ true → has (set (s, f)) x ≡ true
    → cell_says s f x (cells_of set ds) ≡ true
told_cells set s f x [] e h = absurd cc
told_cells set s f x (d ∷ ds) e h =
    any_append (λ (c : SiteId × FieldId × List ℕ). (c.0.0 == s && c.1.0 == f) && has c.2 x) (with_set (λ zs. (record { 0 = d.0 }, record { 0 = d.1 }, zs)) (set d)) (cells_of set ds)
    ∙ elim (or_cases (is_pair (s, f) d) (list_any (is_pair (s, f)) ds) e) [
      | inl here ↦
          (let same = pair_is d here in
          let one : cell_says s f x (with_set (λ zs. (record { 0 = d.0 }, record { 0 = d.1 }, zs)) (set d)) ≡ true =
          entry_says (λ (c : SiteId × FieldId × List ℕ). c.0.0 == s && c.1.0 == f) (λ c. c.2) (λ zs. (record { 0 = d.0 }, record { 0 = d.1 }, zs)) x (λ zs. here) (λ zs. refl) (set d)
          ∙ subst (λ (q : ℕ × ℕ). has (set q) x ≡ true) (sym same) h in
          ap (λ (b : Bool). b || cell_says s f x (cells_of set ds)) one)
      | inr later ↦ or_right (cell_says s f x (with_set (λ zs. (record { 0 = d.0 }, record { 0 = d.1 }, zs)) (set d))) (cell_says s f x (cells_of set ds)) (told_cells set s f x ds later h)
    ]
  where
    pair_is : (q : ℕ × ℕ) → is_pair (s, f) q ≡ true → q ≡ (s, f)
    pair_is q h =
        let parts = and_parts (q.0 == s) (q.1 == f) h in
        ap (λ (n : ℕ). (n, q.1)) (eqb-true q.0 s parts.0) ∙ ap (λ (n : ℕ). (s, n)) (eqb-true q.1 f parts.1)

cells_listed : (set : ℕ × ℕ → List ℕ) (ds : List (ℕ × ℕ)) → ((d : ℕ × ℕ) → IsAscending (set d)) → AllByRecursion (λ c. IsListedSet c.2) (cells_of set ds)
cells_listed set [] all = tt
cells_listed set (d ∷ ds) all = by (set d) (all d) (cells_listed set ds all)
  where
    by : (ys : List ℕ) → IsAscending ys → AllByRecursion (λ c. IsListedSet c.2) (cells_of set ds)
        → AllByRecursion (λ c. IsListedSet c.2) (with_set {X = SiteId × FieldId × List ℕ} (λ zs. (record { 0 = d.0 }, record { 0 = d.1 }, zs)) ys ++ cells_of set ds)
    by [] one rest = rest
    by (y ∷ ys) one rest = (one, rest)

cells_below : (set : ℕ × ℕ → List ℕ) (k : List ℕ) (ds : List (ℕ × ℕ)) → AllByRecursion (λ e. IsBelow k e) (map pair_key ds) → AllByRecursion (λ e. IsBelow k e) (map cell_key (cells_of set ds))
cells_below set k [] all = tt
cells_below set k (d ∷ ds) all = by (set d) (cells_below set k ds all.1)
  where
    by : (ys : List ℕ) → AllByRecursion (λ e. IsBelow k e) (map cell_key (cells_of set ds))
        → AllByRecursion (λ e. IsBelow k e) (map cell_key (with_set {X = SiteId × FieldId × List ℕ} (λ zs. (record { 0 = d.0 }, record { 0 = d.1 }, zs)) ys ++ cells_of set ds))
    by [] rest = rest
    by (y ∷ ys) rest = (all.0, rest)

cells_ascend : (set : ℕ × ℕ → List ℕ) (ds : List (ℕ × ℕ)) → AscendBy pair_key ds → AscendBy cell_key (cells_of set ds)
unfolding IsStrictlySortedBy
cells_ascend set [] all = tt
cells_ascend set (d ∷ ds) all = by (set d) (cells_ascend set ds all.1)
  where
    by : (ys : List ℕ) → AscendBy cell_key (cells_of set ds) → AscendBy cell_key (with_set {X = SiteId × FieldId × List ℕ} (λ zs. (record { 0 = d.0 }, record { 0 = d.1 }, zs)) ys ++ cells_of set ds)
    by [] rest = rest
    by (y ∷ ys) rest = (cells_below set (pair_key d) ds all.0, rest)

-- ---- the place of a pair

pub record HasPlace (keys : List (ℕ × ℕ)) (d : ℕ × ℕ) (o : Option ℕ) : Type 0 where
  pub place : ℕ
  pub is : o ≡ Some place
  pub stands : slice_get keys place ≡ Some d

first_place : (test : ℕ × ℕ → Bool) (xs : List (ℕ × ℕ)) (k : ℕ) (x : ℕ × ℕ) → slice_get xs k ≡ Some x → test x ≡ true → position_or_len test xs < length xs
first_place test [] k x at e = absurd cc
first_place test (y ∷ xs) zero x at e = by (test y) (ap test (some_is y x at) ∙ e)
  where
    by : (b : Bool) → b ≡ true → cond (not b) (1 + position_or_len test xs) 0 < suc (length xs)
    by true is = omega arith
    by false is = absurd cc
first_place test (y ∷ xs) (suc k) x at e = by (test y) (first_place test xs k x at e)
  where
    by : (b : Bool) → position_or_len test xs < length xs → cond (not b) (1 + position_or_len test xs) 0 < suc (length xs)
    by true rest = omega arith
    by false rest = omega arith

pub is_own : (d e : ℕ × ℕ) → (d.0 == e.0 && d.1 == e.1) ≡ true → e ≡ d
is_own d e h =
    let parts = and_parts (d.0 == e.0) (d.1 == e.1) h in
    ap (λ (n : ℕ). (n, e.1)) (sym (eqb-true d.0 e.0 parts.0)) ∙ ap (λ (n : ℕ). (d.0, n)) (sym (eqb-true d.1 e.1 parts.1))

pub found_place : (keys : List (ℕ × ℕ)) (d : ℕ × ℕ) (place : ℕ) → position (λ e. d.0 == e.0 && d.1 == e.1) keys ≡ Some place → slice_get keys place ≡ Some d
found_place keys d place e =
    let found = position-Some (λ (e : ℕ × ℕ). d.0 == e.0 && d.1 == e.1) keys place d e in
    slice_get-get_or keys place d found.0 ∙ ap (λ (q : ℕ × ℕ). Some q) (is_own d (get_or keys place d) found.1)

pub pair_place : (keys : List (ℕ × ℕ)) (d : ℕ × ℕ) (k : ℕ) → slice_get keys k ≡ Some d → HasPlace keys d (position (λ e. d.0 == e.0 && d.1 == e.1) keys)
pair_place keys d k e =
    let test : ℕ × ℕ → Bool = λ e. d.0 == e.0 && d.1 == e.1 in
    let inside : position_or_len test keys < length keys = first_place test keys k d e (and_both (d.0 == d.0) (d.1 == d.1) (eq-eqb d.0 d.0 refl) (eq-eqb d.1 d.1 refl)) in
    let is : position test keys ≡ Some (position_or_len test keys) =
    ap (λ (b : Bool). cond b (let o : Option ℕ = Some (position_or_len test keys) in o) None) (less_is (position_or_len test keys) (length keys) inside) in
    record { place = position_or_len test keys; is = is; stands = found_place keys d (position_or_len test keys) is }
  where
    less_is : (a b : ℕ) → a < b → nat_lt a b ≡ true
    less_is a b h = grind arith

-- a pair among pairs stands somewhere
pub pair_among : (ds : List (ℕ × ℕ)) (d : ℕ × ℕ) → list_any (is_pair d) ds ≡ true → (k : ℕ) × (slice_get ds k ≡ Some d)
pair_among [] d e = absurd cc
pair_among (q ∷ ds) d e = elim (or_cases (is_pair d q) (list_any (is_pair d) ds) e) [
  | inl here ↦
      (let parts = and_parts (q.0 == d.0) (q.1 == d.1) here in
      (0, ap (λ (n : ℕ). Some (n, q.1)) (eqb-true q.0 d.0 parts.0) ∙ ap (λ (n : ℕ). Some (d.0, n)) (eqb-true q.1 d.1 parts.1)))
  | inr later ↦ (let rest = pair_among ds d later in (suc rest.0, rest.1))
]

pub among_pairs : (ds : List (ℕ × ℕ)) (d : ℕ × ℕ) (k : ℕ) → slice_get ds k ≡ Some d → list_any (is_pair d) ds ≡ true
among_pairs [] d k e = absurd cc
among_pairs (q ∷ ds) d zero e =
    let same = some_is q d e in
    ap (λ (b : Bool). b || list_any (is_pair d) ds)
    (and_both (q.0 == d.0) (q.1 == d.1) (eq-eqb q.0 d.0 (ap (λ (r : ℕ × ℕ). r.0) same)) (eq-eqb q.1 d.1 (ap (λ (r : ℕ × ℕ). r.1) same)))
among_pairs (q ∷ ds) d (suc k) e = or_right (is_pair d q) (list_any (is_pair d) ds) (among_pairs ds d k e)

pair_contained : (ds : List (ℕ × ℕ)) (d : ℕ × ℕ) → (k : ℕ) × (slice_get ds k ≡ Some d) → Contains ds d
pair_contained [] d at = absurd cc
pair_contained (q ∷ ds) d at = by (λ k e. pair_contained ds d (k, e)) at.0 at.1
  where
    by : ((k : ℕ) → slice_get ds k ≡ Some d → Contains ds d) → (k : ℕ) → slice_get (q ∷ ds) k ≡ Some d → Contains (q ∷ ds) d
    by more zero e = (0, omega arith, some_is q d e)
    by more (suc k) e = let rest = more k e in (suc rest.0, omega (arith, rest.1), rest.2)

pair_stands : (ds : List (ℕ × ℕ)) (d : ℕ × ℕ) → Contains ds d → (k : ℕ) × (slice_get ds k ≡ Some d)
pair_stands ds d c = (c.0, slice_get-get_or ds c.0 d c.1 ∙ ap (λ (q : ℕ × ℕ). Some q) c.2)

-- ---- calls

calls_say : (n m : ℕ) (ds : List (ℕ × ℕ)) → list_any (λ (c : NodeId × MethodId). c.0.0 == n && c.1.0 == m) (map call_of ds) ≡ list_any (is_pair (n, m)) ds
calls_say n m [] = refl
calls_say n m (d ∷ ds) = ap (λ (b : Bool). is_pair (n, m) d || b) (calls_say n m ds)

calls_keys : (ds : List (ℕ × ℕ)) → map call_key (map call_of ds) ≡ map pair_key ds
calls_keys [] = refl
calls_keys (d ∷ ds) = ap (λ l. pair_key d ∷ l) (calls_keys ds)

-- ---- numbers

number_in : (xs : List ℕ) (x : ℕ) → has xs x ≡ true → Contains xs x
number_in [] x e = absurd cc
number_in (y ∷ xs) x e = elim (or_cases (y == x) (has xs x) e) [
  | inl here ↦ (0, omega arith, eqb-true y x here)
  | inr later ↦ (let rest = number_in xs x later in (suc rest.0, omega (arith, rest.1), rest.2))
]

number_has : (xs : List ℕ) (x : ℕ) → Contains xs x → has xs x ≡ true
number_has [] x c = let less : c.0 < 0 = c.1 in absurd (omega arith)
number_has (y ∷ xs) x c = by (λ k less e. number_has xs x (k, less, e)) c.0 c.1 c.2
  where
    by : ((k : ℕ) → k < length xs → get_or xs k x ≡ x → has xs x ≡ true) → (k : ℕ) → k < suc (length xs) → get_or (y ∷ xs) k x ≡ x → has (y ∷ xs) x ≡ true
    by more zero less e = ap (λ (b : Bool). b || has xs x) (eq-eqb y x e)
    by more (suc k) less e = or_right (y == x) (has xs x) (more k (omega (arith, less)) e)

-- ---- a step of each loop

pub take_next : (first n : ℕ) (sets : List (List ℕ)) (xs : List ℕ) → first + n < length sets → xs ≡ set_at sets (first + n)
    → take (n + 1) (drop first sets) ≡ take n (drop first sets) ++ xs ∷ []
take_next first n sets xs less e =
    take_more (drop first sets) n [] (let all = length_drop first sets (omega (arith, less)) in omega (arith, less, all))
    ∙ ap (λ (ys : List ℕ). take n (drop first sets) ++ ys ∷ []) (at_drop first sets n ∙ sym e)

pub left_next : (old now now' : List (List ℕ)) (n : ℕ) → ((k : ℕ) → n ≤ k → set_at now k ≡ set_at old k) → now' ≡ slice_set now n [] → (k : ℕ) → n + 1 ≤ k → set_at now' k ≡ set_at old k
left_next old now now' n left e k less =
    ap (λ (ss : List (List ℕ)). set_at ss k) e
    ∙ get_or-set_other now n k [] [] (λ same. let no_way : ⊥ = omega (arith, same, less) in no_way) ∙ left k (omega (arith, less))

pub elements_push : (n : ℕ) (sets : List (List ℕ)) (xs : List ℕ)
    → elements_from n (sets ++ xs ∷ []) ≡ elements_from n sets ++ with_set (λ ys. (let s : SiteId = record { 0 = n + length sets } in s, ys)) xs
elements_push n [] xs =
    append_none (with_set (λ ys. (let s : SiteId = record { 0 = n } in s, ys)) xs)
    ∙ ap (λ (k : ℕ). with_set (λ ys. (let s : SiteId = record { 0 = k } in s, ys)) xs) (let e : n ≡ n + 0 = omega arith in e)
  where
    append_none : {X : Type 0} (ys : List X) → ys ++ [] ≡ ys
    append_none [] = refl
    append_none (y ∷ ys) = ap (λ l. y ∷ l) (append_none ys)
elements_push n (ys ∷ sets) xs =
    ap (λ l. with_set (λ zs. (let s : SiteId = record { 0 = n } in s, zs)) ys ++ l) (elements_push (n + 1) sets xs)
    ∙ sym (append_thrice (with_set (λ zs. (let s : SiteId = record { 0 = n } in s, zs)) ys) (elements_from (n + 1) sets) (with_set (λ zs. (let s : SiteId = record { 0 = (n + 1) + length sets } in s, zs)) xs))
    ∙ ap (λ (k : ℕ). elements_from n (ys ∷ sets) ++ with_set (λ zs. (let s : SiteId = record { 0 = k } in s, zs)) xs) (let e : (n + 1) + length sets ≡ n + suc (length sets) = omega arith in e)

pub cells_push : (set : ℕ × ℕ → List ℕ) (ds : List (ℕ × ℕ)) (d : ℕ × ℕ)
    → cells_of set (ds ++ d ∷ []) ≡ cells_of set ds ++ with_set (λ ys. (let s : SiteId = record { 0 = d.0 } in s, let f : FieldId = record { 0 = d.1 } in f, ys)) (set d)
cells_push set [] d = append_none (with_set (λ ys. (let s : SiteId = record { 0 = d.0 } in s, let f : FieldId = record { 0 = d.1 } in f, ys)) (set d))
  where
    append_none : {X : Type 0} (ys : List X) → ys ++ [] ≡ ys
    append_none [] = refl
    append_none (y ∷ ys) = ap (λ l. y ∷ l) (append_none ys)
cells_push set (q ∷ ds) d =
    ap (λ l. with_set (λ ys. (let s : SiteId = record { 0 = q.0 } in s, let f : FieldId = record { 0 = q.1 } in f, ys)) (set q) ++ l) (cells_push set ds d)
    ∙ sym (append_thrice (with_set (λ ys. (let s : SiteId = record { 0 = q.0 } in s, let f : FieldId = record { 0 = q.1 } in f, ys)) (set q)) (cells_of set ds)
    (with_set (λ ys. (let s : SiteId = record { 0 = d.0 } in s, let f : FieldId = record { 0 = d.1 } in f, ys)) (set d)))

-- a step along the cells: the next one wasn't met before
pub is_pair_of : (d e : ℕ × ℕ) → is_pair d e ≡ true → e ≡ d
is_pair_of d e h =
    let parts = and_parts (e.0 == d.0) (e.1 == d.1) h in
    ap (λ (n : ℕ). (n, e.1)) (eqb-true e.0 d.0 parts.0) ∙ ap (λ (n : ℕ). (d.0, n)) (eqb-true e.1 d.1 parts.1)

pub not_before : (ds : List (ℕ × ℕ)) (i : ℕ) (d : ℕ × ℕ) → AreOnce ds → slice_get ds i ≡ Some d → list_any (is_pair d) (take i ds) ≡ false
not_before ds i d once at = by (list_any (is_pair d) (take i ds)) refl
  where
    in_front : (xs : List (ℕ × ℕ)) (n k : ℕ) (q : ℕ × ℕ) → slice_get (take n xs) k ≡ Some q → (k < n) × (slice_get xs k ≡ Some q)
    in_front xs zero k q e = absurd cc
    in_front [] (suc n) k q e = absurd cc
    in_front (x ∷ xs) (suc n) zero q e = (omega arith, e)
    in_front (x ∷ xs) (suc n) (suc k) q e = let rest = in_front xs n k q e in (omega (arith, rest.0), rest.1)

    by : (b : Bool) → list_any (is_pair d) (take i ds) ≡ b → list_any (is_pair d) (take i ds) ≡ false
    by false e = e
    by true e =
        let found = pair_among (take i ds) d e in
        let before = in_front ds i found.0 d found.1 in
        let same : found.0 ≡ i = once found.0 i d before.1 at in
        absurd (omega (arith, same, before.0))

pub cell_kept : (keys ordered : List (ℕ × ℕ)) (set now : ℕ → List ℕ) (i : ℕ) (d : ℕ × ℕ) → AreOnce ordered → slice_get ordered i ≡ Some d
    → ((k : ℕ) (e : ℕ × ℕ) → slice_get keys k ≡ Some e → list_any (is_pair e) (take i ordered) ≡ false → now k ≡ set k) → cell_set keys now d ≡ cell_set keys set d
cell_kept keys ordered set now i d once at left = by (position (λ e. d.0 == e.0 && d.1 == e.1) keys) refl
  where
    by : (o : Option ℕ) → position (λ e. d.0 == e.0 && d.1 == e.1) keys ≡ o → option_map_or now o [] ≡ option_map_or set o []
    by None e = refl
    by (Some k) e = left k d (found_place keys d k e) (not_before ordered i d once at)

pub any_push : (test : ℕ × ℕ → Bool) (ds : List (ℕ × ℕ)) (d : ℕ × ℕ) → list_any test (ds ++ d ∷ []) ≡ false → (list_any test ds ≡ false) × (test d ≡ false)
any_push test [] d e = (refl, sym (or_none (test d)) ∙ e)
any_push test (q ∷ ds) d e = by (any_push test ds d) (test q) refl e
  where
    by : (list_any test (ds ++ d ∷ []) ≡ false → (list_any test ds ≡ false) × (test d ≡ false)) → (b : Bool) → test q ≡ b → (b || list_any test (ds ++ d ∷ [])) ≡ false
        → ((test q || list_any test ds) ≡ false) × (test d ≡ false)
    by more true is h = absurd cc
    by more false is h = let rest = more h in (ap (λ (c : Bool). c || list_any test ds) is ∙ rest.0, rest.1)

-- ---- parts that were left as they were

lists_same : (a b : List (List ℕ)) → length a ≡ length b → ((k : ℕ) → set_at a k ≡ set_at b k) → a ≡ b
lists_same [] [] len e = refl
lists_same [] (y ∷ b) len e = absurd (omega (arith, len))
lists_same (x ∷ a) [] len e = absurd (omega (arith, len))
lists_same (x ∷ a) (y ∷ b) len e = ap (λ (z : List ℕ). z ∷ a) (e 0) ∙ ap (λ (l : List (List ℕ)). y ∷ l) (lists_same a b (omega (arith, len)) (λ k. e (suc k)))

pub drop_same : (m : ℕ) (a b : List (List ℕ)) → m ≤ length a → length a ≡ length b → ((k : ℕ) → m ≤ k → set_at a k ≡ set_at b k) → drop m a ≡ drop m b
drop_same m a b within len e =
    lists_same (drop m a) (drop m b) (let one = length_drop m a within in let other = length_drop m b (omega (arith, within, len)) in omega (arith, one, other, len))
    (λ k. at_drop m a k ∙ e (m + k) (omega arith) ∙ sym (at_drop m b k))

pub drop_none : (xs : List (List ℕ)) → drop 0 xs ≡ xs
drop_none [] = refl
drop_none (x ∷ xs) = refl

cell_same : (keys : List (ℕ × ℕ)) (f g : ℕ → List ℕ) → ((k : ℕ) → f k ≡ g k) → (d : ℕ × ℕ) → cell_set keys f d ≡ cell_set keys g d
cell_same keys f g e d = by (position (λ q. d.0 == q.0 && d.1 == q.1) keys)
  where
    by : (o : Option ℕ) → option_map_or f o [] ≡ option_map_or g o []
    by None = refl
    by (Some k) = e k

cells_same : (keys : List (ℕ × ℕ)) (f g : ℕ → List ℕ) → ((k : ℕ) → f k ≡ g k) → (ds : List (ℕ × ℕ)) → cells_of (cell_set keys f) ds ≡ cells_of (cell_set keys g) ds
cells_same keys f g e [] = refl
cells_same keys f g e (d ∷ ds) =
    ap (λ (ys : List ℕ). with_set (λ zs. (let s : SiteId = record { 0 = d.0 } in s, let f : FieldId = record { 0 = d.1 } in f, zs)) ys ++ cells_of (cell_set keys f) ds) (cell_same keys f g e d)
    ∙ ap (λ l. with_set (λ zs. (let s : SiteId = record { 0 = d.0 } in s, let f : FieldId = record { 0 = d.1 } in f, zs)) (cell_set keys g d) ++ l) (cells_same keys f g e ds)

pub listed_same : (keys : List (ℕ × ℕ)) (f g : ℕ → List ℕ) (list : List (SiteId × FieldId × List ℕ)) → ((k : ℕ) → f k ≡ g k) → AreListedCells keys f list → AreListedCells keys g list
listed_same keys f g list e is = record { ordered = is.ordered; pairs = is.pairs; is = is.is ∙ cells_same keys f g e is.ordered }

-- ---- all of it

pub is_listing : (h : List ClassInfo) (l : Layout) (p : RegProgram) (g : Found) (facts : Facts) → l.registers ≡ register_count p → l.fields ≡ field_count h → IsLaid l g
    → IsLeast g.solver.constraints g.solver.sets → AreOnce g.cells.keys → IsListed l g facts → IsListing h l p g facts
is_listing h l p g facts registers fields laid least once is =
    let sets = g.solver.sets in
    let cells = g.cells.keys in
    let r = l.registers in
    let f = l.fields in
    let s = l.sites in
    let count : length sets ≡ r + f + s + length cells = omega (arith, least.count, laid.count, laid.first) in
    let ascends : (k : ℕ) → IsAscending (set_at sets k) = ascending_at sets least.ascending in
    let after : length (drop r sets) + r ≡ length sets = length_drop r sets (omega (arith, count)) in
    let later : length (drop (r + f) sets) + (r + f) ≡ length sets = length_drop (r + f) sets (omega (arith, count)) in
    let of_cell : ℕ × ℕ → List ℕ = cell_set cells (λ place. set_at sets (l.first_cell + place)) in
    let elements : List (List ℕ) = take s (drop (r + f) sets) in
    let elem_at : (k x : ℕ) → (sets_of facts).elem k x ≡ has (set_at elements k) x =
    λ k x. ap (elem_says k x) is.elems ∙ ap (λ (n : ℕ). elem_says n x (elements_from 0 elements)) (let e : k ≡ 0 + k = omega arith in e) ∙ elements_at 0 k x elements in
    record {
      reg = λ k x less.
          ap (λ (ss : List (List ℕ)). fact_at ss k x) is.regs ∙ fact_is (take r sets) k x ∙ ap (λ (xs : List ℕ). has xs x) (at_take r sets k less);
      no_reg = λ k x past.
          ap (λ (ss : List (List ℕ)). fact_at ss k x) is.regs ∙ fact_is (take r sets) k x ∙ ap (λ (xs : List ℕ). has xs x) (past_take r sets k past);
      static = λ k x less.
          ap (λ (ss : List (List ℕ)). fact_at ss k x) is.statics ∙ fact_is (take f (drop r sets)) k x
          ∙ ap (λ (xs : List ℕ). has xs x) (at_take f (drop r sets) k less ∙ at_drop r sets k);
      no_static = λ k x past.
          ap (λ (ss : List (List ℕ)). fact_at ss k x) is.statics ∙ fact_is (take f (drop r sets)) k x ∙ ap (λ (xs : List ℕ). has xs x) (past_take f (drop r sets) k past);
      elem = λ k x less. elem_at k x ∙ ap (λ (xs : List ℕ). has xs x) (at_take s (drop (r + f) sets) k less ∙ at_drop (r + f) sets k);
      no_elem = λ k x past. elem_at k x ∙ ap (λ (xs : List ℕ). has xs x) (past_take s (drop (r + f) sets) k past);
      cell = λ a b x. (
        (λ e.
            let told = cells_tell of_cell a b x is.cells.ordered (sym (ap (cell_says a b x) is.cells.is) ∙ e) in
            let at = pair_among cells (a, b) (sym (is.cells.pairs.same (a, b)) ∙ told.0) in
            let place = pair_place cells (a, b) at.0 at.1 in
            record {
              place = place.place;
              key = place.stands;
              member = sym (ap (λ (o : Option ℕ). has (option_map_or (λ (k : ℕ). set_at sets (l.first_cell + k)) o []) x) place.is) ∙ told.1;
            }),
        (λ c.
            let place = pair_place cells (a, b) c.place c.key in
            let same : place.place ≡ c.place = once place.place c.place (a, b) place.stands c.key in
            ap (cell_says a b x) is.cells.is
            ∙ told_cells of_cell a b x is.cells.ordered (is.cells.pairs.same (a, b) ∙ among_pairs cells (a, b) c.place c.key)
            (ap (λ (o : Option ℕ). has (option_map_or (λ (k : ℕ). set_at sets (l.first_cell + k)) o []) x) place.is ∙ ap (λ (k : ℕ). has (set_at sets (l.first_cell + k)) x) same ∙ c.member)),
      );
      call = λ n m. (
        (λ e. pair_contained g.calls.keys (n, m) (pair_among g.calls.keys (n, m) (sym (is.calls.pairs.same (n, m)) ∙ sym (calls_say n m is.calls.ordered) ∙ sym (ap (list_any (λ c. c.0.0 == n && c.1.0 == m)) is.calls.is) ∙ e))),
        (λ c.
            let at = pair_stands g.calls.keys (n, m) c in
            ap (list_any (λ c. c.0.0 == n && c.1.0 == m)) is.calls.is ∙ calls_say n m is.calls.ordered ∙ is.calls.pairs.same (n, m) ∙ among_pairs g.calls.keys (n, m) at.0 at.1),
      );
      reached = λ m. ((λ e. number_in g.reached.keys m (sym (is.reached m) ∙ e)), (λ c. is.reached m ∙ number_has g.reached.keys m c));
      listed = record {
        regs = ap length is.regs ∙ length_take r sets (omega (arith, count)) ∙ registers;
        regs_ascend = subst (λ (ss : List (List ℕ)). AllByRecursion IsAscending ss) (sym is.regs) (all_by_at (take r sets) (taken r sets ascends));
        statics = ap length is.statics ∙ length_take f (drop r sets) (omega (arith, count, after)) ∙ fields;
        statics_ascend = subst (λ (ss : List (List ℕ)). AllByRecursion IsAscending ss) (sym is.statics) (all_by_at (take f (drop r sets)) (taken f (drop r sets) (dropped r sets ascends)));
        cells = subst (λ cs. AllByRecursion (λ c. IsListedSet c.2) cs) (sym is.cells.is)
            (cells_listed of_cell is.cells.ordered (λ d. of_place (position (λ e. d.0 == e.0 && d.1 == e.1) cells) ascends));
        cells_ascend = subst (AscendBy cell_key) (sym is.cells.is) (cells_ascend of_cell is.cells.ordered is.cells.pairs.ascend);
        elems = subst (λ es. AllByRecursion (λ e. IsListedSet e.1) es) (sym is.elems) (elements_listed 0 elements (all_by_at elements (taken s (drop (r + f) sets) (dropped (r + f) sets ascends))));
        elems_ascend = subst (AscendBy elem_key) (sym is.elems) (elements_ascend 0 elements);
        calls_ascend = subst (AscendBy call_key) (sym is.calls.is) (by_keys (map call_key (map call_of is.calls.ordered)) (map pair_key is.calls.ordered) (calls_keys is.calls.ordered) is.calls.pairs.ascend);
        reached_ascends = is.reached_ascends;
      };
    }
  where
    of_place : (o : Option ℕ) → ((k : ℕ) → IsAscending (set_at g.solver.sets k)) → IsAscending (option_map_or (λ (k : ℕ). set_at g.solver.sets (l.first_cell + k)) o [])
    of_place None all = tt
    of_place (Some k) all = all (l.first_cell + k)

    by_keys : (xs ys : List (List ℕ)) → xs ≡ ys → IsStrictlySortedBy (slice_cmp nat_cmp) ys → IsStrictlySortedBy (slice_cmp nat_cmp) xs
    by_keys xs ys e all = subst (λ zs. IsStrictlySortedBy (slice_cmp nat_cmp) zs) (sym e) all

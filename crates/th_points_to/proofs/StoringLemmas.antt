-- Arrays of a type are a subtype of arrays of another exactly where the type is of the other; and filters
-- have what may stand in arrays.
use Rattle.std.proofs.Common.{◌≡◌, inl, inr, ℕ, ◌<◌, ◌≤◌, ◌+◌, ◌-◌, ◌==◌, zero, suc, Bool, true, false, List, [], ◌∷◌, ◌++◌, length, get_or, take, drop, Option, Some, None, slice_get, refl, sym, ap, subst, arith, ◌∙◌, if◌then◌else◌}
use Rattle.std.specs.Prelude.{◌||◌}
use Rattle.std.specs.List.{AllByRecursion, slice_index_or}
use Rattle.std.specs.Option.{option_map_or, option_and_then}
use Rattle.std.proofs.lemmas.List.{length-append, take_more}
use Rattle.std.proofs.lemmas.Bool.{cases_eq, eq-eqb, ne_eqb}
use Rattle.th_base.specs.declared.class.ClassInfo.{ClassInfo}
use Rattle.th_base.specs.IdSet.{has, IsAscending}
use Rattle.th_base.specs.Subtype.{JavaType, ClassType, ArrayType, PrimitiveType, described_type, named_type, is_type_subtype, is_subtype}
use Rattle.th_incl.specs.Least.{set_at}
use Rattle.th_ir.specs.declared.program.RegProgram.{RegProgram}
use Rattle.th_ir.specs.declared.program.Site.{Site}
use Rattle.th_ir.specs.Program.{site_at}
use Rattle.th_ir.specs.Sites.{component_kind, is_array_text, is_ref_elem}
use Rattle.th_ir.specs.WellFormed.{places_from}
use Rattle.th_ir.proofs.Plain.{get_within}
use Rattle.th_points_to.specs.declared.filters.Filters.{Filters}
use Rattle.th_points_to.specs.Storing.{array_of, stands_in, storable, is_ref_text, IsMade, NumbersSite, KeepsTypes}
use Rattle.th_points_to.specs.Tables.{AreFilters}

take_front : (ys : List ℕ) (z : ℕ) → take (length (ys ++ z ∷ []) - 1) (ys ++ z ∷ []) ≡ ys
take_front ys z = subst (λ (n : ℕ). take n (ys ++ z ∷ []) ≡ ys) (sym count) (front ys)
  where
    count : length (ys ++ z ∷ []) - 1 ≡ length ys
    count = omega (arith, length-append ys (z ∷ []))

    front : (xs : List ℕ) → take (length xs) (xs ++ z ∷ []) ≡ xs
    front [] = refl
    front (x ∷ xs) = ap (λ l. x ∷ l) (front xs)

-- the component type of arrays of a class or array type
array_named : (class : List ℕ) → named_type (array_of class) ≡ ArrayType (named_type class)
array_named [] = refl
array_named (x ∷ xs) = by (x == 91) refl
  where
    by : (b : Bool) → (x == 91) ≡ b → named_type (if b then 91 ∷ x ∷ xs else 91 ∷ 76 ∷ x ∷ xs ++ 59 ∷ []) ≡ ArrayType (if b then ArrayType (described_type xs) else ClassType (x ∷ xs))
    by true e = ap (λ (b : Bool). ArrayType (if b then ArrayType (described_type xs) else if x == 76 then ClassType (take (length xs - 1) xs) else PrimitiveType (x ∷ xs))) e
    by false e = ap (λ (ys : List ℕ). ArrayType (ClassType ys)) (take_front (x ∷ xs) 59)

pub stands_by : (h : List ClassInfo) (array : List ℕ) (site : Site) → is_array_text array ≡ true → is_subtype h (array_of site.class) array ≡ stands_in h array site
stands_by h [] site e = absurd cc
stands_by h (x ∷ xs) site e =
    ap (λ (t : JavaType). is_type_subtype h t (named_type (x ∷ xs))) (array_named site.class)
    ∙ ap (λ (b : Bool). is_type_subtype h (ArrayType (named_type site.class)) (if b then ArrayType (described_type xs) else ClassType (x ∷ xs))) e

-- ---- places

append_none : (xs : List ℕ) → xs ++ [] ≡ xs
append_none [] = refl
append_none (x ∷ xs) = ap (λ l. x ∷ l) (append_none xs)

pub places_push : {X : Type 0} (meets : X → Bool) (n : ℕ) (xs : List X) (x : X)
    → places_from meets n (xs ++ x ∷ []) ≡ places_from meets n xs ++ (if meets x then (n + length xs) ∷ [] else [])
places_push meets n [] x = ap (λ (k : ℕ). if meets x then k ∷ [] else []) (let e : n ≡ n + 0 = omega arith in e)
places_push meets n (y ∷ xs) x =
    by (meets y)
    (places_push meets (n + 1) xs x ∙ ap (λ (k : ℕ). places_from meets (n + 1) xs ++ (if meets x then k ∷ [] else [])) (let e : (n + 1) + length xs ≡ n + suc (length xs) = omega arith in e))
  where
    by : (b : Bool) → places_from meets (n + 1) (xs ++ x ∷ []) ≡ places_from meets (n + 1) xs ++ (if meets x then (n + suc (length xs)) ∷ [] else [])
        → (if b then n ∷ places_from meets (n + 1) (xs ++ x ∷ []) else places_from meets (n + 1) (xs ++ x ∷ []))
        ≡ (if b then n ∷ places_from meets (n + 1) xs else places_from meets (n + 1) xs) ++ (if meets x then (n + suc (length xs)) ∷ [] else [])
    by true e = ap (λ l. n ∷ l) e
    by false e = e

places_above : {X : Type 0} (meets : X → Bool) (k n : ℕ) (xs : List X) → k < n → AllByRecursion (λ y. k < y) (places_from meets n xs)
places_above meets k n [] less = tt
places_above meets k n (x ∷ xs) less = by (meets x) (places_above meets k (n + 1) xs (omega arith))
  where
    by : (b : Bool) → AllByRecursion (λ y. k < y) (places_from meets (n + 1) xs) → AllByRecursion (λ y. k < y) (if b then n ∷ places_from meets (n + 1) xs else places_from meets (n + 1) xs)
    by true rest = (less, rest)
    by false rest = rest

pub places_ascend : {X : Type 0} (meets : X → Bool) (n : ℕ) (xs : List X) → IsAscending (places_from meets n xs)
places_ascend meets n [] = tt
places_ascend meets n (x ∷ xs) = by (meets x) (places_ascend meets (n + 1) xs)
  where
    by : (b : Bool) → IsAscending (places_from meets (n + 1) xs) → IsAscending (if b then n ∷ places_from meets (n + 1) xs else places_from meets (n + 1) xs)
    by true rest = (places_above meets n (n + 1) xs (omega arith), rest)
    by false rest = rest

not_in_places : {X : Type 0} (meets : X → Bool) (k n : ℕ) (xs : List X) → k < n → has (places_from meets n xs) k ≡ false
not_in_places meets k n [] less = refl
not_in_places meets k n (x ∷ xs) less = by (meets x) (not_in_places meets k (n + 1) xs (omega arith))
  where
    by : (b : Bool) → has (places_from meets (n + 1) xs) k ≡ false → has (if b then n ∷ places_from meets (n + 1) xs else places_from meets (n + 1) xs) k ≡ false
    by true rest = ap (λ (b : Bool). b || has (places_from meets (n + 1) xs) k) (ne_eqb n k (λ e. let no_way : ⊥ = omega (arith, e, less) in no_way)) ∙ rest
    by false rest = rest

pub in_places : {X : Type 0} (meets : X → Bool) (n k : ℕ) (xs : List X) → has (places_from meets n xs) (n + k) ≡ option_map_or meets (slice_get xs k) false
in_places meets n k [] = refl
in_places meets n zero (x ∷ xs) = by (meets x)
  where
    here : (n == (n + 0)) ≡ true
    here = eq-eqb n (n + 0) (omega arith)

    by : (b : Bool) → has (if b then n ∷ places_from meets (n + 1) xs else places_from meets (n + 1) xs) (n + 0) ≡ b
    by true = ap (λ (b : Bool). b || has (places_from meets (n + 1) xs) (n + 0)) here
    by false = not_in_places meets (n + 0) (n + 1) xs (omega arith)
in_places meets n (suc k) (x ∷ xs) =
    by (meets x) (ap (has (places_from meets (n + 1) xs)) (let e : n + suc k ≡ (n + 1) + k = omega arith in e) ∙ in_places meets (n + 1) k xs)
  where
    by : (b : Bool) → has (places_from meets (n + 1) xs) (n + suc k) ≡ option_map_or meets (slice_get xs k) false
        → has (if b then n ∷ places_from meets (n + 1) xs else places_from meets (n + 1) xs) (n + suc k) ≡ option_map_or meets (slice_get xs k) false
    by true rest = ap (λ (b : Bool). b || has (places_from meets (n + 1) xs) (n + suc k)) (ne_eqb n (n + suc k) (λ e. let no_way : ⊥ = omega (arith, e) in no_way)) ∙ rest
    by false rest = rest

-- ---- filters

-- a filter has what may stand in the arrays
in_storable : (h : List ClassInfo) (array : List ℕ) (sites : List Site) (x : ℕ) → is_array_text array ≡ true
    → has (storable h array sites) x ≡ option_map_or (stands_in h array) (slice_get sites x) false
in_storable h array sites x e =
    ap (has (storable h array sites)) (let same : x ≡ 0 + x = omega arith in same)
    ∙ in_places (λ (site : Site). is_subtype h (array_of site.class) array) 0 x sites ∙ by (slice_get sites x)
  where
    by : (o : Option Site) → option_map_or (λ (site : Site). is_subtype h (array_of site.class) array) o false ≡ option_map_or (stands_in h array) o false
    by None = refl
    by (Some site) = stands_by h array site e

array_by_ref : (text : List ℕ) → is_ref_text text ≡ true → is_array_text text ≡ true
array_by_ref text e = by (is_array_text text) refl
  where
    by : (b : Bool) → is_array_text text ≡ b → is_array_text text ≡ true
    by true is = is
    by false is = absurd (nothing (sym (ap (λ (b : Bool). is_ref_elem (if b then component_kind (drop 1 text) else None)) is) ∙ e))
      where
        nothing : false ≡ true → ⊥
        nothing e = cc

-- the number of each of the first sites
pub record AreNumbers (filters : Filters) (sites : List Site) (count : ℕ) (numbers : List ℕ) : Type 0 where
  pub len : length numbers ≡ count
  pub each : (a : ℕ) (site : Site) → a < count → slice_get sites a ≡ Some site → NumbersSite filters site (slice_index_or numbers a 0)

pub are_filters : (h : List ClassInfo) (p : RegProgram) (filters : Filters) (count : ℕ) (numbers : List ℕ) → length p.sites ≤ count → count ≤ length p.sites
    → IsMade h p.sites filters → AreNumbers filters p.sites count numbers → AreFilters h p filters.sets.items numbers
are_filters h p filters count numbers most least made are = record {
  len = omega (arith, are.len, most, least);
  inside = λ a less. (let site = get_within p.sites a less in (are.each a site.0 (omega (arith, less, most)) site.1).inside);
  exact = λ a x less is_ref.
      (let site = get_within p.sites a less in
      let is : is_ref_text site.0.class ≡ true =
      sym (ap (λ (o : Option Site). is_ref_elem (option_and_then (λ site. if is_array_text site.class then component_kind (drop 1 site.class) else None) o)) site.1) ∙ is_ref in
      let number = (are.each a site.0 (omega (arith, less, most)) site.1).is is in
      ap (λ (n : ℕ). has (set_at filters.sets.items n) x) number.number
      ∙ ap (λ (xs : List ℕ). has xs x) (made.made number.place site.0.class number.stands)
      ∙ in_storable h site.0.class p.sites x (array_by_ref site.0.class is)
      ∙ sym (ap (λ (o : Option Site). option_map_or (λ (a : Site). option_map_or (λ (site : Site). is_type_subtype h (named_type site.class) (described_type (drop 1 a.class))) (site_at p x) false) o false) site.1));
}

-- ---- a step of each loop

get_first : (xs ys : List ℕ) (k d : ℕ) → k < length xs → get_or (xs ++ ys) k d ≡ get_or xs k d
get_first [] ys k d less = absurd (omega arith)
get_first (x ∷ xs) ys zero d less = refl
get_first (x ∷ xs) ys (suc k) d less = get_first xs ys k d (omega arith)

get_last : (xs : List ℕ) (y d : ℕ) → get_or (xs ++ y ∷ []) (length xs) d ≡ y
get_last [] y d = refl
get_last (x ∷ xs) y d = get_last xs y d

pub numbers_next : (h : List ClassInfo) (old new : Filters) (sites : List Site) (i n : ℕ) (site : Site) (numbers numbers' : List ℕ) → numbers' ≡ numbers ++ n ∷ []
    → KeepsTypes old new → AreNumbers old sites i numbers → slice_get sites i ≡ Some site → NumbersSite new site n
    → AreNumbers new sites (i + 1) numbers'
numbers_next h old new sites i n site numbers numbers' e keeps are at one = subst (AreNumbers new sites (i + 1)) (sym e) record {
  len = omega (arith, are.len, length-append numbers (n ∷ []));
  each = λ a other less found. elim (cases_eq a i) [
    | inl same ↦
        (let last : get_or (numbers ++ n ∷ []) a 0 ≡ n = ap (λ (k : ℕ). get_or (numbers ++ n ∷ []) k 0) (let k : a ≡ length numbers = omega (arith, same, are.len) in k) ∙ get_last numbers n 0 in
        let is : site ≡ other = one_is site other (sym at ∙ ap (λ (k : ℕ). slice_get sites k) (sym same) ∙ found) in
        subst (λ (k : ℕ). NumbersSite new other k) (sym last) (subst (λ (s : Site). NumbersSite new s n) is one))
    | inr apart ↦
        (let before : a < i = omega (arith, less, apart) in
        let was = are.each a other before found in
        subst (λ (k : ℕ). NumbersSite new other k) (sym (get_first numbers (n ∷ []) a 0 (omega (arith, before, are.len)))) record {
          inside = omega (arith, was.inside, keeps.sets);
          is = λ r. (let k = was.is r in record { place = k.place; number = k.number; stands = keeps.types k.place other.class k.stands });
        })
  ];
}
  where
    one_is : (x y : Site) → (let o : Option Site = Some x in o) ≡ Some y → x ≡ y
    one_is x y e = cc

-- a type more, with its filter
pub made_next : (h : List ClassInfo) (sites : List Site) (old new : Filters) (array set : List ℕ) → IsMade h sites old → new.types.keys ≡ old.types.keys ++ array ∷ []
    → new.sets.items ≡ old.sets.items ++ set ∷ [] → set ≡ storable h array sites → IsMade h sites new
made_next h sites old new array set made keys sets is = record {
  len = omega (arith, ap length sets, ap length keys, made.len, length-append old.sets.items (set ∷ []), length-append old.types.keys (array ∷ []));
  every = λ x less.
      ap (λ (xs : List (List ℕ)). has (set_at xs 0) x) sets ∙ ap (λ (xs : List ℕ). has xs x) (lists_first old.sets.items (set ∷ []) 0 (omega (arith, made.len))) ∙ made.every x less;
  made = λ k t e. elim (cases_eq k (length old.types.keys)) [
    | inl same ↦
        (let found : slice_get (old.types.keys ++ array ∷ []) (length old.types.keys) ≡ Some t = ap (slice_get (old.types.keys ++ array ∷ [])) (sym same) ∙ ap (λ ks. slice_get ks k) (sym keys) ∙ e in
        let text : array ≡ t = text_is array t (sym (found_last old.types.keys array) ∙ found) in
        ap (λ (xs : List (List ℕ)). set_at xs (1 + k)) sets
        ∙ ap (λ (n : ℕ). set_at (old.sets.items ++ set ∷ []) n) (let n : 1 + k ≡ length old.sets.items = omega (arith, same, made.len) in n)
        ∙ lists_last old.sets.items set ∙ is ∙ ap (λ (a : List ℕ). storable h a sites) text)
    | inr apart ↦
        (let inside : k < length (old.types.keys ++ array ∷ []) = found_inside (old.types.keys ++ array ∷ []) k t (ap (λ ks. slice_get ks k) (sym keys) ∙ e) in
        let before : k < length old.types.keys = omega (arith, inside, apart, length-append old.types.keys (array ∷ [])) in
        ap (λ (xs : List (List ℕ)). set_at xs (1 + k)) sets ∙ lists_first old.sets.items (set ∷ []) (1 + k) (omega (arith, before, made.len))
        ∙ made.made k t (sym (found_first old.types.keys (array ∷ []) k before) ∙ ap (λ ks. slice_get ks k) (sym keys) ∙ e))
  ];
}
  where
    text_is : (x y : List ℕ) → (let o : Option (List ℕ) = Some x in o) ≡ Some y → x ≡ y
    text_is x y e = cc

    lists_first : (xs ys : List (List ℕ)) (k : ℕ) → k < length xs → set_at (xs ++ ys) k ≡ set_at xs k
    lists_first [] ys k less = absurd (omega arith)
    lists_first (x ∷ xs) ys zero less = refl
    lists_first (x ∷ xs) ys (suc k) less = lists_first xs ys k (omega arith)

    lists_last : (xs : List (List ℕ)) (y : List ℕ) → set_at (xs ++ y ∷ []) (length xs) ≡ y
    lists_last [] y = refl
    lists_last (x ∷ xs) y = lists_last xs y

    found_first : (xs ys : List (List ℕ)) (k : ℕ) → k < length xs → slice_get (xs ++ ys) k ≡ slice_get xs k
    found_first [] ys k less = absurd (omega arith)
    found_first (x ∷ xs) ys zero less = refl
    found_first (x ∷ xs) ys (suc k) less = found_first xs ys k (omega arith)

    found_last : (xs : List (List ℕ)) (y : List ℕ) → slice_get (xs ++ y ∷ []) (length xs) ≡ Some y
    found_last [] y = refl
    found_last (x ∷ xs) y = found_last xs y

    found_inside : (xs : List (List ℕ)) (k : ℕ) (t : List ℕ) → slice_get xs k ≡ Some t → k < length xs
    found_inside [] k t e = absurd cc
    found_inside (x ∷ xs) zero t e = omega arith
    found_inside (x ∷ xs) (suc k) t e = let rest = found_inside xs k t e in omega arith

pub storable_next : (h : List ClassInfo) (array : List ℕ) (sites : List Site) (i : ℕ) (item : Site) (met : Bool) (ids ids' : List ℕ) → i < length sites → item ≡ get_or sites i item
    → ids ≡ storable h array (take i sites) → met ≡ is_subtype h (array_of item.class) array → ids' ≡ ids ++ (if met then i ∷ [] else [])
    → ids' ≡ storable h array (take (i + 1) sites)
storable_next h array sites i item met ids ids' less is before tells more =
    let meets : Site → Bool = λ site. is_subtype h (array_of site.class) array in
    more ∙ ap (λ (b : Bool). ids ++ (if b then i ∷ [] else [])) tells
    ∙ ap (λ (l : List ℕ). l ++ (if meets item then i ∷ [] else [])) before
    ∙ ap (λ (n : ℕ). storable h array (take i sites) ++ (if meets item then n ∷ [] else [])) (let n : i ≡ 0 + length (take i sites) = omega (arith, length_front sites i (omega arith)) in n)
    ∙ sym (ap (places_from meets 0) (take_more sites i item less ∙ ap (λ (s : Site). take i sites ++ s ∷ []) (sym is)) ∙ places_push meets 0 (take i sites) item)
  where
    length_front : (xs : List Site) (n : ℕ) → n ≤ length xs → length (take n xs) ≡ n
    length_front [] zero less = refl
    length_front [] (suc n) less = absurd (omega arith)
    length_front (x ∷ xs) zero less = refl
    length_front (x ∷ xs) (suc n) less = ap suc (length_front xs n (omega arith))

pub no_numbers : (filters : Filters) (sites : List Site) → AreNumbers filters sites 0 []
no_numbers filters sites = record { len = refl; each = λ a site less e. absurd (omega (arith, less)) }

-- Addresses that are added behind those found, and a search that has found all that is led to.
use Rattle.std.proofs.Common.{◌≡◌, ℕ, zero, suc, ◌+◌, ◌<◌, ◌≤◌, ◌==◌, ◌||◌, inl, inr, Bool, true, false, cond, List, [], ◌∷◌, ◌++◌, length, get_or, take, map, Option, None, Some, refl, sym, ap, subst, ◌∙◌, arith, append_assoc, append-nil}
use Rattle.std.specs.Prelude.{nat_eq, slice_get, slice_index, option_to_list, Contains}
use Rattle.std.specs.List.{list_any}
use Rattle.std.specs.Option.{option_map_or}
use Rattle.std.proofs.lemmas.Bool.{eqb-true, eq-eqb, or_cases, or_left, or_right, both_ways, cases_lt}
use Rattle.std.proofs.lemmas.List.{take_more, map-append}
use Rattle.std.proofs.lemmas.List.Elements.{filter_map-append}
use Rattle.std.proofs.lemmas.Option.{slice_get_within}
use Rattle.std.proofs.lemmas.List.Folds.{list_any-append}
use Rattle.std.proofs.Math.ListN.{get_or-append}
use Rattle.th_base.specs.declared.number.FieldId.{FieldId}
use Rattle.th_syntax.specs.declared.machine.Object.{Object}
use Rattle.th_syntax.specs.declared.machine.Value.{Value}
use Rattle.th_syntax.specs.declared.machine.Value.TheVariants.{Int as IntValue, Long as LongValue, Null as NullValue, Address}
use Rattle.th_syntax.specs.Joined.{Leads, here, through}
use Rattle.th_syntax.specs.Machine.{parts_of}
use Rattle.th_runs.proofs.Declaring.{at_index, contains_at}
use Rattle.th_machine.specs.Leading.{AreLed, IsSearch, Joins, address_in, addresses_in, is_among, next_from}

or_false : (b : Bool) → b ≡ (b || false)
or_false true = refl
or_false false = refl

or_assoc : (a b c : Bool) → ((a || b) || c) ≡ (a || (b || c))
or_assoc true b c = refl
or_assoc false b c = refl

-- nothing is added
pub joins_none : (old new : List ℕ) → new ≡ old → Joins old new []
joins_none old new same = record {
  rest = [];
  front = same ∙ sym (append-nil old);
  members = λ x. ap (λ l. is_among l x) same ∙ or_false (is_among old x);
}

-- first these are added, then those
pub joins_then : (a b c xs ys : List ℕ) → Joins a b xs → Joins b c ys → Joins a c (xs ++ ys)
joins_then a b c xs ys one two = record {
  rest = one.rest ++ two.rest;
  front = two.front ∙ ap (λ l. l ++ two.rest) one.front ∙ append_assoc a one.rest two.rest;
  members = λ x. two.members x ∙ ap (λ t. t || is_among ys x) (one.members x) ∙ or_assoc (is_among a x) (is_among xs x) (is_among ys x)
      ∙ ap (λ t. is_among a x || t) (sym (list_any-append (nat_eq x) xs ys));
}

there_by : (old : List ℕ) (k x : ℕ) (b : Bool) → (x == k) ≡ b → is_among old k ≡ true → is_among old x ≡ (is_among old x || (b || false))
there_by old k x true is there = let e : is_among old x ≡ true = ap (is_among old) (eqb-true x k is) ∙ there in rw e refl
there_by old k x false is there = or_false (is_among old x)

joins_one_by : (old new : List ℕ) (k : ℕ) (b : Bool) → is_among old k ≡ b → new ≡ cond b old (old ++ k ∷ []) → Joins old new (k ∷ [])
joins_one_by old new k true there e = record {
  rest = [];
  front = e ∙ sym (append-nil old);
  members = λ x. ap (λ l. is_among l x) e ∙ there_by old k x (x == k) refl there;
}
joins_one_by old new k false there e = record {
  rest = k ∷ [];
  front = e;
  members = λ x. ap (λ l. is_among l x) e ∙ list_any-append (nat_eq x) old (k ∷ []);
}

-- one is added, where it is new
pub joins_one : (old new : List ℕ) (k : ℕ) → new ≡ cond (list_any (nat_eq k) old) old (old ++ k ∷ []) → Joins old new (k ∷ [])
joins_one old new k e = joins_one_by old new k (is_among old k) refl e

-- the addresses among one more value
pub one_more : (value : Value) → addresses_in (value ∷ []) ≡ option_to_list (address_in value)
one_more (IntValue n) = refl
one_more (LongValue n) = refl
one_more NullValue = refl
one_more (Address a) = refl

-- one more element is looked at
pub joins_more : (old mid new : List ℕ) (values : List Value) (i : ℕ) (d : Value) → i < length values → Joins old mid (addresses_in (take i values))
    → Joins mid new (option_to_list (address_in (get_or values i d))) → Joins old new (addresses_in (take (i + 1) values))
joins_more old mid new values i d h one two =
    subst (Joins old new) (sym (ap addresses_in (take_more values i d h) ∙ filter_map-append address_in (take i values) (get_or values i d ∷ [])))
    (joins_then old mid new (addresses_in (take i values)) (addresses_in (get_or values i d ∷ [])) one (subst (Joins mid new) (sym (one_more (get_or values i d))) two))

-- one more field is looked at
pub joins_field : (old mid new : List ℕ) (fields : List (FieldId × Value)) (i : ℕ) (d : FieldId × Value) → i < length fields
    → Joins old mid (addresses_in (map (λ (f : FieldId × Value). f.1) (take i fields)))
    → Joins mid new (option_to_list (address_in (get_or fields i d).1)) → Joins old new (addresses_in (map (λ (f : FieldId × Value). f.1) (take (i + 1) fields)))
joins_field old mid new fields i d h one two =
    subst (Joins old new) (sym (ap (λ l. addresses_in (map (λ (f : FieldId × Value). f.1) l)) (take_more fields i d h)
    ∙ ap addresses_in (map-append (λ (f : FieldId × Value). f.1) (take i fields) (get_or fields i d ∷ []))
    ∙ filter_map-append address_in (map (λ (f : FieldId × Value). f.1) (take i fields)) ((get_or fields i d).1 ∷ [])))
    (joins_then old mid new (addresses_in (map (λ (f : FieldId × Value). f.1) (take i fields))) (addresses_in ((get_or fields i d).1 ∷ [])) one
    (subst (Joins mid new) (sym (one_more (get_or fields i d).1)) two))

-- ---- places

place_by : (y x : ℕ) (ys : List ℕ) (b : Bool) → (x == y) ≡ b → (b || is_among ys x) ≡ true → (is_among ys x ≡ true → (k : ℕ) × (k < length ys) × (slice_index ys k ≡ x))
    → (k : ℕ) × (k < length (y ∷ ys)) × (slice_index (y ∷ ys) k ≡ x)
place_by y x ys true is e rest = (0, omega arith, sym (eqb-true x y is))
place_by y x ys false is e rest = let found = rest e in (suc found.0, (let h = found.1 in omega (arith, h)), found.2)

pub place_in : (xs : List ℕ) (x : ℕ) → is_among xs x ≡ true → (k : ℕ) × (k < length xs) × (slice_index xs k ≡ x)
place_in [] x e = absurd cc
place_in (y ∷ ys) x e = place_by y x ys (x == y) refl e (place_in ys x)

pub among_at : (xs : List ℕ) (k x : ℕ) → slice_get xs k ≡ Some x → is_among xs x ≡ true
among_at [] k x e = absurd cc
among_at (y ∷ ys) zero x e = let same : y ≡ x = cc in or_left (x == y) (is_among ys x) (eq-eqb x y (sym same))
among_at (y ∷ ys) (suc k) x e = or_right (x == y) (is_among ys x) (among_at ys k x e)

pub index_of_get : (xs : List ℕ) (k x : ℕ) → slice_get xs k ≡ Some x → slice_index xs k ≡ x
index_of_get [] k x e = absurd cc
index_of_get (y ∷ ys) zero x e = cc
index_of_get (y ∷ ys) (suc k) x e = index_of_get ys k x e

-- ---- addresses among values

among_more : (value : Value) (values : List Value) (x : ℕ) → is_among (addresses_in values) x ≡ true → is_among (addresses_in (value ∷ values)) x ≡ true
among_more (IntValue n) values x e = e
among_more (LongValue n) values x e = e
among_more NullValue values x e = e
among_more (Address a) values x e = or_right (x == a) (is_among (addresses_in values) x) e

among_from : (values : List Value) (j x : ℕ) → slice_get values j ≡ Some (Address x) → is_among (addresses_in values) x ≡ true
among_from [] j x e = absurd cc
among_from (value ∷ values) zero x e =
    let same : value ≡ Address x = cc in
    subst (λ v. is_among (addresses_in (v ∷ values)) x ≡ true) (sym same) (or_left (x == x) (is_among (addresses_in values) x) (eq-eqb x x refl))
among_from (value ∷ values) (suc j) x e = among_more value values x (among_from values j x e)

later : (value : Value) (values : List Value) (x : ℕ) → (j : ℕ) × (slice_get values j ≡ Some (Address x)) → (j : ℕ) × (slice_get (value ∷ values) j ≡ Some (Address x))
later value values x at = (suc at.0, at.1)

value_by : (a x : ℕ) (values : List Value) (b : Bool) → (x == a) ≡ b → (b || is_among (addresses_in values) x) ≡ true
    → (is_among (addresses_in values) x ≡ true → (j : ℕ) × (slice_get values j ≡ Some (Address x))) → (j : ℕ) × (slice_get (Address a ∷ values) j ≡ Some (Address x))
value_by a x values true is e rest = (0, ap (λ n. let o : Option Value = Some (Address n) in o) (sym (eqb-true x a is)))
value_by a x values false is e rest = later (Address a) values x (rest e)

value_of : (values : List Value) (x : ℕ) → is_among (addresses_in values) x ≡ true → (j : ℕ) × (slice_get values j ≡ Some (Address x))
value_of [] x e = absurd cc
value_of (IntValue n ∷ values) x e = later (IntValue n) values x (value_of values x e)
value_of (LongValue n ∷ values) x e = later (LongValue n) values x (value_of values x e)
value_of (NullValue ∷ values) x e = later NullValue values x (value_of values x e)
value_of (Address a ∷ values) x e = value_by a x values (x == a) refl e (value_of values x)

-- ---- what is led to

-- what leads to an object leads to what its parts are
onward : (heap : List Object) (x y : ℕ) (value : Value) (o : Object) → Leads heap x value → slice_get heap x ≡ Some o → Contains (parts_of o) (Address y) → Leads heap y value
onward heap x y _ o here stands part = through o stands part here
onward heap x y _ o (through p at inside rest) stands part = through p at inside (onward heap x y _ o rest stands part)

next_led : (heap : List Object) (x y : ℕ) (value : Value) (o : Option Object) → slice_get heap x ≡ o → Leads heap x value
    → is_among (option_map_or (λ p. addresses_in (parts_of p)) o []) y ≡ true → Leads heap y value
next_led heap x y value None stands led e = absurd cc
next_led heap x y value (Some o) stands led e =
    let part = value_of (parts_of o) y e in
    onward heap x y value o led stands (contains_at (parts_of o) part.0 (Address y) part.1)

start_led : (heap : List Object) (value : Value) (x : ℕ) → is_among (option_to_list (address_in value)) x ≡ true → Leads heap x value
start_led heap (IntValue n) x e = absurd cc
start_led heap (LongValue n) x e = absurd cc
start_led heap NullValue x e = absurd cc
start_led heap (Address a) x e = elim (or_cases (x == a) false e) [
  | inl same ↦ subst (λ n. Leads heap x (Address n)) (eqb-true x a same) here
  | inr never ↦ absurd (both_ways _ refl never)
]

-- the search begins with the address that the value is
pub begins : (heap : List Object) (value : Value) (old new : List ℕ) → Joins old new (option_to_list (address_in value)) → old ≡ [] → IsSearch heap value 0 new
begins heap value old new added empty = record {
  begun = λ a e. added.members a ∙ or_right (is_among old a) _ (ap (λ v. is_among (option_to_list (address_in v)) a) e ∙ or_left (a == a) false (eq-eqb a a refl));
  led = λ x e. elim (or_cases (is_among old x) _ (sym (added.members x) ∙ e)) [
    | inl before ↦ absurd (let none : is_among old x ≡ false = ap (λ l. is_among l x) empty in both_ways _ none before)
    | inr now ↦ start_led heap value x now
  ];
  closed = λ k h. absurd (omega (arith, h));
}

-- one more address is looked at
pub looks_on : (heap : List Object) (value : Value) (at address : ℕ) (found new : List ℕ) → IsSearch heap value at found → slice_get found at ≡ Some address
    → Joins found new (next_from heap address) → IsSearch heap value (at + 1) new
looks_on heap value at address found new search is added = record {
  begun = λ a e. added.members a ∙ or_left (is_among found a) _ (search.begun a e);
  led = λ x e. elim (or_cases (is_among found x) _ (sym (added.members x) ∙ e)) [
    | inl before ↦ search.led x before
    | inr now ↦ next_led heap address x value (slice_get heap address) refl (search.led address (among_at found at address is)) now
  ];
  closed = λ k h inside x e.
      elim (cases_lt k at) [
        | inl earlier ↦
            let within_found : k < length found = omega (arith, earlier, at_inside) in
            let kept : slice_index new k ≡ slice_index found k = ap (λ l. slice_index l k) added.front ∙ get_or-append found added.rest 0 k within_found in
            added.members x ∙ or_left (is_among found x) _ (search.closed k earlier within_found x (ap (λ n. is_among (next_from heap n) x) (sym kept) ∙ e))
        | inr not_earlier ↦
            let level : k ≡ at = omega (arith, h, not_earlier) in
            let kept : slice_index new k ≡ address =
            ap (slice_index new) level ∙ ap (λ l. slice_index l at) added.front ∙ get_or-append found added.rest 0 at at_inside ∙ index_of_get found at address is in
            added.members x ∙ or_right (is_among found x) _ (ap (λ n. is_among (next_from heap n) x) (sym kept) ∙ e)
      ];
}
  where
    at_inside : at < length found
    at_inside = slice_get_within found at address is

-- where all were looked at, what a known value leads to is found
all_found : (heap : List Object) (value : Value) (at : ℕ) (found : List ℕ) → IsSearch heap value at found → length found ≤ at → (x : ℕ) (v : Value)
    → ((a : ℕ) → v ≡ Address a → is_among found a ≡ true) → Leads heap x v → is_among found x ≡ true
all_found heap value at found search all x _ known here = known x refl
all_found heap value at found search all x _ known (through {a} {v} o stands part rest) =
    let place = place_in found a (known a refl) in
    let inside = place.1 in
    let early : place.0 < at = omega (arith, inside, all) in
    let there = at_index (parts_of o) v part in
    all_found heap value at found search all x v (λ b e.
    search.closed place.0 early inside b (ap (λ n. is_among (next_from heap n) b) place.2
    ∙ ap (λ (p : Option Object). is_among (option_map_or (λ q. addresses_in (parts_of q)) p []) b) stands
    ∙ among_from (parts_of o) there.0 b (there.1 ∙ ap (λ (w : Value). let p : Option Value = Some w in p) e))) rest

-- where all were looked at, what is found is what is led to
pub ends_whole : (heap : List Object) (value : Value) (at : ℕ) (found : List ℕ) → IsSearch heap value at found → length found ≤ at → AreLed heap value found
ends_whole heap value at found search all x = (search.led x, all_found heap value at found search all x value search.begun)

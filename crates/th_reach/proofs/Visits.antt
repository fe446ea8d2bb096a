-- Numbers that are added behind those found, and a visit that has found all that is reached.
use Rattle.std.proofs.Common.{◌≡◌, ℕ, zero, suc, ◌+◌, ◌<◌, ◌≤◌, ◌==◌, ◌||◌, inl, inr, Bool, true, false, cond, List, [], ◌∷◌, ◌++◌, length, get_or, Option, None, Some, refl, sym, ap, subst, ◌∙◌, arith, append_assoc, append-nil}
use Rattle.std.specs.Prelude.{nat_eq, slice_get, slice_index}
use Rattle.std.specs.List.{list_any, position_from}
use Rattle.std.specs.Option.{option_map, option_map_or}
use Rattle.std.proofs.lemmas.Bool.{eqb-true, eq-eqb, or_cases, or_left, or_right, both_ways, cases_lt}
use Rattle.std.proofs.lemmas.List.{get_or_default}
use Rattle.std.proofs.lemmas.Option.{slice_get_within, slice_get-get_or}
use Rattle.th_base.specs.IdSet.{has}
use Rattle.std.proofs.Math.ListN.{get_or-append}
use Rattle.std.specs.Prelude.{option_to_list}
use Rattle.std.proofs.lemmas.List.Folds.{list_any-append}
use Rattle.th_syntax.specs.declared.instr.Instr.{Instr}
use Rattle.th_syntax.specs.Flow.{placed_at, first_offset, offset_after, leads_to, successors_of, IsReached, start, onward, is_reached}
use Rattle.th_syntax.proofs.Visiting.{found_from_path, path_from_found, placed_of}
use Rattle.th_reach.specs.Visit.{knows, Adds, IsVisit, leads_from}

pub adds_none : (old new : List ℕ) → new ≡ old → Adds old new []
adds_none old new same = record {
  rest = [];
  front = same ∙ sym (append-nil old);
  members = λ x. ap (λ l. knows l x) same ∙ (or_false (knows old x));
}
  where
    or_false : (b : Bool) → b ≡ (b || false)
    or_false true = refl
    or_false false = refl

or_assoc : (a b c : Bool) → ((a || b) || c) ≡ (a || (b || c))
or_assoc true b c = refl
or_assoc false b c = refl

pub adds_then : (a b c xs ys : List ℕ) → Adds a b xs → Adds b c ys → Adds a c (xs ++ ys)
adds_then a b c xs ys one two = record {
  rest = one.rest ++ two.rest;
  front = two.front ∙ ap (λ l. l ++ two.rest) one.front ∙ append_assoc a one.rest two.rest;
  members = λ x. two.members x ∙ ap (λ t. t || knows ys x) (one.members x) ∙ or_assoc (knows a x) (knows xs x) (knows ys x) ∙ ap (λ t. knows a x || t) (sym (list_any-append (nat_eq x) xs ys));
}

there_by : (old : List ℕ) (k x : ℕ) (b : Bool) → (x == k) ≡ b → knows old k ≡ true → knows old x ≡ (knows old x || (b || false))
there_by old k x true is here = let e : knows old x ≡ true = ap (knows old) (eqb-true x k is) ∙ here in rw e refl
there_by old k x false is here = (or_none (knows old x))
  where
    or_none : (b : Bool) → b ≡ (b || false)
    or_none true = refl
    or_none false = refl

pub adds_one_by : (old new : List ℕ) (k : ℕ) (b : Bool) → knows old k ≡ b → new ≡ cond b old (old ++ k ∷ []) → Adds old new (k ∷ [])
adds_one_by old new k true here e = record {
  rest = [];
  front = e ∙ sym (append-nil old);
  members = λ x. ap (λ l. knows l x) e ∙ there_by old k x (x == k) refl here;
}
adds_one_by old new k false here e = record {
  rest = k ∷ [];
  front = e;
  members = λ x. ap (λ l. knows l x) e ∙ list_any-append (nat_eq x) old (k ∷ []);
}

pub adds_one : (old new : List ℕ) (k : ℕ) → new ≡ cond (list_any (nat_eq k) old) old (old ++ k ∷ []) → Adds old new (k ∷ [])
adds_one old new k e = adds_one_by old new k (knows old k) refl e

-- ---- the instruction at a place

-- the first instruction at an offset stands at this place
pub record IsPlace (instrs : List (ℕ × Instr)) (offset place : ℕ) : Type 0 where
  pub inside : place < length instrs
  pub placed : placed_at instrs offset ≡ slice_get instrs place
  pub behind : offset_after instrs offset ≡ option_map (λ (i : ℕ × Instr). i.0) (slice_get instrs (suc place))
  pub own : (i : ℕ × Instr) → placed_at instrs offset ≡ Some i → i.0 ≡ offset

first_is : (instrs : List (ℕ × Instr)) → first_offset instrs ≡ option_map (λ (i : ℕ × Instr). i.0) (slice_get instrs 0)
first_is [] = refl
first_is (i ∷ rest) = refl

place_by : (n k offset : ℕ) (x : ℕ × Instr) (xs : List (ℕ × Instr)) (b : Bool) → (x.0 == offset) ≡ b
    → cond b (Some n) (position_from (λ (i : ℕ × Instr). i.0 == offset) (n + 1) xs) ≡ Some k
    → (position_from (λ (i : ℕ × Instr). i.0 == offset) (n + 1) xs ≡ Some k → (p : ℕ) × (k ≡ (n + 1) + p) × IsPlace xs offset p)
    → (p : ℕ) × (k ≡ n + p) × IsPlace (x ∷ xs) offset p
place_by n k offset x xs true is e rest = (
  0,
  (let same : n ≡ k = cc in omega arith),
  record {
    inside = omega arith;
    placed = rw is refl;
    behind = rw is (first_is xs);
    own = λ i h. let same : x ≡ i = some_same x i (subst (λ b. cond b (Some x) (placed_at xs offset) ≡ Some i) is h) in ap (λ (y : ℕ × Instr). y.0) (sym same) ∙ eqb-true x.0 offset is;
  },
)
  where
    some_same : (x y : ℕ × Instr) → (let o : Option (ℕ × Instr) = Some x in o) ≡ Some y → x ≡ y
    some_same x y e = cc
place_by n k offset x xs false is e rest =
    let found = rest e in
    let at : IsPlace xs offset found.0 = found.2 in (
      suc found.0,
      (let same = found.1 in omega (arith, same)),
      record {
        inside = let h = at.inside in omega (arith, h);
        placed = rw is at.placed;
        behind = rw is at.behind;
        own = λ i h. at.own i (subst (λ b. cond b (Some x) (placed_at xs offset) ≡ Some i) is h);
      },
    )

place_from : (n k offset : ℕ) (instrs : List (ℕ × Instr)) → position_from (λ (i : ℕ × Instr). i.0 == offset) n instrs ≡ Some k → (p : ℕ) × (k ≡ n + p) × IsPlace instrs offset p
place_from n k offset [] e = absurd cc
place_from n k offset (x ∷ xs) e = place_by n k offset x xs (x.0 == offset) refl e (place_from (n + 1) k offset xs)

pub place_is : (k offset : ℕ) (instrs : List (ℕ × Instr)) → position_from (λ (i : ℕ × Instr). i.0 == offset) 0 instrs ≡ Some k → IsPlace instrs offset k
place_is k offset instrs e =
    let found = place_from 0 k offset instrs e in
    let same : found.0 ≡ k = let level = found.1 in omega (arith, level) in
    subst (IsPlace instrs offset) same found.2

none_by : (n offset : ℕ) (x : ℕ × Instr) (xs : List (ℕ × Instr)) (b : Bool) → cond b (Some n) (position_from (λ (i : ℕ × Instr). i.0 == offset) (n + 1) xs) ≡ None
    → (position_from (λ (i : ℕ × Instr). i.0 == offset) (n + 1) xs ≡ None → placed_at xs offset ≡ None) → cond b (Some x) (placed_at xs offset) ≡ None
none_by n offset x xs true e rest = absurd cc
none_by n offset x xs false e rest = rest e

pub no_place : (n offset : ℕ) (instrs : List (ℕ × Instr)) → position_from (λ (i : ℕ × Instr). i.0 == offset) n instrs ≡ None → placed_at instrs offset ≡ None
no_place n offset [] e = refl
no_place n offset (x ∷ xs) e = none_by n offset x xs (x.0 == offset) e (no_place (n + 1) offset xs)

-- where the instruction at a place leads
pub successors_at : (instrs : List (ℕ × Instr)) (offset place : ℕ) (i : ℕ × Instr) → IsPlace instrs offset place → slice_get instrs place ≡ Some i
    → option_map_or (successors_of instrs) (placed_at instrs offset) [] ≡ leads_from instrs place
successors_at instrs offset place i at is =
    let placed : placed_at instrs offset ≡ Some i = at.placed ∙ is in
    let own : i.0 ≡ offset = at.own i placed in
    ap (λ (o : Option (ℕ × Instr)). option_map_or (successors_of instrs) o []) placed
    ∙ ap (λ n. leads_to (option_to_list (offset_after instrs n)) i.1) own
    ∙ ap (λ (o : Option ℕ). leads_to (option_to_list o) i.1) at.behind
    ∙ ap (λ n. leads_to (option_to_list (option_map (λ (j : ℕ × Instr). j.0) (slice_get instrs n))) i.1) (let one : suc place ≡ place + 1 = omega arith in one)
    ∙ ap (λ (o : Option (ℕ × Instr)). option_map_or (λ j. leads_to (option_to_list (option_map (λ (k : ℕ × Instr). k.0) (slice_get instrs (place + 1)))) j.1) o []) (sym is)

-- ---- the visit

has_place_by : (y x : ℕ) (ys : List ℕ) (b : Bool) → (x == y) ≡ b → (b || knows ys x) ≡ true → (knows ys x ≡ true → (k : ℕ) × (k < length ys) × (slice_index ys k ≡ x))
    → (k : ℕ) × (k < length (y ∷ ys)) × (slice_index (y ∷ ys) k ≡ x)
has_place_by y x ys true is e rest = (0, omega arith, sym (eqb-true x y is))
has_place_by y x ys false is e rest = let found = rest e in (suc found.0, (let h = found.1 in omega (arith, h)), found.2)

has_place : (xs : List ℕ) (x : ℕ) → knows xs x ≡ true → (k : ℕ) × (k < length xs) × (slice_index xs k ≡ x)
has_place [] x e = absurd cc
has_place (y ∷ ys) x e = has_place_by y x ys (x == y) refl e (has_place ys x)

knows_at : (xs : List ℕ) (k x : ℕ) → k < length xs → slice_index xs k ≡ x → knows xs x ≡ true
knows_at [] k x h e = absurd (omega (arith, h))
knows_at (y ∷ ys) zero x h e = or_left (x == y) (knows ys x) (eq-eqb x y (sym e))
knows_at (y ∷ ys) (suc k) x h e = or_right (x == y) (knows ys x) (knows_at ys k x (omega (arith, h)) e)

-- the first number that is found, 0, where nothing is looked at yet
pub begins : (instrs : List (ℕ × Instr)) (old new : List ℕ) → Adds old new (0 ∷ []) → old ≡ [] → IsVisit instrs 0 new
begins instrs old new added empty = record {
  begun = added.members 0 ∙ or_right (knows old 0) (knows (0 ∷ []) 0) refl;
  sound = λ x e. elim (or_cases (knows old x) (knows (0 ∷ []) x) (sym (added.members x) ∙ e)) [
    | inl before ↦ absurd (let none : knows old x ≡ false = ap (λ l. knows l x) empty in both_ways _ none before)
    | inr now ↦ elim (or_cases (x == 0) false now) [
      | inl zero_it ↦ subst (IsReached instrs) (sym (eqb-true x 0 zero_it)) start
      | inr never ↦ absurd (both_ways _ refl never)
    ]
  ];
  closed = λ k h. absurd (omega (arith, h));
}

index_of_get : (xs : List ℕ) (k x : ℕ) → slice_get xs k ≡ Some x → slice_index xs k ≡ x
index_of_get [] k x e = absurd cc
index_of_get (y ∷ ys) zero x e = cc
index_of_get (y ∷ ys) (suc k) x e = index_of_get ys k x e

next_reached : (instrs : List (ℕ × Instr)) (offset x : ℕ) (o : Option (ℕ × Instr)) → placed_at instrs offset ≡ o → ((i : ℕ × Instr) → placed_at instrs offset ≡ Some i → i.0 ≡ offset) → IsReached instrs offset
    → knows (option_map_or (successors_of instrs) o []) x ≡ true → IsReached instrs x
next_reached instrs offset x None is own reached e = absurd cc
next_reached instrs offset x (Some i) is own reached e =
    let same : i ≡ (offset, i.1) = ap (λ n. let y : ℕ × Instr = (n, i.1) in y) (own i is) in
    let place = has_place (successors_of instrs (offset, i.1)) x (ap (λ y. knows (successors_of instrs y) x) (sym same) ∙ e) in
    onward reached (ap (option_map (λ (y : ℕ × Instr). y.1)) is) (place.0, place.1, get_or_default (successors_of instrs (offset, i.1)) place.0 x 0 place.1 ∙ place.2)

own_by : (offset : ℕ) (j i : ℕ × Instr) (rest : List (ℕ × Instr)) (b : Bool) → (j.0 == offset) ≡ b → cond b (Some j) (placed_at rest offset) ≡ Some i → (placed_at rest offset ≡ Some i → i.0 ≡ offset) → i.0 ≡ offset
own_by offset j i rest true is e more = let same : j ≡ i = cc in ap (λ (x : ℕ × Instr). x.0) (sym same) ∙ eqb-true j.0 offset is
own_by offset j i rest false is e more = more e

own_offset : (offset : ℕ) (instrs : List (ℕ × Instr)) (i : ℕ × Instr) → placed_at instrs offset ≡ Some i → i.0 ≡ offset
own_offset offset [] i e = absurd cc
own_offset offset (j ∷ rest) i e = own_by offset j i rest (j.0 == offset) refl e (own_offset offset rest i)

-- one more number is looked at
pub looks_on : (instrs : List (ℕ × Instr)) (at offset : ℕ) (found new : List ℕ) → IsVisit instrs at found → slice_get found at ≡ Some offset
    → Adds found new (option_map_or (successors_of instrs) (placed_at instrs offset) []) → IsVisit instrs (at + 1) new
looks_on instrs at offset found new visit is added = record {
  begun = added.members 0 ∙ or_left (knows found 0) _ visit.begun;
  sound = λ x e. elim (or_cases (knows found x) _ (sym (added.members x) ∙ e)) [
    | inl before ↦ visit.sound x before
    | inr now ↦ next_reached instrs offset x (placed_at instrs offset) refl (own_offset offset instrs) (visit.sound offset here) now
  ];
  closed = λ k h inside i stands x e.
      let offset_is = index_of_get found at offset is in
      elim (cases_lt k at) [
        | inl earlier ↦
            let within_found : k < length found = omega (arith, earlier, at_inside) in
            let kept : slice_index new k ≡ slice_index found k = ap (λ l. slice_index l k) added.front ∙ get_or-append found added.rest 0 k within_found in
            added.members x ∙ or_left (knows found x) _ (visit.closed k earlier within_found i (ap (placed_at instrs) (sym kept) ∙ stands) x e)
        | inr not_earlier ↦
            let level : k ≡ at = omega (arith, h, not_earlier) in
            let kept : slice_index new k ≡ offset =
            ap (slice_index new) level ∙ ap (λ l. slice_index l at) added.front ∙ get_or-append found added.rest 0 at at_inside ∙ offset_is in
            let placed : placed_at instrs offset ≡ Some i = ap (placed_at instrs) (sym kept) ∙ stands in
            added.members x ∙ or_right (knows found x) _ (ap (λ (o : Option (ℕ × Instr)). knows (option_map_or (successors_of instrs) o []) x) placed ∙ e)
      ];
}
  where
    at_inside : at < length found
    at_inside = slice_get_within found at offset is

    here : knows found offset ≡ true
    here = knows_at found at offset at_inside (index_of_get found at offset is)

all_found : (instrs : List (ℕ × Instr)) (at : ℕ) (found : List ℕ) → IsVisit instrs at found → length found ≤ at → (x : ℕ) → IsReached instrs x → knows found x ≡ true
all_found instrs at found visit all _ start = visit.begun
all_found instrs at found visit all _ (onward {offset} {to} {i} before stands next) =
    let place = has_place found offset (all_found instrs at found visit all offset before) in
    let inside = place.1 in
    let early : place.0 < at = omega (arith, inside, all) in
    let placed : placed_at instrs (slice_index found place.0) ≡ Some (offset, i) = ap (placed_at instrs) place.2 ∙ placed_of instrs offset i stands in
    visit.closed place.0 early inside (offset, i) placed to
    (knows_at (successors_of instrs (offset, i)) next.0 to next.1 (get_or_default (successors_of instrs (offset, i)) next.0 0 to next.1 ∙ next.2))

one_answer_by : (a b : Bool) → (a ≡ true → b ≡ true) → (b ≡ true → a ≡ true) → a ≡ b
one_answer_by true b to from = sym (to refl)
one_answer_by false true to from = from refl
one_answer_by false false to from = refl

-- where all were looked at, what is found is what is reached
pub ends_whole : (instrs : List (ℕ × Instr)) (at : ℕ) (found : List ℕ) → IsVisit instrs at found → length found ≤ at → (x : ℕ) → knows found x ≡ is_reached instrs x
ends_whole instrs at found visit all x =
    one_answer_by (knows found x) (is_reached instrs x) (λ e. found_from_path instrs x (visit.sound x e)) (λ e. all_found instrs at found visit all x (path_from_found instrs x e))

pub nil_of : (xs : List ℕ) → length xs ≡ 0 → xs ≡ []
nil_of [] e = refl
nil_of (x ∷ xs) e = absurd (omega (arith, e))

-- the same, where the place is known by the table
pub successors_from : (instrs : List (ℕ × Instr)) (offset place : ℕ) → IsPlace instrs offset place → option_map_or (successors_of instrs) (placed_at instrs offset) [] ≡ leads_from instrs place
successors_from instrs offset place at = by (slice_get instrs place) refl
  where
    by : (o : Option (ℕ × Instr)) → slice_get instrs place ≡ o → option_map_or (successors_of instrs) (placed_at instrs offset) [] ≡ leads_from instrs place
    by None e = ap (λ (o : Option (ℕ × Instr)). option_map_or (successors_of instrs) o []) (at.placed ∙ e) ∙ ap (λ (o : Option (ℕ × Instr)). option_map_or (λ j. leads_to (option_to_list (option_map (λ (k : ℕ × Instr). k.0) (slice_get instrs (place + 1)))) j.1) o []) (sym e)
    by (Some i) e = successors_at instrs offset place i at e

same_test : (x y : ℕ) (b c : Bool) → (y == x) ≡ b → (x == y) ≡ c → b ≡ c
same_test x y true true e f = refl
same_test x y false false e f = refl
same_test x y true false e f = absurd (both_ways _ f (eq-eqb x y (sym (eqb-true y x e))))
same_test x y false true e f = absurd (both_ways _ e (eq-eqb y x (sym (eqb-true x y f))))

-- the two ways in which a test of membership is written
pub has_knows : (xs : List ℕ) (x : ℕ) → has xs x ≡ knows xs x
has_knows [] x = refl
has_knows (y ∷ ys) x = ap (λ b. b || has ys x) (same_test x y (y == x) (x == y) refl refl) ∙ ap (λ b. (x == y) || b) (has_knows ys x)

pub leads_here : (instrs : List (ℕ × Instr)) (place : ℕ) (d : ℕ × Instr) (behind : Option ℕ) → place < length instrs
    → behind ≡ option_map (λ (j : ℕ × Instr). j.0) (slice_get instrs (place + 1)) → leads_to (option_to_list behind) (get_or instrs place d).1 ≡ leads_from instrs place
leads_here instrs place d behind inside next =
    ap (λ (o : Option ℕ). leads_to (option_to_list o) (get_or instrs place d).1) next
    ∙ ap (λ (o : Option (ℕ × Instr)). option_map_or (λ j. leads_to (option_to_list (option_map (λ (k : ℕ × Instr). k.0) (slice_get instrs (place + 1)))) j.1) o [])
    (sym (slice_get-get_or instrs place d inside))

-- A climb by direct supertypes comes to all that stands above its start, and ranks that never rise show
-- that a class is not come back to.
use Rattle.std.proofs.Common.{◌≡◌, ℕ, ◌+◌, ◌-◌, ◌<◌, ◌≤◌, zero, suc, Bool, true, false, ◌||◌, eqb, List, [], ◌∷◌, ◌++◌, ◌⊎◌, length, map, get_or, refl, sym, ap, ◌∙◌, subst, inl, inr, arith}
use Rattle.std.specs.Option.{option_to_list}
use Rattle.std.specs.Prelude.{Contains}
use Rattle.std.proofs.lemmas.Bool.{cases_lt, or_cases, or_right, eqb-true, both_ways}
use Rattle.std.proofs.lemmas.List.{length-append}
use Rattle.th_base.specs.declared.class.ClassInfo.{ClassInfo}
use Rattle.th_base.specs.Climb.{is_seen, Sees, rank_of, NeverRise, superclass_first_in}
use Rattle.th_base.specs.Cycles.{IsAtOrAbove, superclass_first, IsFirstBack, IsFirstCycle}
use Rattle.th_base.specs.Hierarchy.{StandsAbove, directly, higher, superclass_of, interfaces_of, direct_supertypes}
use Rattle.th_base.specs.Ancestors.{superclass_in}
use Rattle.th_base.specs.IdSet.{has}
use Rattle.th_base.specs.Order.{supertypes_in}
use Rattle.th_base.proofs.Ascending.{has_at, has_first}
use Rattle.th_base.proofs.DepthFirst.{supertypes_at}
use Rattle.th_base.proofs.Enough.{above_trans}
use Rattle.th_base.proofs.Membership.{has_append_cases, place_of_has, has_append_left, has_append_right, has_push_cases, has_push, has-from_Contains, Contains-from_has}
use Rattle.th_base.proofs.Ordered.{low_in_range}
use Rattle.th_base.proofs.Rows.{marked_inside}

-- ---- the climb

has_one : (x y : ℕ) → has (x ∷ []) y ≡ true → x ≡ y
has_one x y h = elim (or_cases (eqb x y) false h) [ inl same ↦ eqb-true x y same | inr none ↦ absurd (both_ways _ refl none) ]

-- a class is not the goal, and its direct supertypes have been seen
abbrev IsLeft : List ClassInfo → ℕ → List Bool → ℕ → Type 0
IsLeft classes goal seen x = (x ≡ goal → ⊥) × ((s : ℕ) → has (direct_supertypes classes x) s ≡ true → s < length classes → is_seen seen s ≡ true)

-- all seen classes stand above the start or are it; those that have been left lead to seen ones alone
pub record IsClimb (classes : List ClassInfo) (goal from : ℕ) (seen : List Bool) (todo : List ℕ) : Type 0 where
  pub room : length seen ≡ length classes
  pub sound : (x : ℕ) → has todo x ≡ true → IsAtOrAbove classes x from
  pub inside : (x : ℕ) → has todo x ≡ true → x < length classes
  pub begun : from < length classes → is_seen seen from ≡ true
  pub closed : (x : ℕ) → is_seen seen x ≡ true → (has todo x ≡ true) ⊎ IsLeft classes goal seen x

pub climb_begun : (classes : List ClassInfo) (goal from : ℕ) (seen seen' : List Bool) (todo todo' : List ℕ) → length seen ≡ length classes
    → ((x : ℕ) → is_seen seen x ≡ false) → todo ≡ [] → Sees seen seen' todo todo' (from ∷ []) → IsClimb classes goal from seen' todo'
climb_begun classes goal from seen seen' todo todo' room none empty s = record {
  room = s.room ∙ room;
  sound = λ x h. elim (s.comes x h) [
    | inl old ↦ absurd (both_ways _ refl (ap (λ l. has l x) (sym empty) ∙ old))
    | inr first ↦ inl (sym (has_one from x first.0))
  ];
  inside = λ x h. elim (s.comes x h) [
    | inl old ↦ absurd (both_ways _ refl (ap (λ l. has l x) (sym empty) ∙ old))
    | inr first ↦ let within = first.1 in omega (arith, room)
  ];
  begun = λ h. s.marks from (omega (arith, room)) ∙ or_right (is_seen seen from) (has (from ∷ []) from) (has_first from []);
  closed = λ x h. elim (s.waits x h) [
    | inl old ↦ absurd (both_ways _ (none x) old)
    | inr waits ↦ inl waits
  ];
}

one_up : (classes : List ClassInfo) (s c from : ℕ) → has (direct_supertypes classes c) s ≡ true → IsAtOrAbove classes c from → IsAtOrAbove classes s from
one_up classes s c from h (inl same) = inr (subst (λ d. StandsAbove classes s d) same (directly (Contains-from_has (direct_supertypes classes c) s h)))
one_up classes s c from h (inr above) = inr (above_trans classes (directly (Contains-from_has (direct_supertypes classes c) s h)) above)

pub climb_on : (classes : List ClassInfo) (goal from class : ℕ) (seen seen' : List Bool) (todo rest todo' : List ℕ) → IsClimb classes goal from seen todo → todo ≡ rest ++ class ∷ []
    → (class ≡ goal → ⊥) → Sees seen seen' rest todo' (direct_supertypes classes class) → IsClimb classes goal from seen' todo'
climb_on classes goal from class seen seen' todo rest todo' old parts other s = record {
  room = s.room ∙ old.room;
  sound = λ x h. elim (s.comes x h) [
    | inl waits ↦ old.sound x (listed x (inl waits))
    | inr up ↦ one_up classes x class from up.0 (old.sound class (listed class (inr refl)))
  ];
  inside = λ x h. elim (s.comes x h) [
    | inl waits ↦ old.inside x (listed x (inl waits))
    | inr up ↦ let within = up.1 in omega (arith, old.room)
  ];
  begun = λ h. kept from (old.begun h);
  closed = λ x h. elim (s.waits x h) [
    | inl before ↦ elim (old.closed x before) [
      | inl waits ↦ elim (has_push_cases rest class x (ap (λ l. has l x) (sym parts) ∙ waits)) [
        | inl stays ↦ inl (s.stays x stays)
        | inr same ↦ inr (λ e. other (same ∙ e), λ y g w. s.marks y (omega (arith, old.room)) ∙ or_right (is_seen seen y) (has (direct_supertypes classes class) y) (ap (λ d. has (direct_supertypes classes d) y) same ∙ g))
      ]
      | inr left ↦ inr (left.0, λ y g w. kept y (left.1 y g w))
    ]
    | inr waits ↦ inl waits
  ];
}
  where
    listed : (x : ℕ) → (has rest x ≡ true) ⊎ (class ≡ x) → has todo x ≡ true
    listed x (inl waits) = ap (λ l. has l x) parts ∙ has_append_left rest (class ∷ []) x waits
    listed x (inr same) = ap (λ l. has l x) parts ∙ ap (has (rest ++ class ∷ [])) (sym same) ∙ has_push rest class

    kept : (x : ℕ) → is_seen seen x ≡ true → is_seen seen' x ≡ true
    kept x h = s.marks x (marked_inside seen x h) ∙ ap (λ b. b || has (direct_supertypes classes class) x) h

pub climb_found : (classes : List ClassInfo) (goal from class : ℕ) (seen : List Bool) (todo rest : List ℕ) → IsClimb classes goal from seen todo → todo ≡ rest ++ class ∷ [] → class ≡ goal
    → IsAtOrAbove classes goal from
climb_found classes goal from class seen todo rest old parts same = subst (λ x. IsAtOrAbove classes x from) same (old.sound class (ap (λ l. has l class) parts ∙ has_push rest class))

-- a class above which another stands is one of the list
above_in_range : (classes : List ClassInfo) (a c : ℕ) → StandsAbove classes a c → c < length classes
above_in_range classes a c (directly d) = low_in_range classes a c (has-from_Contains (direct_supertypes classes c) a d)
above_in_range classes a c (higher {d = d} up rest) = low_in_range classes d c (has-from_Contains (direct_supertypes classes c) d up)

-- where nothing waits, all that stands above a seen class has been seen
goal_seen : (classes : List ClassInfo) (goal : ℕ) (seen : List Bool) {x : ℕ} → goal < length classes → ((y : ℕ) → is_seen seen y ≡ true → IsLeft classes goal seen y)
    → is_seen seen x ≡ true → StandsAbove classes goal x → is_seen seen goal ≡ true
goal_seen classes goal seen {x} inside left h (directly d) = (left x h).1 goal (has-from_Contains (direct_supertypes classes x) goal d) inside
goal_seen classes goal seen {x} inside left h (higher {d = d} up rest) =
    goal_seen classes goal seen inside left ((left x h).1 d (has-from_Contains (direct_supertypes classes x) d up) (above_in_range classes goal d rest)) rest

nothing_in : (xs : List ℕ) → length xs ≡ 0 → (x : ℕ) → has xs x ≡ true → ⊥
nothing_in [] e x h = both_ways _ refl h
nothing_in (y ∷ ys) e x h = omega (arith, e)

pub climb_over : (classes : List ClassInfo) (goal from : ℕ) (seen : List Bool) (todo : List ℕ) → goal < length classes → IsClimb classes goal from seen todo → length todo ≡ 0 → IsAtOrAbove classes goal from → ⊥
climb_over classes goal from seen todo inside c empty at = by at
  where
    left : (y : ℕ) → is_seen seen y ≡ true → IsLeft classes goal seen y
    left y h = elim (c.closed y h) [ inl waits ↦ absurd (nothing_in todo empty y waits) | inr l ↦ l ]

    by : IsAtOrAbove classes goal from → ⊥
    by (inl same) = (left from (c.begun (subst (λ x. x < length classes) same inside))).0 (sym same)
    by (inr above) = (left goal (goal_seen classes goal seen inside left (c.begun (above_in_range classes goal from above)) above)).0 refl

-- ---- ranks

rank_above : (classes : List ClassInfo) (ranks : List ℕ) {a c : ℕ} → NeverRise classes ranks → StandsAbove classes a c → rank_of ranks a ≤ rank_of ranks c
rank_above classes ranks {a} {c} never (directly d) = never c a (has-from_Contains (direct_supertypes classes c) a d)
rank_above classes ranks {a} {c} never (higher {d = d} up rest) =
    let first = never c d (has-from_Contains (direct_supertypes classes c) d up) in
    let then = rank_above classes ranks never rest in
    omega arith

-- a class of a higher rank than another doesn't stand above it
pub ranked_apart : (classes : List ClassInfo) (ranks : List ℕ) (c s : ℕ) → NeverRise classes ranks → rank_of ranks s < rank_of ranks c → IsAtOrAbove classes c s → ⊥
ranked_apart classes ranks c s never lower (inl same) = let e : rank_of ranks c ≡ rank_of ranks s = ap (rank_of ranks) same in omega arith
ranked_apart classes ranks c s never lower (inr above) = let most = rank_above classes ranks never above in omega arith

-- ---- cycles

abbrev interfaces_named : ClassInfo → List ℕ
interfaces_named k = map (λ i. i.0) k.interfaces

back_from : (xs ys : List ℕ) (s : ℕ) → has (xs ++ ys) s ≡ true → has (ys ++ xs) s ≡ true
back_from xs ys s h = elim (has_append_cases xs ys s h) [
  | inl first ↦ has_append_right ys xs s first
  | inr second ↦ has_append_left ys xs s second
]

-- a class that stands above itself has a direct supertype that it stands above, or is
back_step : (classes : List ClassInfo) {c d : ℕ} → StandsAbove classes c d → (s : ℕ) × (has (direct_supertypes classes d) s ≡ true) × IsAtOrAbove classes c s
back_step classes {c} {d} (directly up) = (c, has-from_Contains (direct_supertypes classes d) c up, inl refl)
back_step classes {c} {d} (higher {d = e} up rest) = (e, has-from_Contains (direct_supertypes classes d) e up, inr rest)

pub no_way_back : (classes : List ClassInfo) (c n : ℕ) (k : ClassInfo) → c < length classes → k ≡ get_or classes c k → length (superclass_first_in k) ≤ n
    → ((i : ℕ) → i < n → IsAtOrAbove classes c (get_or (superclass_first_in k) i 0) → ⊥) → StandsAbove classes c c → ⊥
no_way_back classes c n k inside e all none cycle =
    let p = back_step classes cycle in
    let named : has (superclass_first_in k) p.0 ≡ true = back_from (interfaces_named k) (superclass_in k) p.0 (ap (λ l. has l p.0) (sym (supertypes_at classes c k inside e)) ∙ p.1) in
    let q = place_of_has (superclass_first_in k) p.0 named in
    none q.0 (let below = q.1 in omega arith) (subst (IsAtOrAbove classes c) (sym q.2) p.2)

pub as_many_first : (k : ClassInfo) → length (superclass_first_in k) ≡ length (supertypes_in k)
as_many_first k =
    let a = length-append (superclass_in k) (interfaces_named k) in
    let b = length-append (interfaces_named k) (superclass_in k) in
    omega arith

pub on_cycle : (classes : List ClassInfo) (c s : ℕ) → IsFirstBack classes c s → StandsAbove classes c c
on_cycle classes c s f =
    let listed = has_at (superclass_first classes c) s f.place f.inside f.stands in
    let direct : has (direct_supertypes classes c) s ≡ true = back_from (option_to_list (superclass_of classes c)) (interfaces_of classes c) s listed in
    by (Contains-from_has (direct_supertypes classes c) s direct) f.back
  where
    by : Contains (direct_supertypes classes c) s → IsAtOrAbove classes c s → StandsAbove classes c c
    by d (inl same) = directly (subst (Contains (direct_supertypes classes c)) (sym same) d)
    by d (inr above) = higher d above

pub no_cycle : (classes : List ClassInfo) (n : ℕ) → length classes ≤ n → ((c : ℕ) → c < n → StandsAbove classes c c → ⊥) → (c : ℕ) → StandsAbove classes c c → ⊥
no_cycle classes n all none c cycle = none c (let inside = above_in_range classes c c cycle in omega arith) cycle

same_number : (a b : ℕ) → (a < b → ⊥) → (b < a → ⊥) → a ≡ b
same_number a b not_less not_more = elim (cases_lt a b) [ inl less ↦ absurd (not_less less) | inr not ↦ elim (cases_lt b a) [ inl more ↦ absurd (not_more more) | inr not' ↦ omega arith ] ]

pub one_class : (classes : List ClassInfo) (c d s t : ℕ) → IsFirstCycle classes c s → IsFirstCycle classes d t → c ≡ d
one_class classes c d s t f g = same_number c d (λ h. g.first c h f.on_cycle) (λ h. f.first d h g.on_cycle)

pub one_supertype : (classes : List ClassInfo) (c s t : ℕ) → IsFirstBack classes c s → IsFirstBack classes c t → s ≡ t
one_supertype classes c s t f g =
    let place = same_number f.place g.place
    (λ h. g.before f.place h (subst (IsAtOrAbove classes c) (sym f.stands) f.back))
    (λ h. f.before g.place h (subst (IsAtOrAbove classes c) (sym g.stands) g.back)) in
    sym f.stands ∙ ap (λ k. get_or (superclass_first classes c) k 0) place ∙ g.stands

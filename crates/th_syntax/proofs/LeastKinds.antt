-- The least table of kinds: it is one, rounds lead to it, and it has kinds just where paths lead.
use Rattle.std.proofs.Common.{◌≡◌, ◌&&◌, ◌||◌, ◌<◌, inl, inr, ℕ, zero, suc, ◌==◌, Bool, true, false, not, cond, List, [], ◌∷◌, length, map, Option, None, Some, Contains, refl, sym, ap, subst, ◌∙◌}
use Rattle.std.specs.Prelude.{nat_le}
use Rattle.std.specs.List.{list_all}
use Rattle.std.specs.Option.{option_map, option_map_or}
use Rattle.std.proofs.lemmas.Bool.{ne_eqb, eqb-false, eq-eqb, eqb-true, and_parts, or_left, or_right, false≢true, cases_order}
use Rattle.th_base.specs.IdSet.{has}
use Rattle.th_base.proofs.Membership.{has-from_Contains, Contains-from_has}
use Rattle.th_syntax.specs.declared.class_file.Member.{Member}
use Rattle.th_syntax.specs.declared.class_file.Code.{Code}
use Rattle.th_syntax.specs.declared.instr.Instr.{Instr}
use Rattle.th_syntax.specs.Flow.{placed_at, instr_in, successors_of, IsReached, start, onward, is_reached, reached_code}
use Rattle.th_syntax.specs.Kinds.{SlotKind, is_same_kind, are_same_kinds, KindsAt, NoKinds, OfKinds, DepthsDiffer, merged_at}
use Rattle.th_syntax.specs.KindRows.{KindRow, row_of, slots_taken, locals_after, stack_after, after}
use Rattle.th_syntax.specs.KindTable.{entry_kinds, IsHeld, IsClosedTable, IsLeastTable, is_conflict, is_short_of_locals, conflicts_at, HasKinds, HasFirstConflict, KindsBefore, shown, AreKinds}
use Rattle.th_syntax.specs.KindRounds.{known_at, with_brought, with_each, with_next, one_round, offsets_of, after_rounds, is_same_at, is_held, brings_nothing_new, is_closed_table}
use Rattle.th_syntax.proofs.Visiting.{found_from_path, path_from_found}
use Rattle.th_syntax.proofs.MergingKinds.{same_kind_is, at_none, at_differ, at_comm, at_assoc}
use Rattle.th_syntax.proofs.KindsBehind.{after_merged}

-- ---- what is held

pub held_along : (a b c : KindsAt) → IsHeld a b → IsHeld b c → IsHeld a c
held_along a b c low high = ap (merged_at a) (sym high) ∙ sym (at_assoc a b c) ∙ ap (λ s. merged_at s c) low ∙ high

pub held_both : (a b c : KindsAt) → IsHeld a c → IsHeld b c → IsHeld (merged_at a b) c
held_both a b c left right = at_assoc a b c ∙ ap (merged_at a) right ∙ left

pub held_behind : (row : KindRow) (a b : KindsAt) → IsHeld a b → IsHeld (after row a) (after row b)
held_behind row a b low = sym (after_merged row a b) ∙ ap (after row) low

pub held_one : (a b : KindsAt) → IsHeld a b → IsHeld b a → a ≡ b
held_one a b low high = sym high ∙ at_comm b a ∙ low

-- ---- there is one least table

pub one_least : (m : Member) (code : Code) (t u : ℕ → KindsAt) → IsLeastTable m code t → IsLeastTable m code u → (offset : ℕ) → t offset ≡ u offset
one_least m code t u left right offset = held_one (t offset) (u offset) (left.below u right.closed offset) (right.below t left.closed offset)

-- ---- kinds come where paths lead

came : (a b : KindsAt) → IsHeld a b → (a ≡ NoKinds → ⊥) → b ≡ NoKinds → ⊥
came a b low there none = there (sym (at_none a) ∙ ap (merged_at a) (sym none) ∙ low ∙ none)

goes_on_by : (locals stack : List SlotKind) (b : Bool) → cond b (OfKinds locals stack) DepthsDiffer ≡ NoKinds → ⊥
goes_on_by locals stack true e = cc
goes_on_by locals stack false e = cc

goes_on : (row : KindRow) (s : KindsAt) → (s ≡ NoKinds → ⊥) → after row s ≡ NoKinds → ⊥
goes_on row NoKinds there e = there refl
goes_on row DepthsDiffer there e = cc
goes_on row (OfKinds locals stack) there e = goes_on_by (locals_after row locals) (stack_after row stack) (nat_le (slots_taken row) (length stack)) e

module _ (m : Member) (code : Code) (t : ℕ → KindsAt) (closed : IsClosedTable m code t) where
  pub comes_along : (offset : ℕ) → IsReached code.instrs offset → t offset ≡ NoKinds → ⊥
  comes_along _ start = came (entry_kinds m code) (t 0) closed.entry (λ e. cc)
  comes_along _ (onward {offset} {to} {i} before stands next) =
      came (after (row_of i) (t offset)) (t to) (closed.flow offset to i stands next) (goes_on (row_of i) (t offset) (comes_along offset before))

-- the table in which depths differ wherever a path leads
marked : List (ℕ × Instr) → ℕ → KindsAt
marked instrs offset = cond (is_reached instrs offset) DepthsDiffer NoKinds

marked_at : (instrs : List (ℕ × Instr)) (offset : ℕ) → IsReached instrs offset → marked instrs offset ≡ DepthsDiffer
unfolding marked
marked_at instrs offset reached = ap (λ b. cond b DepthsDiffer NoKinds) (found_from_path instrs offset reached)

held_marked : (instrs : List (ℕ × Instr)) (offset : ℕ) (s : KindsAt) → IsReached instrs offset → IsHeld s (marked instrs offset)
held_marked instrs offset s reached = ap (merged_at s) (marked_at instrs offset reached) ∙ at_differ s ∙ sym (marked_at instrs offset reached)

flow_marked : (instrs : List (ℕ × Instr)) (offset to : ℕ) (i : Instr) (b : Bool) → is_reached instrs offset ≡ b → instr_in instrs offset ≡ Some i → Contains (successors_of instrs (offset, i)) to
    → IsHeld (after (row_of i) (marked instrs offset)) (marked instrs to)
unfolding marked
flow_marked instrs offset to i true is stands next = held_marked instrs to (after (row_of i) (marked instrs offset)) (onward (path_from_found instrs offset is) stands next)
flow_marked instrs offset to i false is stands next =
    ap (λ b. merged_at (after (row_of i) (cond b DepthsDiffer NoKinds)) (marked instrs to)) is

marked_closed : (m : Member) (code : Code) → IsClosedTable m code (marked code.instrs)
marked_closed m code = record {
  entry = held_marked code.instrs 0 (entry_kinds m code) start;
  flow = λ offset to i stands next. flow_marked code.instrs offset to i (is_reached code.instrs offset) refl stands next;
}

reached_by : (instrs : List (ℕ × Instr)) (offset : ℕ) (s : KindsAt) (b : Bool) → is_reached instrs offset ≡ b → IsHeld s (marked instrs offset) → (s ≡ NoKinds → ⊥) → is_reached instrs offset ≡ true
unfolding marked
reached_by instrs offset s true is low there = is
reached_by instrs offset s false is low there =
    absurd (let none : marked instrs offset ≡ NoKinds = ap (λ b. cond b DepthsDiffer NoKinds) is in there (sym (at_none s) ∙ ap (merged_at s) (sym none) ∙ low ∙ none))

pub comes_only_along : (m : Member) (code : Code) (t : ℕ → KindsAt) → IsLeastTable m code t → (offset : ℕ) → (t offset ≡ NoKinds → ⊥) → IsReached code.instrs offset
comes_only_along m code t least offset there =
    path_from_found code.instrs offset (reached_by code.instrs offset (t offset) (is_reached code.instrs offset) refl (least.below (marked code.instrs) (marked_closed m code) offset) there)

-- ---- rounds stay below each closed table

AreBelow : (ℕ → KindsAt) → List (ℕ × KindsAt) → Type 0
AreBelow u [] = Unit {0}
AreBelow u (k ∷ ks) = IsHeld k.1 (u k.0) × AreBelow u ks

below_by : (u : ℕ → KindsAt) (k : ℕ × KindsAt) (ks : List (ℕ × KindsAt)) (offset : ℕ) (b : Bool) → (k.0 == offset) ≡ b → IsHeld k.1 (u k.0) → IsHeld (known_at ks offset) (u offset) → IsHeld (cond b k.1 (known_at ks offset)) (u offset)
below_by u k ks offset true is here there = subst (λ n. IsHeld k.1 (u n)) (eqb-true k.0 offset is) here
below_by u k ks offset false is here there = there

known_below : (u : ℕ → KindsAt) (known : List (ℕ × KindsAt)) → AreBelow u known → (offset : ℕ) → IsHeld (known_at known offset) (u offset)
unfolding AreBelow
known_below u [] below offset = refl
known_below u (k ∷ ks) below offset = below_by u k ks offset (k.0 == offset) refl below.0 (known_below u ks below.1 offset)

brought_by : (u : ℕ → KindsAt) (to : ℕ) (s : KindsAt) (k : ℕ × KindsAt) (ks : List (ℕ × KindsAt)) (b : Bool) → (k.0 == to) ≡ b → IsHeld s (u to) → IsHeld k.1 (u k.0) → AreBelow u ks → AreBelow u (with_brought to s ks)
    → AreBelow u (cond b ((to, merged_at s k.1) ∷ ks) (k ∷ with_brought to s ks))
unfolding AreBelow
brought_by u to s k ks true is low here rest more = (held_both s k.1 (u to) low (subst (λ n. IsHeld k.1 (u n)) (eqb-true k.0 to is) here), rest)
brought_by u to s k ks false is low here rest more = (here, more)

brought_below : (u : ℕ → KindsAt) (to : ℕ) (s : KindsAt) (known : List (ℕ × KindsAt)) → IsHeld s (u to) → AreBelow u known → AreBelow u (with_brought to s known)
unfolding AreBelow
brought_below u to s [] low below = below
brought_below u to s (k ∷ ks) low below = brought_by u to s k ks (k.0 == to) refl low below.0 below.1 (brought_below u to s ks low below.1)

each_below : (u : ℕ → KindsAt) (tos : List ℕ) (s : KindsAt) (known : List (ℕ × KindsAt)) → ((to : ℕ) → has tos to ≡ true → IsHeld s (u to)) → AreBelow u known → AreBelow u (with_each tos s known)
each_below u [] s known low below = below
each_below u (to ∷ tos) s known low below =
    each_below u tos s (with_brought to s known) (λ other h. low other (or_right (to == other) (has tos other) h))
    (brought_below u to s known (low to (or_left (to == to) (has tos to) (eq-eqb to to refl))) below)

module _ (m : Member) (code : Code) (u : ℕ → KindsAt) (closed : IsClosedTable m code u) where
  next_below : (offset : ℕ) (found : Option Instr) (known : List (ℕ × KindsAt)) → instr_in code.instrs offset ≡ found → AreBelow u known → AreBelow u (with_next code.instrs offset found known)
  next_below offset None known is below = below
  next_below offset (Some i) known is below =
      each_below u (successors_of code.instrs (offset, i)) (after (row_of i) (known_at known offset)) known
      (λ to h. held_along (after (row_of i) (known_at known offset)) (after (row_of i) (u offset)) (u to)
      (held_behind (row_of i) (known_at known offset) (u offset) (known_below u known below offset))
      (closed.flow offset to i is (Contains-from_has (successors_of code.instrs (offset, i)) to h)))
      below

  round_below : (offsets : List ℕ) (known : List (ℕ × KindsAt)) → AreBelow u known → AreBelow u (one_round code.instrs offsets known)
  round_below [] known below = below
  round_below (offset ∷ offsets) known below =
      round_below offsets (with_next code.instrs offset (instr_in code.instrs offset) known) (next_below offset (instr_in code.instrs offset) known refl below)

  none_below : (instrs : List (ℕ × Instr)) → AreBelow u (map (λ i. (i.0, NoKinds)) instrs)
  unfolding AreBelow
  none_below [] = tt
  none_below (i ∷ instrs) = (refl, none_below instrs)

  rounds_below : (n : ℕ) → AreBelow u (after_rounds m code n)
  rounds_below zero = brought_below u 0 (entry_kinds m code) (map (λ i. (i.0, NoKinds)) code.instrs) closed.entry (none_below code.instrs)
  rounds_below (suc n) = round_below (offsets_of code.instrs) (after_rounds m code n) (rounds_below n)

-- ---- a test that a table is closed

same_kinds_by : (a b : SlotKind) (ks bs : List SlotKind) (x : Bool) → is_same_kind a b ≡ x → cond x (are_same_kinds ks bs) false ≡ true → (are_same_kinds ks bs ≡ true → ks ≡ bs) → (a ∷ ks) ≡ (b ∷ bs)
same_kinds_by a b ks bs true is e rest = let head = same_kind_is a b is in let tail = rest e in cc
same_kinds_by a b ks bs false is e rest = absurd cc

same_kinds_are : (ks bs : List SlotKind) → are_same_kinds ks bs ≡ true → ks ≡ bs
same_kinds_are [] [] e = refl
same_kinds_are [] (b ∷ bs) e = absurd cc
same_kinds_are (a ∷ ks) [] e = absurd cc
same_kinds_are (a ∷ ks) (b ∷ bs) e = same_kinds_by a b ks bs (is_same_kind a b) refl e (same_kinds_are ks bs)

same_at_is : (a b : KindsAt) → is_same_at a b ≡ true → a ≡ b
same_at_is NoKinds NoKinds e = refl
same_at_is DepthsDiffer DepthsDiffer e = refl
same_at_is (OfKinds l s) (OfKinds l' s') e =
    let parts = and_parts (are_same_kinds l l') (are_same_kinds s s') e in let one = same_kinds_are l l' parts.0 in let two = same_kinds_are s s' parts.1 in cc
same_at_is a b e = absurd cc

all_by : (p : ℕ → Bool) (x y : ℕ) (xs : List ℕ) (b : Bool) → (x == y) ≡ b → p x ≡ true → (has xs y ≡ true → p y ≡ true) → (b || has xs y) ≡ true → p y ≡ true
all_by p x y xs true is here rest e = ap p (sym (eqb-true x y is)) ∙ here
all_by p x y xs false is here rest e = rest e

all_has : (p : ℕ → Bool) (xs : List ℕ) (y : ℕ) → list_all p xs ≡ true → has xs y ≡ true → p y ≡ true
all_has p [] y all e = absurd cc
all_has p (x ∷ xs) y all e = let parts = and_parts (p x) (list_all p xs) all in all_by p x y xs (x == y) refl parts.0 (all_has p xs y parts.1) e

has_offset_by : (j : ℕ × Instr) (rest : List (ℕ × Instr)) (offset : ℕ) (i : Instr) (b : Bool) → (j.0 == offset) ≡ b → option_map (λ (k : ℕ × Instr). k.1) (cond b (Some j) (placed_at rest offset)) ≡ Some i
    → (instr_in rest offset ≡ Some i → has (offsets_of rest) offset ≡ true) → (b || has (offsets_of rest) offset) ≡ true
has_offset_by j rest offset i true is e more = refl
has_offset_by j rest offset i false is e more = more e

has_offset : (instrs : List (ℕ × Instr)) (offset : ℕ) (i : Instr) → instr_in instrs offset ≡ Some i → has (offsets_of instrs) offset ≡ true
has_offset [] offset i e = absurd cc
has_offset (j ∷ rest) offset i e = has_offset_by j rest offset i (j.0 == offset) refl e (has_offset rest offset i)

pub closed_from_test : (m : Member) (code : Code) (t : ℕ → KindsAt) → is_closed_table m code t ≡ true → IsClosedTable m code t
closed_from_test m code t e =
    let parts = and_parts (is_held (entry_kinds m code) (t 0)) (list_all (brings_nothing_new code.instrs t) (offsets_of code.instrs)) e in
    record {
      entry = same_at_is (merged_at (entry_kinds m code) (t 0)) (t 0) parts.0;
      flow = λ offset to i stands next.
          let here : brings_nothing_new code.instrs t offset ≡ true = all_has (brings_nothing_new code.instrs t) (offsets_of code.instrs) offset parts.1 (has_offset code.instrs offset i stands) in
          let all : list_all (λ to. is_held (after (row_of i) (t offset)) (t to)) (successors_of code.instrs (offset, i)) ≡ true =
          sym (ap (λ o. option_map_or (λ i. list_all (λ to. is_held (after (row_of i) (t offset)) (t to)) (successors_of code.instrs (offset, i))) o true) stands) ∙ here in
          same_at_is (merged_at (after (row_of i) (t offset)) (t to)) (t to)
          (all_has (λ to. is_held (after (row_of i) (t offset)) (t to)) (successors_of code.instrs (offset, i)) to all (has-from_Contains (successors_of code.instrs (offset, i)) to next));
    }

pub rounds_least : (m : Member) (code : Code) (n : ℕ) → is_closed_table m code (known_at (after_rounds m code n)) ≡ true → IsLeastTable m code (known_at (after_rounds m code n))
rounds_least m code n e = record {
  closed = closed_from_test m code (known_at (after_rounds m code n)) e;
  below = λ u closed offset. known_below u (after_rounds m code n) (rounds_below m code u closed n) offset;
}

-- ---- a method has kinds or a first conflict, and one of these

same_conflict : (m : Member) (code : Code) (t u : ℕ → KindsAt) → IsLeastTable m code t → IsLeastTable m code u → (offset : ℕ) → conflicts_at m code t offset ≡ conflicts_at m code u offset
same_conflict m code t u left right offset =
    ap (λ s. (offset == 0 && is_short_of_locals m code) || option_map_or (λ i. is_conflict m code i s) (instr_in code.instrs offset) false) (one_least m code t u left right offset)

pub kinds_or_conflict : (m : Member) (code : Code) (t u : ℕ → KindsAt) (offset : ℕ) → HasKinds m code t → HasFirstConflict m code u offset → ⊥
kinds_or_conflict m code t u offset kinds conflict =
    false≢true (sym (kinds.fitting offset) ∙ same_conflict m code t u kinds.least conflict.least offset ∙ conflict.here)

earlier : (m : Member) (code : Code) (t u : ℕ → KindsAt) (first other : ℕ) → HasFirstConflict m code t first → HasFirstConflict m code u other → first < other → ⊥
earlier m code t u first other left right below =
    false≢true (sym (right.none_before first below) ∙ same_conflict m code u t right.least left.least first ∙ left.here)

pub one_conflict : (m : Member) (code : Code) (t u : ℕ → KindsAt) (first other : ℕ) → HasFirstConflict m code t first → HasFirstConflict m code u other → first ≡ other
one_conflict m code t u first other left right =
    elim (cases_order first other) [
      | inl same ↦ same
      | inr apart ↦ elim apart [ inl below ↦ absurd (earlier m code t u first other left right below) | inr above ↦ absurd (earlier m code u t other first right left above) ]
    ]

-- ---- kinds are listed in one way

same_shown : (ks others : List KindsBefore) → map shown ks ≡ map shown others → ks ≡ others
same_shown [] [] e = refl
same_shown [] (k ∷ ks) e = absurd cc
same_shown (k ∷ ks) [] e = absurd cc
same_shown (k ∷ ks) (other ∷ others) e =
    let tails : map shown ks ≡ map shown others = cc in
    let rest = same_shown ks others tails in
    let heads : shown k ≡ shown other = cc in
    let offsets : k.offset ≡ other.offset = ap (λ (x : ℕ × KindsAt). x.0) heads in
    let states : OfKinds k.locals k.stack ≡ OfKinds other.locals other.stack = ap (λ (x : ℕ × KindsAt). x.1) heads in
    let locals : k.locals ≡ other.locals = cc in
    let stack : k.stack ≡ other.stack = cc in
    let one : k ≡ other = ap (λ o. let r : KindsBefore = record { offset = o; locals = k.locals; stack = k.stack } in r) offsets
    ∙ ap (λ ls. let r : KindsBefore = record { offset = other.offset; locals = ls; stack = k.stack } in r) locals
    ∙ ap (λ st. let r : KindsBefore = record { offset = other.offset; locals = other.locals; stack = st } in r) stack in
    ap (λ (h : KindsBefore). h ∷ ks) one ∙ ap (λ (t : List KindsBefore). other ∷ t) rest

same_tables : (t u : ℕ → KindsAt) → ((offset : ℕ) → t offset ≡ u offset) → (instrs : List (ℕ × Instr)) → map (λ (i : ℕ × Instr). let x : ℕ × KindsAt = (i.0, t i.0) in x) instrs ≡ map (λ (i : ℕ × Instr). let x : ℕ × KindsAt = (i.0, u i.0) in x) instrs
same_tables t u same [] = refl
same_tables t u same (i ∷ instrs) =
    let head : (let x : ℕ × KindsAt = (i.0, t i.0) in x) ≡ (i.0, u i.0) = ap (λ s. let x : ℕ × KindsAt = (i.0, s) in x) (same i.0) in
    let tail = same_tables t u same instrs in cc

pub one_listing : (m : Member) (code : Code) (ks others : List KindsBefore) → AreKinds m code ks → AreKinds m code others → ks ≡ others
one_listing m code ks others left right =
    same_shown ks others (left.listed ∙ same_tables left.table right.table (one_least m code left.table right.table left.has.least right.has.least) (reached_code code.instrs) ∙ sym right.listed)

-- ---- conflicts stand at instructions, or at the start

listed_by : (m : Member) (code : Code) (t : ℕ → KindsAt) (offset : ℕ) (found : Option Instr) (b : Bool) → instr_in code.instrs offset ≡ found → (0 == offset) ≡ b → (offset == 0) ≡ b
    → ((offset == 0 && is_short_of_locals m code) || option_map_or (λ i. is_conflict m code i (t offset)) found false) ≡ true → (b || has (offsets_of code.instrs) offset) ≡ true
listed_by m code t offset found true is at at' e = refl
listed_by m code t offset (Some i) false is at at' e = has_offset code.instrs offset i is
listed_by m code t offset None false is at at' e =
    absurd (false≢true (sym (ap (λ b. (b && is_short_of_locals m code) || false) at') ∙ e))

same_test : (offset : ℕ) (b : Bool) → (0 == offset) ≡ b → (offset == 0) ≡ b
same_test offset true is = eq-eqb offset 0 (sym (eqb-true 0 offset is))
same_test offset false is = ne_eqb offset 0 (λ e. eqb-false 0 offset is (sym e))

pub conflict_listed : (m : Member) (code : Code) (t : ℕ → KindsAt) (offset : ℕ) → conflicts_at m code t offset ≡ true → has (0 ∷ offsets_of code.instrs) offset ≡ true
conflict_listed m code t offset e = listed_by m code t offset (instr_in code.instrs offset) (0 == offset) refl refl (same_test offset (0 == offset) refl) e

none_by : (m : Member) (code : Code) (t : ℕ → KindsAt) (offset : ℕ) (b : Bool) → conflicts_at m code t offset ≡ b → list_all (λ o. not (conflicts_at m code t o)) (0 ∷ offsets_of code.instrs) ≡ true → b ≡ false
none_by m code t offset false is all = refl
none_by m code t offset true is all =
    absurd (let no = all_has (λ o. not (conflicts_at m code t o)) (0 ∷ offsets_of code.instrs) offset all (conflict_listed m code t offset is) in
    let yes : not (conflicts_at m code t offset) ≡ false = ap not is in false≢true (sym yes ∙ no))

pub kinds_in_rounds : (m : Member) (code : Code) (n : ℕ) → is_closed_table m code (known_at (after_rounds m code n)) ≡ true
    → list_all (λ o. not (conflicts_at m code (known_at (after_rounds m code n)) o)) (0 ∷ offsets_of code.instrs) ≡ true → HasKinds m code (known_at (after_rounds m code n))
kinds_in_rounds m code n closed all = record {
  least = rounds_least m code n closed;
  fitting = λ offset. none_by m code (known_at (after_rounds m code n)) offset (conflicts_at m code (known_at (after_rounds m code n)) offset) refl all;
}

-- What a table of kinds without conflict gives: each instruction fits what is known before it, and what it
-- leaves is known behind it.
use Rattle.std.proofs.Common.{◌≡◌, ℕ, zero, suc, ◌+◌, ◌-◌, ◌≤◌, ◌==◌, ◌||◌, not, Bool, true, false, if◌then◌else◌, List, [], ◌∷◌, ◌++◌, Option, Some, refl, sym, ap, subst, ◌∙◌, arith, length-append}
use Rattle.std.specs.Prelude.{nat_le, nat_lt, length, replicate, Contains}
use Rattle.std.specs.Option.{option_map_or}
use Rattle.std.proofs.lemmas.Bool.{eqb-true, ltb-false}
use Rattle.std.proofs.lemmas.List.{length-replicate}
use Rattle.th_syntax.specs.declared.class_file.Code.{Code}
use Rattle.th_syntax.specs.declared.class_file.Member.{Member}
use Rattle.th_syntax.specs.declared.instr.Instr.{Instr}
use Rattle.th_syntax.specs.declared.kind.SlotKind.{SlotKind}
use Rattle.th_syntax.specs.declared.kind.SlotKind.TheVariants as kind
use Rattle.th_syntax.specs.declared.machine.Value.TheVariants.{Null as NullValue}
use Rattle.th_syntax.specs.declared.machine.Slot.{Slot}
use Rattle.th_syntax.specs.declared.machine.Slot.TheVariants.{Holds}
use Rattle.th_syntax.specs.Flow.{instr_in, successors_of}
use Rattle.th_syntax.specs.Kinds.{is_same_kind, merged, merged_slots, KindsAt, NoKinds, OfKinds, DepthsDiffer, merged_at}
use Rattle.th_syntax.specs.KindRows.{row_of, slots_taken, locals_after, stack_after, after, are_wrong, is_misfit}
use Rattle.th_syntax.specs.KindTable.{argument_slots, is_conflict, is_other_return, is_short_of_locals, HasKinds}
use Rattle.th_syntax.specs.Slots.{locals_with}
use Rattle.th_runs.specs.Fitting.{IsOfKind, AreOfKinds}
use Rattle.th_runs.proofs.Fits.{BeginWithKinds, fits_length}

-- ---- tests that fail

pub first_false : (a b : Bool) → (a || b) ≡ false → a ≡ false
first_false true b e = absurd cc
first_false false b e = refl

pub second_false : (a b : Bool) → (a || b) ≡ false → b ≡ false
second_false true b e = absurd cc
second_false false b e = e

unnegated : (b : Bool) → not b ≡ false → b ≡ true
unnegated true e = refl
unnegated false e = absurd cc

-- ---- an instruction fits

pub record IsFitted (m : Member) (code : Code) (i : Instr) (ls st : List SlotKind) : Type 0 where
  pub enough : nat_le (slots_taken (row_of i)) (length st) ≡ true
  pub right : are_wrong (row_of i) ls st ≡ false
  pub other : is_other_return m i ≡ false
  pub room : length (stack_after (row_of i) st) ≤ code.max_stack

no_conflict : (m : Member) (code : Code) (t : ℕ → KindsAt) (offset : ℕ) (i : Instr) → HasKinds m code t → instr_in code.instrs offset ≡ Some i → is_conflict m code i (t offset) ≡ false
no_conflict m code t offset i kinds at =
    ap (λ (o : Option Instr). option_map_or (λ (x : Instr). is_conflict m code x (t offset)) o false) (sym at) ∙ second_false _ _ (kinds.fitting offset)

pub fitted : (m : Member) (code : Code) (t : ℕ → KindsAt) (offset : ℕ) (i : Instr) (ls st : List SlotKind) → HasKinds m code t → instr_in code.instrs offset ≡ Some i → t offset ≡ OfKinds ls st → IsFitted m code i ls st
fitted m code t offset i ls st kinds at known =
    let none : (is_misfit code.max_stack (row_of i) ls st || is_other_return m i) ≡ false = ap (is_conflict m code i) (sym known) ∙ no_conflict m code t offset i kinds at in
    let fit = first_false (is_misfit code.max_stack (row_of i) ls st) (is_other_return m i) none in
    let a = first_false (not (nat_le (slots_taken (row_of i)) (length st)) || are_wrong (row_of i) ls st) (nat_lt code.max_stack (length (stack_after (row_of i) st))) fit in
    let deep = second_false (not (nat_le (slots_taken (row_of i)) (length st)) || are_wrong (row_of i) ls st) (nat_lt code.max_stack (length (stack_after (row_of i) st))) fit in
    record {
      enough = unnegated _ (first_false (not (nat_le (slots_taken (row_of i)) (length st))) (are_wrong (row_of i) ls st) a);
      right = second_false (not (nat_le (slots_taken (row_of i)) (length st))) (are_wrong (row_of i) ls st) a;
      other = second_false (is_misfit code.max_stack (row_of i) ls st) (is_other_return m i) none;
      room = ltb-false code.max_stack (length (stack_after (row_of i) st)) deep;
    }

-- ---- what is known among what is brought

kind_by : (k b : SlotKind) (s : Slot) (x : Bool) → is_same_kind k b ≡ x → (if x then k else kind.Unusable) ≡ b → IsOfKind k s → IsOfKind b s
kind_by k b s true same e here = subst (λ (c : SlotKind). IsOfKind c s) e here
kind_by k b s false same e here = subst (λ (c : SlotKind). IsOfKind c s) e tt

head_is : (k b : SlotKind) (ks bs : List SlotKind) → k ∷ ks ≡ b ∷ bs → k ≡ b
head_is k b ks bs e = cc

tail_is : (k b : SlotKind) (ks bs : List SlotKind) → k ∷ ks ≡ b ∷ bs → ks ≡ bs
tail_is k b ks bs e = cc

known_begin : (ks bs : List SlotKind) (locals : List Slot) → merged_slots ks bs ≡ bs → BeginWithKinds ks locals → BeginWithKinds bs locals
known_begin [] [] locals e fit = tt
known_begin [] (b ∷ bs) locals e fit = absurd cc
known_begin (k ∷ ks) [] locals e fit = tt
known_begin (k ∷ ks) (b ∷ bs) [] e fit = absurd fit
known_begin (k ∷ ks) (b ∷ bs) (s ∷ locals) e fit =
    (kind_by k b s (is_same_kind k b) refl (head_is (merged k b) b (merged_slots ks bs) bs e) fit.0, known_begin ks bs locals (tail_is (merged k b) b (merged_slots ks bs) bs e) fit.1)

known_all : (ks bs : List SlotKind) (stack : List Slot) → length ks ≡ length bs → merged_slots ks bs ≡ bs → AreOfKinds ks stack → AreOfKinds bs stack
known_all [] [] stack level e fit = fit
known_all [] (b ∷ bs) stack level e fit = absurd (omega arith)
known_all (k ∷ ks) [] stack level e fit = absurd (omega arith)
known_all (k ∷ ks) (b ∷ bs) [] level e fit = absurd fit
known_all (k ∷ ks) (b ∷ bs) (s ∷ stack) level e fit =
    (kind_by k b s (is_same_kind k b) refl (head_is (merged k b) b (merged_slots ks bs) bs e) fit.0, known_all ks bs stack (omega arith) (tail_is (merged k b) b (merged_slots ks bs) bs e) fit.1)

-- what is known at an offset, to which these kinds are brought
pub record IsKnownAt (ls st : List SlotKind) (known : KindsAt) : Type 0 where
  pub local_kinds : List SlotKind
  pub stack_kinds : List SlotKind
  pub is : known ≡ OfKinds local_kinds stack_kinds
  pub locals_too : (locals : List Slot) → BeginWithKinds ls locals → BeginWithKinds local_kinds locals
  pub stack_too : (stack : List Slot) → AreOfKinds st stack → AreOfKinds stack_kinds stack

locals_are : (a b c d : List SlotKind) → (let x : KindsAt = OfKinds a b in x) ≡ OfKinds c d → a ≡ c
locals_are a b c d e = cc

stack_is : (a b c d : List SlotKind) → (let x : KindsAt = OfKinds a b in x) ≡ OfKinds c d → b ≡ d
stack_is a b c d e = cc

merged_by : (ls st others below : List SlotKind) (x : Bool) → (length st == length below) ≡ x → (if x then OfKinds (merged_slots ls others) (merged_slots st below) else DepthsDiffer) ≡ OfKinds others below → IsKnownAt ls st (OfKinds others below)
merged_by ls st others below true level e = record {
  local_kinds = others;
  stack_kinds = below;
  is = refl;
  locals_too = λ locals. known_begin ls others locals (locals_are _ _ _ _ e);
  stack_too = λ stack. known_all st below stack (eqb-true (length st) (length below) level) (stack_is _ _ _ _ e);
}
merged_by ls st others below false level e = absurd cc

brought : (ls st : List SlotKind) (known : KindsAt) → merged_at (OfKinds ls st) known ≡ known → (known ≡ DepthsDiffer → ⊥) → IsKnownAt ls st known
brought ls st NoKinds e apart = absurd cc
brought ls st DepthsDiffer e apart = absurd (apart refl)
brought ls st (OfKinds others below) e apart = merged_by ls st others below (length st == length below) refl e

not_differing : (m : Member) (code : Code) (j : Instr) (known : KindsAt) → is_conflict m code j known ≡ false → known ≡ DepthsDiffer → ⊥
not_differing m code j known none e = let h : true ≡ false = ap (is_conflict m code j) (sym e) ∙ none in cc

enough_by : (b : Bool) (ls st : List SlotKind) → b ≡ true → (if b then OfKinds ls st else DepthsDiffer) ≡ OfKinds ls st
enough_by true ls st e = refl
enough_by false ls st e = absurd cc

-- along an edge
pub along : (m : Member) (code : Code) (t : ℕ → KindsAt) (offset to : ℕ) (i j : Instr) (ls st : List SlotKind) → HasKinds m code t → instr_in code.instrs offset ≡ Some i → t offset ≡ OfKinds ls st
    → Contains (successors_of code.instrs (offset, i)) to → instr_in code.instrs to ≡ Some j → IsKnownAt (locals_after (row_of i) ls) (stack_after (row_of i) st) (t to)
along m code t offset to i j ls st kinds at known leads there =
    let fit = fitted m code t offset i ls st kinds at known in
    let behind : after (row_of i) (t offset) ≡ OfKinds (locals_after (row_of i) ls) (stack_after (row_of i) st) = ap (after (row_of i)) known ∙ enough_by _ _ _ fit.enough in
    brought (locals_after (row_of i) ls) (stack_after (row_of i) st) (t to)
    (ap (λ (k : KindsAt). merged_at k (t to)) (sym behind) ∙ kinds.least.closed.flow offset to i at leads)
    (not_differing m code j (t to) (no_conflict m code t to j kinds there))

-- ---- the entry

begin_append : (ks bs : List SlotKind) (ss ts : List Slot) → AreOfKinds ks ss → BeginWithKinds bs ts → BeginWithKinds (ks ++ bs) (ss ++ ts)
begin_append [] bs [] ts fit more = more
begin_append [] bs (s ∷ ss) ts fit more = absurd fit
begin_append (k ∷ ks) bs [] ts fit more = absurd fit
begin_append (k ∷ ks) bs (s ∷ ss) ts fit more = (fit.0, begin_append ks bs ss ts fit.1 more)

unusable_all : (n : ℕ) (s : Slot) → BeginWithKinds (replicate n kind.Unusable) (replicate n s)
unusable_all zero s = tt
unusable_all (suc n) s = (tt, unusable_all n s)

-- the arguments have room
pub room_enough : (m : Member) (code : Code) (t : ℕ → KindsAt) → HasKinds m code t → length (argument_slots m) ≤ code.max_locals
room_enough m code t kinds = ltb-false code.max_locals (length (argument_slots m)) (first_false (is_short_of_locals m code) _ (kinds.fitting 0))

by_room : (a c r l : ℕ) → a ≤ c → r ≡ c - a → l ≡ a + r → l ≡ c
by_room a c r l less e f = omega arith

locals_length : (arguments : List Slot) (count : ℕ) → length arguments ≤ count → length (locals_with arguments count) ≡ count
locals_length arguments count less =
    let whole = length-append arguments (replicate (count - length arguments) (Holds NullValue)) in
    let more = length-replicate {A = Slot} (count - length arguments) (Holds NullValue) in
    by_room (length arguments) count (length (replicate (count - length arguments) (Holds NullValue))) (length (locals_with arguments count)) less more whole

-- the kinds of the locals at the start
abbrev pub locals_of : Member → Code → List SlotKind
locals_of m code = argument_slots m ++ replicate (code.max_locals - length (argument_slots m)) kind.Unusable

-- a method's code begins
pub record IsEntry (m : Member) (code : Code) (t : ℕ → KindsAt) (arguments : List Slot) : Type 0 where
  pub known : IsKnownAt (locals_of m code) [] (t 0)
  pub locals_fit : BeginWithKinds known.local_kinds (locals_with arguments code.max_locals)
  pub count : length (locals_with arguments code.max_locals) ≡ code.max_locals

pub entered : (m : Member) (code : Code) (t : ℕ → KindsAt) (j : Instr) (arguments : List Slot) → HasKinds m code t → instr_in code.instrs 0 ≡ Some j → AreOfKinds (argument_slots m) arguments → IsEntry m code t arguments
entered m code t j arguments kinds at fit =
    let level = fits_length (argument_slots m) arguments fit in
    let room = room_enough m code t kinds in
    let known = brought (locals_of m code) [] (t 0) kinds.least.closed.entry (not_differing m code j (t 0) (no_conflict m code t 0 j kinds at)) in
    let fill : BeginWithKinds (replicate (code.max_locals - length (argument_slots m)) kind.Unusable) (replicate (code.max_locals - length arguments) (Holds NullValue)) =
    subst (λ n. BeginWithKinds (replicate (code.max_locals - length (argument_slots m)) kind.Unusable) (replicate (code.max_locals - n) (Holds NullValue))) (sym level)
    (unusable_all (code.max_locals - length (argument_slots m)) (Holds NullValue)) in
    record {
      known = known;
      locals_fit = known.locals_too (locals_with arguments code.max_locals) (begin_append (argument_slots m) (replicate (code.max_locals - length (argument_slots m)) kind.Unusable) arguments (replicate (code.max_locals - length arguments) (Holds NullValue)) fit fill);
      count = locals_length arguments code.max_locals (subst (λ n. n ≤ code.max_locals) (sym level) room);
    }

-- Slots of kinds: their parts, what is pushed and popped, and what is stored into locals.
use Rattle.std.proofs.Common.{◌≡◌, ℕ, ℤ, zero, suc, ◌+◌, ◌-◌, ◌⊎◌, inl, inr, not, Bool, true, false, if◌then◌else◌, List, [], ◌∷◌, ◌++◌, Option, None, Some, slice_get, slice_set, refl, sym, ap, subst, ◌∙◌, arith, append_assoc}
use Rattle.std.specs.Prelude.{⊤, pos, nat_le, length, take, drop, reverse}
use Rattle.std.specs.Option.{option_and_then, option_map_or}
use Rattle.std.proofs.lemmas.List.{reverse-append, length-set, take-append-drop}
use Rattle.th_base.specs.ValueKinds.{is_reference, is_long}
use Rattle.th_syntax.specs.declared.kind.SlotKind.{SlotKind}
use Rattle.th_syntax.specs.declared.kind.SlotKind.TheVariants as kind
use Rattle.th_syntax.specs.declared.instr.StackOp.{StackOp}
use Rattle.th_syntax.specs.declared.instr.StackOp.TheVariants as move
use Rattle.th_syntax.specs.declared.machine.Value.{Value}
use Rattle.th_syntax.specs.declared.machine.Value.TheVariants.{Int as IntValue, Long as LongValue, Null as NullValue, Address}
use Rattle.th_syntax.specs.declared.machine.Slot.{Slot}
use Rattle.th_syntax.specs.declared.machine.Slot.TheVariants.{Holds, SecondHalf}
use Rattle.th_syntax.specs.Kinds.{is_same_kind, are_same_kinds}
use Rattle.th_syntax.specs.KindRows.{int, long, ref, slots_taken, stack_after, without_second, without_first, changed, stored as stored_kinds, is_other_local, are_other_operands, move_row}
use Rattle.th_syntax.specs.Initial.{default_value}
use Rattle.th_syntax.specs.Slots.{reference_of, pushed, Popped, popped, popped_int, popped_long, popped_reference, dropped, copied_below, stack_moved, stored}
use Rattle.th_syntax.proofs.Inverting.{some_is}
use Rattle.th_syntax.proofs.MergingKinds.{same_kind_is}
use Rattle.th_runs.specs.Fitting.{IsOfKind, AreOfKinds, IsOfType}

-- ---- lists of slots

-- the first slots are of these kinds, one each
abbrev pub BeginWithKinds : List SlotKind → List Slot → Type 0
BeginWithKinds [] slots = ⊤
BeginWithKinds (k ∷ kinds) [] = ⊥
BeginWithKinds (k ∷ kinds) (s ∷ slots) = IsOfKind k s × BeginWithKinds kinds slots

pub begin_all : (ks : List SlotKind) (ss : List Slot) → AreOfKinds ks ss → BeginWithKinds ks ss
begin_all [] ss fit = tt
begin_all (k ∷ ks) [] fit = absurd fit
begin_all (k ∷ ks) (s ∷ ss) fit = (fit.0, begin_all ks ss fit.1)

pub all_begun : (ks : List SlotKind) (ss : List Slot) → BeginWithKinds ks ss → length ss ≡ length ks → AreOfKinds ks ss
all_begun [] [] fit level = tt
all_begun [] (s ∷ ss) fit level = absurd (omega arith)
all_begun (k ∷ ks) [] fit level = absurd fit
all_begun (k ∷ ks) (s ∷ ss) fit level = (fit.0, all_begun ks ss fit.1 (omega arith))

pub fits_length : (ks : List SlotKind) (ss : List Slot) → AreOfKinds ks ss → length ss ≡ length ks
fits_length [] [] fit = refl
fits_length [] (s ∷ ss) fit = absurd fit
fits_length (k ∷ ks) [] fit = absurd fit
fits_length (k ∷ ks) (s ∷ ss) fit = ap suc (fits_length ks ss fit.1)

pub fits_append : (ks : List SlotKind) (ss : List Slot) (bs : List SlotKind) (ts : List Slot) → AreOfKinds ks ss → AreOfKinds bs ts → AreOfKinds (ks ++ bs) (ss ++ ts)
fits_append [] [] bs ts fit more = more
fits_append [] (s ∷ ss) bs ts fit more = absurd fit
fits_append (k ∷ ks) [] bs ts fit more = absurd fit
fits_append (k ∷ ks) (s ∷ ss) bs ts fit more = (fit.0, fits_append ks ss bs ts fit.1 more)

pub fits_take : (n : ℕ) (ks : List SlotKind) (ss : List Slot) → AreOfKinds ks ss → AreOfKinds (take n ks) (take n ss)
fits_take zero ks ss fit = tt
fits_take (suc n) [] [] fit = tt
fits_take (suc n) [] (s ∷ ss) fit = absurd fit
fits_take (suc n) (k ∷ ks) [] fit = absurd fit
fits_take (suc n) (k ∷ ks) (s ∷ ss) fit = (fit.0, fits_take n ks ss fit.1)

pub fits_drop : (n : ℕ) (ks : List SlotKind) (ss : List Slot) → AreOfKinds ks ss → AreOfKinds (drop n ks) (drop n ss)
fits_drop zero ks ss fit = fit
fits_drop (suc n) [] [] fit = tt
fits_drop (suc n) [] (s ∷ ss) fit = absurd fit
fits_drop (suc n) (k ∷ ks) [] fit = absurd fit
fits_drop (suc n) (k ∷ ks) (s ∷ ss) fit = fits_drop n ks ss fit.1

reverse_cons : {A : Type 0} (x : A) (xs : List A) → reverse (x ∷ xs) ≡ reverse xs ++ x ∷ []
reverse_cons x xs = reverse-append (x ∷ []) xs

pub fits_reverse : (ks : List SlotKind) (ss : List Slot) → AreOfKinds ks ss → AreOfKinds (reverse ks) (reverse ss)
fits_reverse [] [] fit = tt
fits_reverse [] (s ∷ ss) fit = absurd fit
fits_reverse (k ∷ ks) [] fit = absurd fit
fits_reverse (k ∷ ks) (s ∷ ss) fit =
    subst (λ bs. AreOfKinds bs (reverse (s ∷ ss))) (sym (reverse_cons k ks)) (subst (AreOfKinds (reverse ks ++ k ∷ [])) (sym (reverse_cons s ss))
    (fits_append (reverse ks) (reverse ss) (k ∷ []) (s ∷ []) (fits_reverse ks ss fit.1) (fit.0, tt)))

-- the last of the slots that are taken lies deepest
pub taken_last : (k : SlotKind) (ks rest : List SlotKind) → reverse (k ∷ ks) ++ rest ≡ reverse ks ++ k ∷ rest
taken_last k ks rest = ap (λ bs. bs ++ rest) (reverse_cons k ks) ∙ append_assoc (reverse ks) (k ∷ []) rest

-- ---- kinds that are equal

kinds_by : (k b : SlotKind) (ks bs : List SlotKind) (x : Bool) → is_same_kind k b ≡ x → (if x then are_same_kinds ks bs else false) ≡ true → (are_same_kinds ks bs ≡ true → ks ≡ bs) → k ∷ ks ≡ b ∷ bs
kinds_by k b ks bs true same e rest = let head = same_kind_is k b same in let tail = rest e in cc
kinds_by k b ks bs false same e rest = absurd cc

pub kinds_are : (ks bs : List SlotKind) → are_same_kinds ks bs ≡ true → ks ≡ bs
kinds_are [] [] e = refl
kinds_are [] (b ∷ bs) e = absurd cc
kinds_are (k ∷ ks) [] e = absurd cc
kinds_are (k ∷ ks) (b ∷ bs) e = kinds_by k b ks bs (is_same_kind k b) refl e (kinds_are ks bs)

pub not_false : (b : Bool) → not b ≡ false → b ≡ true
not_false true e = refl
not_false false e = absurd cc

-- the slots that an instruction takes are on top
pub operands : (takes st : List SlotKind) (stack : List Slot) → are_other_operands takes st ≡ false → AreOfKinds st stack → AreOfKinds (reverse takes ++ drop (length takes) st) stack
operands takes st stack e fit =
    let same = kinds_are (take (length takes) st) (reverse takes) (not_false _ e) in
    subst (λ ks. AreOfKinds (ks ++ drop (length takes) st) stack) same (subst (λ ks. AreOfKinds ks stack) (sym (take-append-drop (length takes) st)) fit)

-- ---- what is popped

pub record IntTop (rest : List SlotKind) (stack : List Slot) : Type 0 where
  pub value : ℤ
  pub under : List Slot
  pub is : stack ≡ Holds (IntValue value) ∷ under
  pub fits : AreOfKinds rest under

pub int_top : (rest : List SlotKind) (stack : List Slot) → AreOfKinds (kind.Int ∷ rest) stack → IntTop rest stack
int_top rest [] fit = absurd fit
int_top rest (s ∷ under) fit = record { value = fit.0.0; under = under; is = ap (λ (x : Slot). x ∷ under) fit.0.1; fits = fit.1 }

pub record LongTop (rest : List SlotKind) (stack : List Slot) : Type 0 where
  pub value : ℤ
  pub under : List Slot
  pub is : stack ≡ SecondHalf ∷ Holds (LongValue value) ∷ under
  pub fits : AreOfKinds rest under

pub long_top : (rest : List SlotKind) (stack : List Slot) → AreOfKinds (kind.SecondHalf ∷ kind.Long ∷ rest) stack → LongTop rest stack
long_top rest [] fit = absurd fit
long_top rest (s ∷ []) fit = absurd fit.1
long_top rest (s ∷ r ∷ under) fit =
    record { value = fit.1.0.0; under = under; is = (let one = fit.0 in let two = fit.1.0.1 in cc); fits = fit.1.1 }

-- null or an address
abbrev pub IsReferenceValue : Value → Type 0
IsReferenceValue v = (v ≡ NullValue) ⊎ ((a : ℕ) × (v ≡ Address a))

pub record ReferenceTop (rest : List SlotKind) (stack : List Slot) : Type 0 where
  pub value : Value
  pub under : List Slot
  pub is : stack ≡ Holds value ∷ under
  pub proper : IsReferenceValue value
  pub fits : AreOfKinds rest under

reference_by : (rest : List SlotKind) (s : Slot) (under : List Slot) → IsOfKind kind.Ref s → AreOfKinds rest under → ReferenceTop rest (s ∷ under)
reference_by rest s under (inl null) fit = record { value = NullValue; under = under; is = ap (λ (x : Slot). x ∷ under) null; proper = inl refl; fits = fit }
reference_by rest s under (inr at) fit = record { value = Address at.0; under = under; is = ap (λ (x : Slot). x ∷ under) at.1; proper = inr (at.0, refl); fits = fit }

pub reference_top : (rest : List SlotKind) (stack : List Slot) → AreOfKinds (kind.Ref ∷ rest) stack → ReferenceTop rest stack
reference_top rest [] fit = absurd fit
reference_top rest (s ∷ under) fit = reference_by rest s under fit.0 fit.1

-- as the machine pops them
pub popped_int_is : (rest : List SlotKind) (stack : List Slot) (top : IntTop rest stack) → popped_int stack ≡ Some record { value = top.value; rest = top.under }
popped_int_is rest stack top = ap popped_int top.is

pub popped_long_is : (rest : List SlotKind) (stack : List Slot) (top : LongTop rest stack) → popped_long stack ≡ Some record { value = top.value; rest = top.under }
popped_long_is rest stack top = ap popped_long top.is

reference_value : (v : Value) → IsReferenceValue v → reference_of v ≡ Some v
reference_value v (inl e) = ap reference_of e ∙ ap (λ (w : Value). let o : Option Value = Some w in o) (sym e)
reference_value v (inr at) = ap reference_of at.1 ∙ ap (λ (w : Value). let o : Option Value = Some w in o) (sym at.1)

pub popped_reference_is : (rest : List SlotKind) (stack : List Slot) (top : ReferenceTop rest stack) → popped_reference stack ≡ Some record { value = top.value; rest = top.under }
popped_reference_is rest stack top =
    ap popped_reference top.is
    ∙ ap (option_and_then (λ (v : Value). let o : Option (Popped Value) = Some record { value = v; rest = top.under } in o)) (reference_value top.value top.proper)

-- ---- values by their type

-- the slots of a type, by the two tests of its descriptor
abbrev pub slots_by : Bool → Bool → List SlotKind
slots_by a b = if a then ref else if b then long else int

abbrev pub IsByTests : Bool → Bool → Value → Type 0
IsByTests a b v = AreOfKinds (reverse (slots_by a b)) (pushed v [])

pub record ValueTop (a b : Bool) (rest : List SlotKind) (stack : List Slot) : Type 0 where
  pub value : Value
  pub under : List Slot
  pub is : popped stack ≡ Some record { value = value; rest = under }
  pub typed : IsByTests a b value
  pub fits : AreOfKinds rest under

reference_fits : (b : Bool) (v : Value) → IsReferenceValue v → IsByTests true b v
reference_fits b v (inl e) = subst (IsByTests true b) (sym e) (inl refl, tt)
reference_fits b v (inr at) = subst (IsByTests true b) (sym at.1) (inr (at.0, refl), tt)

pub value_top : (a b : Bool) (rest : List SlotKind) (stack : List Slot) → AreOfKinds (reverse (slots_by a b) ++ rest) stack → ValueTop a b rest stack
value_top true b rest stack fit =
    let top = reference_top rest stack fit in
    record { value = top.value; under = top.under; is = ap popped top.is; typed = reference_fits b top.value top.proper; fits = top.fits }
value_top false true rest stack fit =
    let top = long_top rest stack fit in
    record { value = LongValue top.value; under = top.under; is = ap popped top.is; typed = (refl, ((top.value, refl), tt)); fits = top.fits }
value_top false false rest stack fit =
    let top = int_top rest stack fit in
    record { value = IntValue top.value; under = top.under; is = ap popped top.is; typed = ((top.value, refl), tt); fits = top.fits }

-- what is pushed lies on top
pub push_is : (v : Value) (stack : List Slot) → pushed v [] ++ stack ≡ pushed v stack
push_is (IntValue n) stack = refl
push_is (LongValue n) stack = refl
push_is NullValue stack = refl
push_is (Address a) stack = refl

pub push_fits : (slots : List SlotKind) (v : Value) (rest : List SlotKind) (stack : List Slot) → AreOfKinds (reverse slots) (pushed v []) → AreOfKinds rest stack → AreOfKinds (reverse slots ++ rest) (pushed v stack)
push_fits slots v rest stack typed fit = subst (AreOfKinds (reverse slots ++ rest)) (push_is v stack) (fits_append (reverse slots) (pushed v []) rest stack typed fit)

default_by : (a b : Bool) → IsByTests a b (if a then NullValue else if b then LongValue (pos 0) else IntValue (pos 0))
default_by true b = (inl refl, tt)
default_by false true = (refl, ((_, refl), tt))
default_by false false = ((_, refl), tt)

pub default_fits : (descriptor : List ℕ) → IsOfType descriptor (default_value descriptor)
default_fits descriptor = default_by (is_reference descriptor) (is_long descriptor)

-- ---- locals

pub local_at : (k : SlotKind) (ks : List SlotKind) (locals : List Slot) (n : ℕ) → BeginWithKinds ks locals → slice_get ks n ≡ Some k → (s : Slot) × (slice_get locals n ≡ Some s) × IsOfKind k s
local_at k [] locals n fit e = absurd cc
local_at k (b ∷ ks) [] n fit e = absurd fit
local_at k (b ∷ ks) (s ∷ locals) zero fit e = (s, refl, subst (λ (x : SlotKind). IsOfKind x s) (some_is b k e) fit.0)
local_at k (b ∷ ks) (s ∷ locals) (suc n) fit e = local_at k ks locals n fit.1 e

-- a local that isn't of another kind
kind_by : (k : SlotKind) (o : Option SlotKind) → not (option_map_or (is_same_kind k) o false) ≡ false → o ≡ Some k
kind_by k None e = absurd cc
kind_by k (Some b) e = ap (λ (x : SlotKind). Some x) (sym (same_kind_is k b (not_false _ e)))

pub local_kind : (k : SlotKind) (n : ℕ) (ks : List SlotKind) → is_other_local k n ks ≡ false → slice_get ks n ≡ Some k
local_kind k n ks e = kind_by k (slice_get ks n) e

pub set_fits : (ks : List SlotKind) (locals : List Slot) (n : ℕ) (k : SlotKind) (s : Slot) → BeginWithKinds ks locals → IsOfKind k s → BeginWithKinds (slice_set ks n k) (slice_set locals n s)
set_fits [] locals n k s fit here = tt
set_fits (b ∷ ks) [] n k s fit here = absurd fit
set_fits (b ∷ ks) (r ∷ locals) zero k s fit here = (here, fit.1)
set_fits (b ∷ ks) (r ∷ locals) (suc n) k s fit here = (fit.0, set_fits ks locals n k s fit.1 here)

-- a kind that is forgotten
changed_fits : (f : SlotKind → SlotKind) → ((k : SlotKind) (s : Slot) → IsOfKind k s → IsOfKind (f k) s) → (n : ℕ) (ks : List SlotKind) (locals : List Slot) → BeginWithKinds ks locals → BeginWithKinds (changed f n ks) locals
changed_fits f keeps n [] locals fit = tt
changed_fits f keeps n (k ∷ ks) [] fit = absurd fit
changed_fits f keeps zero (k ∷ ks) (s ∷ locals) fit = (keeps k s fit.0, fit.1)
changed_fits f keeps (suc n) (k ∷ ks) (s ∷ locals) fit = (fit.0, changed_fits f keeps n ks locals fit.1)

second_lost : (k : SlotKind) (s : Slot) → IsOfKind k s → IsOfKind (without_second k) s
second_lost kind.Int s here = here
second_lost kind.Ref s here = here
second_lost kind.Long s here = tt
second_lost kind.SecondHalf s here = here
second_lost kind.Unusable s here = tt

first_lost : (k : SlotKind) (s : Slot) → IsOfKind k s → IsOfKind (without_first k) s
first_lost kind.Int s here = here
first_lost kind.Ref s here = here
first_lost kind.Long s here = here
first_lost kind.SecondHalf s here = tt
first_lost kind.Unusable s here = tt

forgotten : (size n : ℕ) (ks : List SlotKind) (locals : List Slot) → BeginWithKinds ks locals → BeginWithKinds (changed without_second (n - 1) (changed without_first (n + size) ks)) locals
forgotten size n ks locals fit =
    changed_fits without_second second_lost (n - 1) (changed without_first (n + size) ks) locals (changed_fits without_first first_lost (n + size) ks locals fit)

pub store_int : (n : ℕ) (ks : List SlotKind) (locals : List Slot) (v : ℤ) → BeginWithKinds ks locals → BeginWithKinds (stored_kinds kind.Int n ks) (stored locals n (IntValue v))
store_int n ks locals v fit = set_fits _ locals n kind.Int (Holds (IntValue v)) (forgotten 1 n ks locals fit) (v, refl)

pub store_long : (n : ℕ) (ks : List SlotKind) (locals : List Slot) (v : ℤ) → BeginWithKinds ks locals → BeginWithKinds (stored_kinds kind.Long n ks) (stored locals n (LongValue v))
store_long n ks locals v fit =
    let level : suc n ≡ n + 1 = omega arith in
    let whole : List SlotKind = slice_set (changed without_second (n - 1) (changed without_first (n + 2) ks)) n kind.Long in
    subst (λ k. BeginWithKinds (slice_set whole k kind.SecondHalf) (stored locals n (LongValue v))) (sym level)
    (set_fits whole (slice_set locals n (Holds (LongValue v))) (n + 1) kind.SecondHalf SecondHalf (set_fits _ locals n kind.Long (Holds (LongValue v)) (forgotten 2 n ks locals fit) (v, refl)) refl)

pub store_reference : (n : ℕ) (ks : List SlotKind) (locals : List Slot) (v : Value) → IsReferenceValue v → BeginWithKinds ks locals → BeginWithKinds (stored_kinds kind.Ref n ks) (stored locals n v)
store_reference n ks locals v (inl e) fit =
    subst (λ w. BeginWithKinds (stored_kinds kind.Ref n ks) (stored locals n w)) (sym e) (set_fits _ locals n kind.Ref (Holds NullValue) (forgotten 1 n ks locals fit) (inl refl))
store_reference n ks locals v (inr at) fit =
    subst (λ w. BeginWithKinds (stored_kinds kind.Ref n ks) (stored locals n w)) (sym at.1) (set_fits _ locals n kind.Ref (Holds (Address at.0)) (forgotten 1 n ks locals fit) (inr (at.0, refl)))

pub store_length : (locals : List Slot) (n : ℕ) (v : Value) → length (stored locals n v) ≡ length locals
store_length locals n (IntValue k) = length-set locals n (Holds (IntValue k))
store_length locals n (LongValue k) = length-set (slice_set locals n (Holds (LongValue k))) (n + 1) SecondHalf ∙ length-set locals n (Holds (LongValue k))
store_length locals n NullValue = length-set locals n (Holds NullValue)
store_length locals n (Address a) = length-set locals n (Holds (Address a))

-- ---- moves on the stack

depth_enough : (n : ℕ) (ks : List SlotKind) (ss : List Slot) → nat_le n (length ks) ≡ true → AreOfKinds ks ss → nat_le n (length ss) ≡ true
depth_enough n ks ss e fit = ap (nat_le n) (fits_length ks ss fit) ∙ e

if_true : {A : Type 0} (b : Bool) (x y : A) → b ≡ true → (if b then x else y) ≡ x
if_true true x y e = refl
if_true false x y e = absurd cc

pub record IsMoved (op : StackOp) (st : List SlotKind) (stack : List Slot) : Type 0 where
  pub moved : List Slot
  pub is : stack_moved op stack ≡ Some moved
  pub fits : AreOfKinds (stack_after (move_row op) st) moved

drop_moves : (n : ℕ) (st : List SlotKind) (stack : List Slot) → nat_le n (length st) ≡ true → AreOfKinds st stack → (dropped n stack ≡ Some (drop n stack)) × AreOfKinds (drop n st) (drop n stack)
drop_moves n st stack e fit = (if_true _ _ _ (depth_enough n st stack e fit), fits_drop n st stack fit)

copy_is : (top under : ℕ) (st : List SlotKind) (stack : List Slot) → nat_le (top + under) (length st) ≡ true → AreOfKinds st stack
    → copied_below top under stack ≡ Some (take (top + under) stack ++ take top stack ++ drop (top + under) stack)
copy_is top under st stack e fit = if_true _ _ _ (depth_enough (top + under) st stack e fit)

pub moves_fit : (op : StackOp) (st : List SlotKind) (stack : List Slot) → nat_le (slots_taken (move_row op)) (length st) ≡ true → AreOfKinds st stack → IsMoved op st stack
moves_fit move.Pop st stack e fit = let d = drop_moves 1 st stack e fit in record { moved = drop 1 stack; is = d.0; fits = d.1 }
moves_fit move.Pop2 st stack e fit = let d = drop_moves 2 st stack e fit in record { moved = drop 2 stack; is = d.0; fits = d.1 }
moves_fit move.Dup [] stack e fit = absurd cc
moves_fit move.Dup (k ∷ ks) [] e fit = absurd fit
moves_fit move.Dup (k ∷ ks) (s ∷ ss) e fit = record { moved = s ∷ s ∷ ss; is = copy_is 1 0 (k ∷ ks) (s ∷ ss) e fit; fits = (fit.0, fit) }
moves_fit move.DupX1 [] stack e fit = absurd cc
moves_fit move.DupX1 (k ∷ []) stack e fit = absurd cc
moves_fit move.DupX1 (k ∷ b ∷ ks) [] e fit = absurd fit
moves_fit move.DupX1 (k ∷ b ∷ ks) (s ∷ []) e fit = absurd fit.1
moves_fit move.DupX1 (k ∷ b ∷ ks) (s ∷ r ∷ ss) e fit = record { moved = s ∷ r ∷ s ∷ ss; is = copy_is 1 1 (k ∷ b ∷ ks) (s ∷ r ∷ ss) e fit; fits = (fit.0, (fit.1.0, (fit.0, fit.1.1))) }
moves_fit move.DupX2 [] stack e fit = absurd cc
moves_fit move.DupX2 (k ∷ []) stack e fit = absurd cc
moves_fit move.DupX2 (k ∷ b ∷ []) stack e fit = absurd cc
moves_fit move.DupX2 (k ∷ b ∷ d ∷ ks) [] e fit = absurd fit
moves_fit move.DupX2 (k ∷ b ∷ d ∷ ks) (s ∷ []) e fit = absurd fit.1
moves_fit move.DupX2 (k ∷ b ∷ d ∷ ks) (s ∷ r ∷ []) e fit = absurd fit.1.1
moves_fit move.DupX2 (k ∷ b ∷ d ∷ ks) (s ∷ r ∷ q ∷ ss) e fit =
    record { moved = s ∷ r ∷ q ∷ s ∷ ss; is = copy_is 1 2 (k ∷ b ∷ d ∷ ks) (s ∷ r ∷ q ∷ ss) e fit; fits = (fit.0, (fit.1.0, (fit.1.1.0, (fit.0, fit.1.1.1)))) }
moves_fit move.Dup2 [] stack e fit = absurd cc
moves_fit move.Dup2 (k ∷ []) stack e fit = absurd cc
moves_fit move.Dup2 (k ∷ b ∷ ks) [] e fit = absurd fit
moves_fit move.Dup2 (k ∷ b ∷ ks) (s ∷ []) e fit = absurd fit.1
moves_fit move.Dup2 (k ∷ b ∷ ks) (s ∷ r ∷ ss) e fit = record { moved = s ∷ r ∷ s ∷ r ∷ ss; is = copy_is 2 0 (k ∷ b ∷ ks) (s ∷ r ∷ ss) e fit; fits = (fit.0, (fit.1.0, fit)) }
moves_fit move.Dup2X1 [] stack e fit = absurd cc
moves_fit move.Dup2X1 (k ∷ []) stack e fit = absurd cc
moves_fit move.Dup2X1 (k ∷ b ∷ []) stack e fit = absurd cc
moves_fit move.Dup2X1 (k ∷ b ∷ d ∷ ks) [] e fit = absurd fit
moves_fit move.Dup2X1 (k ∷ b ∷ d ∷ ks) (s ∷ []) e fit = absurd fit.1
moves_fit move.Dup2X1 (k ∷ b ∷ d ∷ ks) (s ∷ r ∷ []) e fit = absurd fit.1.1
moves_fit move.Dup2X1 (k ∷ b ∷ d ∷ ks) (s ∷ r ∷ q ∷ ss) e fit =
    record { moved = s ∷ r ∷ q ∷ s ∷ r ∷ ss; is = copy_is 2 1 (k ∷ b ∷ d ∷ ks) (s ∷ r ∷ q ∷ ss) e fit; fits = (fit.0, (fit.1.0, (fit.1.1.0, (fit.0, (fit.1.0, fit.1.1.1))))) }
moves_fit move.Dup2X2 [] stack e fit = absurd cc
moves_fit move.Dup2X2 (k ∷ []) stack e fit = absurd cc
moves_fit move.Dup2X2 (k ∷ b ∷ []) stack e fit = absurd cc
moves_fit move.Dup2X2 (k ∷ b ∷ d ∷ []) stack e fit = absurd cc
moves_fit move.Dup2X2 (k ∷ b ∷ d ∷ f ∷ ks) [] e fit = absurd fit
moves_fit move.Dup2X2 (k ∷ b ∷ d ∷ f ∷ ks) (s ∷ []) e fit = absurd fit.1
moves_fit move.Dup2X2 (k ∷ b ∷ d ∷ f ∷ ks) (s ∷ r ∷ []) e fit = absurd fit.1.1
moves_fit move.Dup2X2 (k ∷ b ∷ d ∷ f ∷ ks) (s ∷ r ∷ q ∷ []) e fit = absurd fit.1.1.1
moves_fit move.Dup2X2 (k ∷ b ∷ d ∷ f ∷ ks) (s ∷ r ∷ q ∷ p ∷ ss) e fit =
    record {
      moved = s ∷ r ∷ q ∷ p ∷ s ∷ r ∷ ss;
      is = copy_is 2 2 (k ∷ b ∷ d ∷ f ∷ ks) (s ∷ r ∷ q ∷ p ∷ ss) e fit;
      fits = (fit.0, (fit.1.0, (fit.1.1.0, (fit.1.1.1.0, (fit.0, (fit.1.0, fit.1.1.1.1))))));
    }
moves_fit move.Swap [] stack e fit = absurd cc
moves_fit move.Swap (k ∷ []) stack e fit = absurd cc
moves_fit move.Swap (k ∷ b ∷ ks) [] e fit = absurd fit
moves_fit move.Swap (k ∷ b ∷ ks) (s ∷ []) e fit = absurd fit.1
moves_fit move.Swap (k ∷ b ∷ ks) (s ∷ r ∷ ss) e fit = record { moved = r ∷ s ∷ ss; is = refl; fits = (fit.1.0, (fit.0, fit.1.1)) }

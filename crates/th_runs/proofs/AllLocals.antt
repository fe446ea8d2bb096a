-- The least table of a method has a kind for each of its locals, wherever it has kinds.
use Rattle.std.proofs.Common.{◌≡◌, ℕ, zero, suc, ◌+◌, ◌-◌, ◌≤◌, ◌==◌, Bool, true, false, if◌then◌else◌, List, [], ◌∷◌, ◌++◌, refl, sym, ap, subst, ◌∙◌, arith, length-append}
use Rattle.std.specs.Prelude.{nat_le, length, replicate, slice_set}
use Rattle.std.proofs.lemmas.Bool.{eq-eqb}
use Rattle.std.proofs.lemmas.List.{length-replicate, length-set}
use Rattle.th_syntax.specs.declared.class_file.Code.{Code}
use Rattle.th_syntax.specs.declared.class_file.Member.{Member}
use Rattle.th_syntax.specs.declared.kind.SlotKind.{SlotKind}
use Rattle.th_syntax.specs.declared.kind.SlotKind.TheVariants as kind
use Rattle.th_syntax.specs.Flow.{IsReached, start, onward}
use Rattle.th_syntax.specs.Kinds.{merged, merged_slots, KindsAt, NoKinds, OfKinds, DepthsDiffer}
use Rattle.th_syntax.specs.KindRows.{KindRow, Works, Loads, Stores, Increments, Moves, row_of, slots_of, slots_taken, without_second, without_first, changed, written, stored, locals_after, stack_after, after}
use Rattle.th_syntax.specs.KindTable.{argument_slots, IsHeld, IsClosedTable, HasKinds}
use Rattle.th_syntax.proofs.LeastKinds.{comes_along, comes_only_along}
use Rattle.th_syntax.proofs.MergingKinds.{merged_unusable}
use Rattle.th_runs.proofs.Tables.{locals_of, room_enough}

-- ---- lists

kinds_head : (a b : SlotKind) (xs ys : List SlotKind) → a ∷ xs ≡ b ∷ ys → a ≡ b
kinds_head a b xs ys e = cc

kinds_tail : (a b : SlotKind) (xs ys : List SlotKind) → a ∷ xs ≡ b ∷ ys → xs ≡ ys
kinds_tail a b xs ys e = cc

merged_none : (xs : List SlotKind) → merged_slots xs [] ≡ []
merged_none [] = refl
merged_none (x ∷ xs) = refl

-- kinds that merge away stay so before more
before_more : (xs more ys : List SlotKind) → merged_slots xs ys ≡ ys → merged_slots (xs ++ more) ys ≡ ys
before_more [] more [] e = merged_none more
before_more [] more (y ∷ ys) e = absurd cc
before_more (x ∷ xs) more [] e = refl
before_more (x ∷ xs) more (y ∷ ys) e =
    let head = kinds_head (merged x y) y (merged_slots xs ys) ys e in
    let tail = before_more xs more ys (kinds_tail (merged x y) y (merged_slots xs ys) ys e) in
    cc

-- and with unusable slots behind them
unusable_behind : (xs : List SlotKind) (n : ℕ) → n ≤ length xs → merged_slots xs (replicate n kind.Unusable) ≡ replicate n kind.Unusable
unusable_behind xs zero less = merged_none xs
unusable_behind [] (suc n) less = absurd (omega arith)
unusable_behind (x ∷ xs) (suc n) less = let head = merged_unusable x in let tail = unusable_behind xs n (omega arith) in cc

with_unusable : (xs ys : List SlotKind) (n : ℕ) → merged_slots xs ys ≡ ys → length ys + n ≤ length xs → merged_slots xs (ys ++ replicate n kind.Unusable) ≡ ys ++ replicate n kind.Unusable
with_unusable xs [] n e less = unusable_behind xs n (omega arith)
with_unusable [] (y ∷ ys) n e less = absurd cc
with_unusable (x ∷ xs) (y ∷ ys) n e less =
    let head = kinds_head (merged x y) y (merged_slots xs ys) ys e in
    let tail = with_unusable xs ys n (kinds_tail (merged x y) y (merged_slots xs ys) ys e) (omega arith) in
    cc

merged_shorter : (xs ys : List SlotKind) → merged_slots xs ys ≡ ys → length ys ≤ length xs
merged_shorter xs [] e = omega arith
merged_shorter [] (y ∷ ys) e = absurd cc
merged_shorter (x ∷ xs) (y ∷ ys) e = let rest = merged_shorter xs ys (kinds_tail (merged x y) y (merged_slots xs ys) ys e) in omega arith

-- ---- what an instruction makes of more locals

abbrev IsMore : List SlotKind → List SlotKind → Type 0
IsMore xs longer = (more : List SlotKind) × (longer ≡ xs ++ more)

set_more : (xs more : List SlotKind) (n : ℕ) (k : SlotKind) → IsMore (slice_set xs n k) (slice_set (xs ++ more) n k)
set_more [] more n k = (slice_set more n k, refl)
set_more (x ∷ xs) more zero k = (more, refl)
set_more (x ∷ xs) more (suc n) k = let rest = set_more xs more n k in (rest.0, ap (λ ys. x ∷ ys) rest.1)

changed_more : (f : SlotKind → SlotKind) (n : ℕ) (xs more : List SlotKind) → IsMore (changed f n xs) (changed f n (xs ++ more))
changed_more f n [] more = (changed f n more, refl)
changed_more f zero (x ∷ xs) more = (more, refl)
changed_more f (suc n) (x ∷ xs) more = let rest = changed_more f n xs more in (rest.0, ap (λ ys. x ∷ ys) rest.1)

written_more : (ks : List SlotKind) (n : ℕ) (xs more : List SlotKind) → IsMore (written ks n xs) (written ks n (xs ++ more))
written_more [] n xs more = (more, refl)
written_more (k ∷ ks) n xs more =
    let one = set_more xs more n k in
    let rest = written_more ks (suc n) (slice_set xs n k) one.0 in
    (rest.0, ap (written ks (suc n)) one.1 ∙ rest.1)

stored_more : (value : SlotKind) (n : ℕ) (xs more : List SlotKind) → IsMore (stored value n xs) (stored value n (xs ++ more))
stored_more value n xs more =
    let size : ℕ = length (slots_of value) in
    let first = changed_more without_first (n + size) xs more in
    let second = changed_more without_second (n - 1) (changed without_first (n + size) xs) first.0 in
    let whole = written_more (slots_of value) n (changed without_second (n - 1) (changed without_first (n + size) xs)) second.0 in
    (whole.0, ap (λ ys. written (slots_of value) n (changed without_second (n - 1) ys)) first.1 ∙ ap (written (slots_of value) n) second.1 ∙ whole.1)

locals_more : (row : KindRow) (xs more : List SlotKind) → IsMore (locals_after row xs) (locals_after row (xs ++ more))
locals_more (Works takes gives) xs more = (more, refl)
locals_more (Loads value n) xs more = (more, refl)
locals_more (Stores value n) xs more = stored_more value n xs more
locals_more (Increments n) xs more = stored_more kind.Int n xs more
locals_more (Moves groups places) xs more = (more, refl)

written_length : (ks : List SlotKind) (n : ℕ) (xs : List SlotKind) → length (written ks n xs) ≡ length xs
written_length [] n xs = refl
written_length (k ∷ ks) n xs = written_length ks (suc n) (slice_set xs n k) ∙ length-set xs n k

stored_length : (value : SlotKind) (n : ℕ) (xs : List SlotKind) → length (stored value n xs) ≡ length xs
stored_length value n xs =
    let size : ℕ = length (slots_of value) in
    written_length (slots_of value) n (changed without_second (n - 1) (changed without_first (n + size) xs))
    ∙ length-set (changed without_first (n + size) xs) (n - 1) _ ∙ length-set xs (n + size) _

pub after_length : (row : KindRow) (xs : List SlotKind) → length (locals_after row xs) ≡ length xs
after_length (Works takes gives) xs = refl
after_length (Loads value n) xs = refl
after_length (Stores value n) xs = stored_length value n xs
after_length (Increments n) xs = stored_length kind.Int n xs
after_length (Moves groups places) xs = refl

-- ---- the table with more locals

-- with unusable locals behind the known ones, so that there are at least so many
padded : ℕ → List SlotKind → List SlotKind
padded count xs = xs ++ replicate (count - length xs) kind.Unusable

abbrev padded_at : ℕ → KindsAt → KindsAt
padded_at count NoKinds = NoKinds
padded_at count (OfKinds locals stack) = OfKinds (locals ++ replicate (count - length locals) kind.Unusable) stack
padded_at count DepthsDiffer = DepthsDiffer

padded_length : (count : ℕ) (xs : List SlotKind) → count ≤ length (xs ++ replicate (count - length xs) kind.Unusable)
padded_length count xs =
    let whole = length-append xs (replicate (count - length xs) kind.Unusable) in
    let more = length-replicate {A = SlotKind} (count - length xs) kind.Unusable in
    by_length count (length xs) (length (replicate (count - length xs) kind.Unusable)) (length (xs ++ replicate (count - length xs) kind.Unusable)) more whole
  where
    by_length : (c a r l : ℕ) → r ≡ c - a → l ≡ a + r → c ≤ l
    by_length c a r l e f = omega arith

locals_is : (a b c d : List SlotKind) → (let x : KindsAt = OfKinds a b in x) ≡ OfKinds c d → a ≡ c
locals_is a b c d e = cc

stack_is : (a b c d : List SlotKind) → (let x : KindsAt = OfKinds a b in x) ≡ OfKinds c d → b ≡ d
stack_is a b c d e = cc

padded_by : (count : ℕ) (xs more st others below : List SlotKind) (b : Bool) → count ≤ length (xs ++ more) → (if b then OfKinds (merged_slots xs others) (merged_slots st below) else DepthsDiffer) ≡ OfKinds others below
    → (if b then OfKinds (merged_slots (xs ++ more) (others ++ replicate (count - length others) kind.Unusable)) (merged_slots st below) else DepthsDiffer) ≡ OfKinds (others ++ replicate (count - length others) kind.Unusable) below
padded_by count xs more st others below true room e =
    let locals = locals_is (merged_slots xs others) (merged_slots st below) others below e in
    let stack = stack_is (merged_slots xs others) (merged_slots st below) others below e in
    let shorter = merged_shorter xs others locals in
    let level = length-append xs more in
    let fits : length others + (count - length others) ≤ length (xs ++ more) = fits_by (length others) count (length xs) (length more) (length (xs ++ more)) shorter room level in
    ap (λ ks. OfKinds ks (merged_slots st below)) (with_unusable (xs ++ more) others (count - length others) (before_more xs more others locals) fits) ∙ ap (OfKinds (others ++ replicate (count - length others) kind.Unusable)) stack
  where
    fits_by : (o c x m l : ℕ) → o ≤ x → c ≤ l → l ≡ x + m → o + (c - o) ≤ l
    fits_by o c x m l less room level = omega arith
padded_by count xs more st others below false room e = absurd cc

held_padded : (count : ℕ) (xs more st : List SlotKind) (known : KindsAt) → count ≤ length (xs ++ more) → IsHeld (OfKinds xs st) known → IsHeld (OfKinds (xs ++ more) st) (padded_at count known)
held_padded count xs more st NoKinds room e = absurd cc
held_padded count xs more st DepthsDiffer room e = refl
held_padded count xs more st (OfKinds others below) room e = padded_by count xs more st others below (length st == length below) room e

-- what an instruction brings on
brings_by : (count : ℕ) (row : KindRow) (ls st : List SlotKind) (known : KindsAt) (b : Bool) → IsHeld (if b then OfKinds (locals_after row ls) (stack_after row st) else DepthsDiffer) known
    → IsHeld (if b then OfKinds (locals_after row (ls ++ replicate (count - length ls) kind.Unusable)) (stack_after row st) else DepthsDiffer) (padded_at count known)
brings_by count row ls st known true held =
    let longer = locals_more row ls (replicate (count - length ls) kind.Unusable) in
    let room : count ≤ length (locals_after row (ls ++ replicate (count - length ls) kind.Unusable)) = subst (λ n. count ≤ n) (sym (after_length row (ls ++ replicate (count - length ls) kind.Unusable))) (padded_length count ls) in
    subst (λ ks. IsHeld (OfKinds ks (stack_after row st)) (padded_at count known)) (sym longer.1)
    (held_padded count (locals_after row ls) longer.0 (stack_after row st) known (subst (λ ks. count ≤ length ks) longer.1 room) held)
brings_by count row ls st known false held = ap (padded_at count) held

brings_on : (count : ℕ) (row : KindRow) (here known : KindsAt) → IsHeld (after row here) known → IsHeld (after row (padded_at count here)) (padded_at count known)
brings_on count row NoKinds known held = refl
brings_on count row DepthsDiffer known held = ap (padded_at count) held
brings_on count row (OfKinds ls st) known held = brings_by count row ls st known (nat_le (slots_taken row) (length st)) held

-- ---- all locals

entry_by : (a c r l : ℕ) → a ≤ c → r ≡ c - a → l ≡ a + r → l ≡ c
entry_by a c r l less e f = omega arith

entry_length : (m : Member) (code : Code) (t : ℕ → KindsAt) → HasKinds m code t → length (locals_of m code) ≡ code.max_locals
entry_length m code t kinds =
    let whole = length-append (argument_slots m) (replicate (code.max_locals - length (argument_slots m)) kind.Unusable) in
    let more = length-replicate {A = SlotKind} (code.max_locals - length (argument_slots m)) kind.Unusable in
    entry_by (length (argument_slots m)) code.max_locals (length (replicate (code.max_locals - length (argument_slots m)) kind.Unusable)) (length (locals_of m code)) (room_enough m code t kinds) more whole

plus_none : (xs : List SlotKind) → xs ≡ xs ++ []
plus_none [] = refl
plus_none (x ∷ xs) = ap (λ ys. x ∷ ys) (plus_none xs)

closed_padded : (m : Member) (code : Code) (t : ℕ → KindsAt) → HasKinds m code t → IsClosedTable m code (λ offset. padded_at code.max_locals (t offset))
closed_padded m code t kinds = record {
  entry =
      let level : code.max_locals ≤ length (locals_of m code ++ []) = subst (λ ks. code.max_locals ≤ length ks) (plus_none (locals_of m code)) (let e = entry_length m code t kinds in omega arith) in
      subst (λ ks. IsHeld (OfKinds ks []) (padded_at code.max_locals (t 0))) (sym (plus_none (locals_of m code))) (held_padded code.max_locals (locals_of m code) [] [] (t 0) level kinds.least.closed.entry);
  flow = λ offset to i at leads. brings_on code.max_locals (row_of i) (t offset) (t to) (kinds.least.closed.flow offset to i at leads);
}

least_by : (count : ℕ) (ls st : List SlotKind) (b : Bool) → b ≡ true → (if b then OfKinds (merged_slots ls (ls ++ replicate (count - length ls) kind.Unusable)) (merged_slots st st) else DepthsDiffer) ≡ OfKinds (ls ++ replicate (count - length ls) kind.Unusable) st → count ≤ length ls
least_by count ls st true is e =
    let longer = merged_shorter ls (ls ++ replicate (count - length ls) kind.Unusable) (locals_is _ _ _ _ e) in let enough = padded_length count ls in omega arith
least_by count ls st false is e = absurd cc

at_least : (m : Member) (code : Code) (t : ℕ → KindsAt) (offset : ℕ) (ls st : List SlotKind) → HasKinds m code t → t offset ≡ OfKinds ls st → code.max_locals ≤ length ls
at_least m code t offset ls st kinds known =
    let held : IsHeld (t offset) (padded_at code.max_locals (t offset)) = kinds.least.below (λ o. padded_at code.max_locals (t o)) (closed_padded m code t kinds) offset in
    let here : IsHeld (OfKinds ls st) (padded_at code.max_locals (OfKinds ls st)) = subst (λ (k : KindsAt). IsHeld k (padded_at code.max_locals k)) known held in
    least_by code.max_locals ls st (length st == length st) (eq-eqb (length st) (length st) refl) here

abbrev IsAtMost : ℕ → KindsAt → Type 0
IsAtMost count known = (ls st : List SlotKind) → known ≡ OfKinds ls st → length ls ≤ count

most_by : (xs st ls below : List SlotKind) (b : Bool) → (if b then OfKinds (merged_slots xs ls) (merged_slots st below) else DepthsDiffer) ≡ OfKinds ls below → length ls ≤ length xs
most_by xs st ls below true e = merged_shorter xs ls (locals_is _ _ _ _ e)
most_by xs st ls below false e = absurd cc

held_most : (xs st : List SlotKind) (known : KindsAt) (ls below : List SlotKind) → IsHeld (OfKinds xs st) known → known ≡ OfKinds ls below → length ls ≤ length xs
held_most xs st known ls below held e =
    most_by xs st ls below (length st == length below) (subst (λ (k : KindsAt). IsHeld (OfKinds xs st) k) e held)

brought_most : (count : ℕ) (row : KindRow) (ls st : List SlotKind) (known : KindsAt) (b : Bool) → length ls ≤ count → IsHeld (if b then OfKinds (locals_after row ls) (stack_after row st) else DepthsDiffer) known → IsAtMost count known
brought_most count row ls st known true less held others below e =
    let shorter = held_most (locals_after row ls) (stack_after row st) known others below held e in let level = after_length row ls in omega arith
brought_most count row ls st known false less held others below e = absurd (let h : (let x : KindsAt = DepthsDiffer in x) ≡ OfKinds others below = held ∙ e in cc)

step_most : (count : ℕ) (row : KindRow) (here known : KindsAt) → (here ≡ NoKinds → ⊥) → IsAtMost count here → IsHeld (after row here) known → IsAtMost count known
step_most count row NoKinds known some most held = absurd (some refl)
step_most count row DepthsDiffer known some most held = λ others below e. absurd (let h : (let x : KindsAt = DepthsDiffer in x) ≡ OfKinds others below = held ∙ e in cc)
step_most count row (OfKinds ls st) known some most held = brought_most count row ls st known (nat_le (slots_taken row) (length st)) (most ls st refl) held

at_most : (m : Member) (code : Code) (t : ℕ → KindsAt) {offset : ℕ} → HasKinds m code t → IsReached code.instrs offset → IsAtMost code.max_locals (t offset)
at_most m code t kinds start = λ ls st e. let shorter = held_most (locals_of m code) [] (t 0) ls st kinds.least.closed.entry e in let level = entry_length m code t kinds in omega arith
at_most m code t kinds (onward {offset} {to} {i} before at leads) =
    step_most code.max_locals (row_of i) (t offset) (t to) (comes_along m code t kinds.least.closed offset before) (at_most m code t kinds before) (kinds.least.closed.flow offset to i at leads)

-- the table has as many kinds of locals as there are locals
pub all_locals : (m : Member) (code : Code) (t : ℕ → KindsAt) (offset : ℕ) (ls st : List SlotKind) → HasKinds m code t → t offset ≡ OfKinds ls st → length ls ≡ code.max_locals
all_locals m code t offset ls st kinds known =
    let least = at_least m code t offset ls st kinds known in
    let most = at_most m code t kinds (comes_only_along m code t kinds.least offset (λ none. let h : (let x : KindsAt = NoKinds in x) ≡ OfKinds ls st = sym none ∙ known in cc)) ls st known in
    omega arith

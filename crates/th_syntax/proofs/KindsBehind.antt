-- What an instruction makes of two kinds that are merged is what it makes of each, merged.
use Rattle.std.proofs.Common.{◌≡◌, ℕ, zero, suc, ◌+◌, ◌-◌, ◌≤◌, ◌==◌, Bool, true, false, cond, List, [], ◌∷◌, ◌++◌, length, map, drop, reverse, get_or, set, refl, sym, ap, ◌∙◌, arith, length-append}
use Rattle.std.specs.Prelude.{nat_le}
use Rattle.std.proofs.lemmas.Bool.{eq-eqb, eqb-true, ne_eqb, eqb-false, leb-true, leb-false}
use Rattle.std.proofs.lemmas.List.{length-drop, length-map}
use Rattle.th_syntax.specs.declared.kind.SlotKind.TheVariants as kind
use Rattle.th_syntax.specs.Kinds.{SlotKind, merged, merged_slots, KindsAt, NoKinds, OfKinds, DepthsDiffer, merged_at}
use Rattle.th_syntax.specs.KindRows.{KindRow, Works, Loads, Stores, Increments, Moves, slots_of, slots_taken, slots_given, stack_after, without_second, without_first, changed, written, stored, locals_after, after}
use Rattle.th_syntax.proofs.MergingKinds.{merged_self, merged_unusable, unusable_merged, slots_self, length-slots, at_none, at_differ}

-- ---- lists

slots_none : (ks : List SlotKind) → merged_slots ks [] ≡ []
slots_none [] = refl
slots_none (a ∷ ks) = refl

set_merged : (xs ys : List SlotKind) (n : ℕ) (a b : SlotKind) → merged_slots (set xs n a) (set ys n b) ≡ set (merged_slots xs ys) n (merged a b)
set_merged [] ys n a b = refl
set_merged (x ∷ xs) [] zero a b = refl
set_merged (x ∷ xs) [] (suc n) a b = refl
set_merged (x ∷ xs) (y ∷ ys) zero a b = refl
set_merged (x ∷ xs) (y ∷ ys) (suc n) a b = ap (λ rest. merged x y ∷ rest) (set_merged xs ys n a b)

get_merged : (xs ys : List SlotKind) (n : ℕ) → get_or (merged_slots xs ys) n kind.Unusable ≡ merged (get_or xs n kind.Unusable) (get_or ys n kind.Unusable)
get_merged [] ys n = sym (unusable_merged (get_or ys n kind.Unusable))
get_merged (x ∷ xs) [] n = sym (merged_unusable (get_or (x ∷ xs) n kind.Unusable))
get_merged (x ∷ xs) (y ∷ ys) zero = refl
get_merged (x ∷ xs) (y ∷ ys) (suc n) = get_merged xs ys n

drop_merged : (n : ℕ) (xs ys : List SlotKind) → drop n (merged_slots xs ys) ≡ merged_slots (drop n xs) (drop n ys)
drop_merged zero xs ys = refl
drop_merged (suc n) [] ys = refl
drop_merged (suc n) (x ∷ xs) [] = sym (slots_none (drop n xs))
drop_merged (suc n) (x ∷ xs) (y ∷ ys) = drop_merged n xs ys

append_merged : (ks bs xs ys : List SlotKind) → length ks ≡ length bs → merged_slots (ks ++ xs) (bs ++ ys) ≡ merged_slots ks bs ++ merged_slots xs ys
append_merged [] [] xs ys e = refl
append_merged [] (b ∷ bs) xs ys e = absurd (omega arith)
append_merged (a ∷ ks) [] xs ys e = absurd (omega arith)
append_merged (a ∷ ks) (b ∷ bs) xs ys e = ap (λ rest. merged a b ∷ rest) (append_merged ks bs xs ys (omega arith))

-- ---- locals

second_merged : (a b : SlotKind) → without_second (merged a b) ≡ merged (without_second a) (without_second b)
second_merged kind.Int kind.Int = refl
second_merged kind.Ref kind.Ref = refl
second_merged kind.Long kind.Long = refl
second_merged kind.SecondHalf kind.SecondHalf = refl
second_merged kind.Unusable kind.Unusable = refl
second_merged a b = refl

first_merged : (a b : SlotKind) → without_first (merged a b) ≡ merged (without_first a) (without_first b)
first_merged kind.Int kind.Int = refl
first_merged kind.Ref kind.Ref = refl
first_merged kind.Long kind.Long = refl
first_merged kind.SecondHalf kind.SecondHalf = refl
first_merged kind.Unusable kind.Unusable = refl
first_merged a b = refl

changed_merged : (f : SlotKind → SlotKind) → ((a b : SlotKind) → f (merged a b) ≡ merged (f a) (f b)) → (n : ℕ) (xs ys : List SlotKind)
    → changed f n (merged_slots xs ys) ≡ merged_slots (changed f n xs) (changed f n ys)
changed_merged f keeps n xs ys =
    ap (λ k. set (merged_slots xs ys) n (f k)) (get_merged xs ys n) ∙ ap (set (merged_slots xs ys) n) (keeps (get_or xs n kind.Unusable) (get_or ys n kind.Unusable))
    ∙ sym (set_merged xs ys n (f (get_or xs n kind.Unusable)) (f (get_or ys n kind.Unusable)))

written_merged : (ks : List SlotKind) (n : ℕ) (xs ys : List SlotKind) → written ks n (merged_slots xs ys) ≡ merged_slots (written ks n xs) (written ks n ys)
written_merged [] n xs ys = refl
written_merged (k ∷ ks) n xs ys =
    ap (λ same. written ks (suc n) (set (merged_slots xs ys) n same)) (sym (merged_self k))
    ∙ ap (written ks (suc n)) (sym (set_merged xs ys n k k)) ∙ written_merged ks (suc n) (set xs n k) (set ys n k)

stored_merged : (k : SlotKind) (n : ℕ) (xs ys : List SlotKind) → stored k n (merged_slots xs ys) ≡ merged_slots (stored k n xs) (stored k n ys)
stored_merged k n xs ys =
    ap (λ locals. written (slots_of k) n (changed without_second (n - 1) locals)) (changed_merged without_first first_merged (n + length (slots_of k)) xs ys)
    ∙ ap (written (slots_of k) n) (changed_merged without_second second_merged (n - 1) (changed without_first (n + length (slots_of k)) xs) (changed without_first (n + length (slots_of k)) ys))
    ∙ written_merged (slots_of k) n (changed without_second (n - 1) (changed without_first (n + length (slots_of k)) xs)) (changed without_second (n - 1) (changed without_first (n + length (slots_of k)) ys))

locals_merged : (row : KindRow) (xs ys : List SlotKind) → locals_after row (merged_slots xs ys) ≡ merged_slots (locals_after row xs) (locals_after row ys)
locals_merged (Works takes gives) xs ys = refl
locals_merged (Loads value local) xs ys = refl
locals_merged (Stores value local) xs ys = stored_merged value local xs ys
locals_merged (Increments local) xs ys = stored_merged kind.Int local xs ys
locals_merged (Moves groups places) xs ys = refl

-- ---- stacks

places_merged : (places : List ℕ) (xs ys : List SlotKind)
    → map (λ place. get_or (merged_slots xs ys) place kind.Unusable) places
    ≡ merged_slots (map (λ place. get_or xs place kind.Unusable) places) (map (λ place. get_or ys place kind.Unusable) places)
places_merged [] xs ys = refl
places_merged (place ∷ places) xs ys = let head = get_merged xs ys place in let tail = places_merged places xs ys in cc

given_merged : (row : KindRow) (xs ys : List SlotKind) → slots_given row (merged_slots xs ys) ≡ merged_slots (slots_given row xs) (slots_given row ys)
given_merged (Works takes gives) xs ys = sym (slots_self (reverse gives))
given_merged (Loads value local) xs ys = sym (slots_self (reverse (slots_of value)))
given_merged (Stores value local) xs ys = refl
given_merged (Increments local) xs ys = refl
given_merged (Moves groups places) xs ys = places_merged places xs ys

pub length-given : (row : KindRow) (xs ys : List SlotKind) → length (slots_given row xs) ≡ length (slots_given row ys)
length-given (Works takes gives) xs ys = refl
length-given (Loads value local) xs ys = refl
length-given (Stores value local) xs ys = refl
length-given (Increments local) xs ys = refl
length-given (Moves groups places) xs ys = length-map places (λ place. get_or xs place kind.Unusable) ∙ sym (length-map places (λ place. get_or ys place kind.Unusable))

stack_merged : (row : KindRow) (xs ys : List SlotKind) → stack_after row (merged_slots xs ys) ≡ merged_slots (stack_after row xs) (stack_after row ys)
stack_merged row xs ys =
    ap (λ given. given ++ drop (slots_taken row) (merged_slots xs ys)) (given_merged row xs ys)
    ∙ ap (λ rest. merged_slots (slots_given row xs) (slots_given row ys) ++ rest) (drop_merged (slots_taken row) xs ys)
    ∙ sym (append_merged (slots_given row xs) (slots_given row ys) (drop (slots_taken row) xs) (drop (slots_taken row) ys) (length-given row xs ys))

length-stack_after : (row : KindRow) (xs : List SlotKind) → length (stack_after row xs) ≡ length (slots_given row xs) + (length xs - slots_taken row)
length-stack_after row xs = length-append (slots_given row xs) (drop (slots_taken row) xs) ∙ ap (λ n. length (slots_given row xs) + n) (length-drop (slots_taken row) xs)

-- ---- what is known

-- the depths behind are equal where those before are, if no operand is missing
behind_equal : (row : KindRow) (s s' : List SlotKind) → length s ≡ length s' → length (stack_after row s) ≡ length (stack_after row s')
behind_equal row s s' e =
    length-stack_after row s ∙ ap (λ n. n + (length s - slots_taken row)) (length-given row s s') ∙ ap (λ n. length (slots_given row s') + (n - slots_taken row)) e ∙ sym (length-stack_after row s')

behind_differ : (row : KindRow) (s s' : List SlotKind) → slots_taken row ≤ length s → slots_taken row ≤ length s' → (length s ≡ length s' → ⊥) → length (stack_after row s) ≡ length (stack_after row s') → ⊥
behind_differ row s s' here there apart e =
    let one = length-stack_after row s in let two = length-stack_after row s' in let given = length-given row s s' in apart (omega arith)

behind_by : (row : KindRow) (l s l' s' : List SlotKind) (x y z : Bool) → (length s == length s') ≡ x → nat_le (slots_taken row) (length s) ≡ y → nat_le (slots_taken row) (length s') ≡ z
    → after row (cond x (OfKinds (merged_slots l l') (merged_slots s s')) DepthsDiffer)
    ≡ merged_at (cond y (OfKinds (locals_after row l) (stack_after row s)) DepthsDiffer) (cond z (OfKinds (locals_after row l') (stack_after row s')) DepthsDiffer)
behind_by row l s l' s' true true true same here there =
    let depths = eqb-true (length s) (length s') same in
    let enough : nat_le (slots_taken row) (length (merged_slots s s')) ≡ true = ap (nat_le (slots_taken row)) (length-slots s s' depths) ∙ here in
    let behind : (length (stack_after row s) == length (stack_after row s')) ≡ true = eq-eqb (length (stack_after row s)) (length (stack_after row s')) (behind_equal row s s' depths) in
    let locals = locals_merged row l l' in
    let stack = stack_merged row s s' in
    ap (λ b. cond b (OfKinds (locals_after row (merged_slots l l')) (stack_after row (merged_slots s s'))) DepthsDiffer) enough
    ∙ ap (λ ls. OfKinds ls (stack_after row (merged_slots s s'))) locals ∙ ap (OfKinds (merged_slots (locals_after row l) (locals_after row l'))) stack
    ∙ sym (ap (λ b. cond b (OfKinds (merged_slots (locals_after row l) (locals_after row l')) (merged_slots (stack_after row s) (stack_after row s'))) DepthsDiffer) behind)
behind_by row l s l' s' true true false same here there =
    absurd (let depths = eqb-true (length s) (length s') same in let one = leb-true (slots_taken row) (length s) here in let two = leb-false (slots_taken row) (length s') there in omega arith)
behind_by row l s l' s' true false true same here there =
    absurd (let depths = eqb-true (length s) (length s') same in let one = leb-false (slots_taken row) (length s) here in let two = leb-true (slots_taken row) (length s') there in omega arith)
behind_by row l s l' s' true false false same here there =
    let depths = eqb-true (length s) (length s') same in
    let missing : nat_le (slots_taken row) (length (merged_slots s s')) ≡ false = ap (nat_le (slots_taken row)) (length-slots s s' depths) ∙ here in
    ap (λ b. cond b (OfKinds (locals_after row (merged_slots l l')) (stack_after row (merged_slots s s'))) DepthsDiffer) missing
behind_by row l s l' s' false true true same here there =
    let one = leb-true (slots_taken row) (length s) here in let two = leb-true (slots_taken row) (length s') there in
    let behind : (length (stack_after row s) == length (stack_after row s')) ≡ false = ne_eqb (length (stack_after row s)) (length (stack_after row s')) (behind_differ row s s' one two (eqb-false (length s) (length s') same)) in
    sym (ap (λ b. cond b (OfKinds (merged_slots (locals_after row l) (locals_after row l')) (merged_slots (stack_after row s) (stack_after row s'))) DepthsDiffer) behind)
behind_by row l s l' s' false true false same here there = refl
behind_by row l s l' s' false false z same here there = refl

pub after_merged : (row : KindRow) (s t : KindsAt) → after row (merged_at s t) ≡ merged_at (after row s) (after row t)
after_merged row NoKinds t = refl
after_merged row DepthsDiffer t = refl
after_merged row (OfKinds l s) NoKinds = sym (at_none (after row (OfKinds l s)))
after_merged row (OfKinds l s) DepthsDiffer = sym (at_differ (after row (OfKinds l s)))
after_merged row (OfKinds l s) (OfKinds l' s') =
    behind_by row l s l' s' (length s == length s') (nat_le (slots_taken row) (length s)) (nat_le (slots_taken row) (length s')) refl refl refl

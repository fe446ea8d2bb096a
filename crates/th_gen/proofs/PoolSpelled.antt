-- The pool of a class is spelled: its bytes are the items of a constant pool, with these entries.
use Rattle.std.proofs.Common.{◌≡◌, ℕ, suc, ◌+◌, ◌*◌, ◌-◌, ◌/◌, ◌%◌, ◌<◌, ◌^◌, Bool, true, false, ◌&&◌, List, [], ◌∷◌, ◌++◌, length, Option, Some, None, refl, sym, ap, subst, ◌∙◌, arith}
use Rattle.std.specs.Prelude.{not, ◌==◌, nat_lt, ℤ, FitsSigned}
use Rattle.std.specs.List.{flat_map, AllByRecursion}
use Rattle.std.specs.Int.{w32, w64, cast_signed, cast_unsigned}
use Rattle.std.proofs.lemmas.Bool.{ne_eqb, lt-ltb}
use Rattle.std.proofs.lemmas.Int.{to_z-of_z, ints}
use Rattle.th_syntax.specs.declared.cause.TheConstants as cause
use Rattle.th_syntax.specs.declared.tag.TheConstants as tag
use Rattle.th_syntax.specs.Forms.{whole, ◌>>=◌, Placed}
use Rattle.th_syntax.specs.ClassBytes.{Entry, utf8, integer, long, class, string, field, method, interface_method, name_and_type, tag_of, is_tag, is_wide, Pool}
use Rattle.th_syntax.specs.ClassBytes as form
use Rattle.th_gen.specs.declared.item.PoolItem.{PoolItem}
use Rattle.th_gen.specs.declared.item.PoolItem.TheVariants.{Utf8, Integer, LongInteger, ClassName, StringText, NameAndType, FieldRef, MethodRef, InterfaceMethodRef}
use Rattle.th_gen.specs.Items.{width, index_behind, index_of, pool_count}
use Rattle.th_gen.specs.ClassText as text
use Rattle.th_gen.proofs.Spells.{Spells, spells_then, spells_whole, spells_made, spells_demand, u1_spells, u2_spells, u4_spells, u2_length, run_spells}

-- ---- the entries, with indices

abbrev pub raw_entry : List PoolItem → PoolItem → Entry
raw_entry pool (Utf8 bytes) = utf8 bytes
raw_entry pool (Integer value) = integer value
raw_entry pool (LongInteger value) = long value
raw_entry pool (ClassName name) = class (index_of pool (Utf8 name))
raw_entry pool (StringText bytes) = string (index_of pool (Utf8 bytes))
raw_entry pool (NameAndType name descriptor) = name_and_type (index_of pool (Utf8 name)) (index_of pool (Utf8 descriptor))
raw_entry pool (FieldRef m) = field (index_of pool (ClassName m.owner)) (index_of pool (NameAndType m.name m.descriptor))
raw_entry pool (MethodRef m) = method (index_of pool (ClassName m.owner)) (index_of pool (NameAndType m.name m.descriptor))
raw_entry pool (InterfaceMethodRef m) = interface_method (index_of pool (ClassName m.owner)) (index_of pool (NameAndType m.name m.descriptor))

-- the second index of a long
abbrev pub seconds : PoolItem → Pool → Pool
seconds (LongInteger value) slots = None ∷ slots
seconds other slots = slots

abbrev pub raw_slots : List PoolItem → ℕ → List PoolItem → Pool
raw_slots pool at [] = []
raw_slots pool at (x ∷ xs) = Some (record { at = at; value = raw_entry pool x }) ∷ seconds x (raw_slots pool (at + length (text.entry_bytes pool x)) xs)

-- the entries of a file, which stand behind the count at offset 8
abbrev pub raw_pool : List PoolItem → Pool
raw_pool pool = None ∷ raw_slots pool 10 pool

-- ---- one entry

-- a length or a number of an entry has room
abbrev pub ItemFits : PoolItem → Type 0
ItemFits (Utf8 bytes) = length bytes < 2 ^ 16
ItemFits (Integer value) = FitsSigned w32 value
ItemFits (LongInteger value) = FitsSigned w64 value
ItemFits other = Unit {0}

entry_by : (left at t : ℕ) (body : List ℕ) (e : Entry) → (is_tag t && not (is_wide t && left == 0)) ≡ true → Spells (form.content t) (at + 1) body e → Spells (form.entry left) at (t ∷ body) (record { at = at; value = e })
unfolding form.entry
entry_by left at t body e ok s =
    spells_then form.u1 (λ first. form.demand (is_tag first.value && not (is_wide first.value && left == 0)) first.at cause.POOL >>= λ known. form.content first.value >>= λ value. whole (record { at = first.at; value = value }))
    at (t ∷ []) body (record { at = at; value = t }) (record { at = at; value = e }) (u1_spells at t)
    (spells_demand (is_tag t && not (is_wide t && left == 0)) at cause.POOL (λ known. form.content t >>= λ value. whole (record { at = at; value = value })) (at + 1) body (record { at = at; value = e }) ok
    (spells_made (form.content t) (λ (value : Entry). (let p : Placed Entry = record { at = at; value = value } in p)) (at + 1) body e s))

index_spells : (t at n : ℕ) (make : ℕ → Entry) → n < 2 ^ 16 → form.content t ≡ (form.u2 >>= λ i. whole (make i.value)) → Spells (form.content t) at (text.u2 n) (make n)
index_spells t at n make lt is = rw is (spells_made form.u2 (λ (i : Placed ℕ). make i.value) at (text.u2 n) (record { at = at; value = n }) (u2_spells at n lt))

two_spelled : (at a b : ℕ) → a < 2 ^ 16 → b < 2 ^ 16 → Spells form.two_indices at (text.u2 a ++ text.u2 b) (a, b)
unfolding form.two_indices
two_spelled at a b la lb =
    spells_then form.u2 (λ first. form.u2 >>= λ second. whole (first.value, second.value)) at (text.u2 a) (text.u2 b) (record { at = at; value = a }) (a, b) (u2_spells at a la)
    (spells_made form.u2 (λ (second : Placed ℕ). (a, second.value)) (at + length (text.u2 a)) (text.u2 b) (record { at = at + length (text.u2 a); value = b }) (u2_spells (at + length (text.u2 a)) b lb))

words_spelled : (at a b : ℕ) → a < 2 ^ 32 → b < 2 ^ 32 → Spells form.two_words at (text.u4 a ++ text.u4 b) (a, b)
unfolding form.two_words
words_spelled at a b la lb =
    spells_then form.u4 (λ high. form.u4 >>= λ low. whole (high.value, low.value)) at (text.u4 a) (text.u4 b) (record { at = at; value = a }) (a, b) (u4_spells at a la)
    (spells_made form.u4 (λ (low : Placed ℕ). (a, low.value)) (at + length (text.u4 a)) (text.u4 b) (record { at = at + length (text.u4 a); value = b }) (u4_spells (at + length (text.u4 a)) b lb))

pair_spells : (t at a b : ℕ) (make : ℕ → ℕ → Entry) → a < 2 ^ 16 → b < 2 ^ 16 → form.content t ≡ (form.two_indices >>= λ pair. whole (make pair.0 pair.1)) → Spells (form.content t) at (text.u2 a ++ text.u2 b) (make a b)
pair_spells t at a b make la lb is = rw is (spells_made form.two_indices (λ (pair : ℕ × ℕ). make pair.0 pair.1) at (text.u2 a ++ text.u2 b) (a, b) (two_spelled at a b la lb))

text_spelled : (at : ℕ) (bytes : List ℕ) → length bytes < 2 ^ 16 → Spells form.text at (text.u2 (length bytes) ++ bytes) bytes
unfolding form.text
text_spelled at bytes lt =
    spells_then form.u2 (λ len. form.run len.value >>= λ b. whole b.value) at (text.u2 (length bytes)) bytes (record { at = at; value = length bytes }) bytes (u2_spells at (length bytes) lt)
    (spells_made (form.run (length bytes)) (λ (b : Placed (List ℕ)). b.value) (at + length (text.u2 (length bytes))) bytes (record { at = at + length (text.u2 (length bytes)); value = bytes }) (run_spells (at + length (text.u2 (length bytes))) bytes))

unsigned_fits_32 : (v : ℤ) → FitsSigned w32 v → cast_unsigned w32 v < 2 ^ 32
unsigned_fits_32 v fits = omega (arith, ints)

unsigned_fits_64 : (v : ℤ) → FitsSigned w64 v → cast_unsigned w64 v < 2 ^ 64
unsigned_fits_64 v fits = omega (arith, ints)

halves : (n : ℕ) → (n / 2 ^ 32) * 2 ^ 32 + n % 2 ^ 32 ≡ n
halves n = omega arith

high_fits : (n : ℕ) → n < 2 ^ 64 → n / 2 ^ 32 < 2 ^ 32
high_fits n lt = omega arith

low_fits : (n : ℕ) → n % 2 ^ 32 < 2 ^ 32
low_fits n = omega arith

item_content : (pool : List PoolItem) (small : (i : PoolItem) → index_of pool i < 2 ^ 16) (at : ℕ) (x : PoolItem) → ItemFits x
    → (body : List ℕ) × (text.entry_bytes pool x ≡ tag_of (raw_entry pool x) ∷ body) × Spells (form.content (tag_of (raw_entry pool x))) at body (raw_entry pool x)
unfolding form.content
item_content pool small at (Utf8 bytes) fits =
    (text.u2 (length bytes) ++ bytes, refl, spells_made form.text utf8 at (text.u2 (length bytes) ++ bytes) bytes (text_spelled at bytes fits))
item_content pool small at (Integer value) fits = (
  text.u4 (cast_unsigned w32 value),
  refl,
  subst (λ (v : ℤ). Spells (form.content tag.INTEGER) at (text.u4 (cast_unsigned w32 value)) (integer v)) (to_z-of_z w32 value fits)
      (spells_made form.u4 (λ (v : Placed ℕ). integer (cast_signed w32 v.value)) at (text.u4 (cast_unsigned w32 value)) (record { at = at; value = cast_unsigned w32 value }) (u4_spells at (cast_unsigned w32 value) (unsigned_fits_32 value fits))),
)
item_content pool small at (LongInteger value) fits =
    let n : ℕ = cast_unsigned w64 value in
    let body : List ℕ = text.u4 (n / 2 ^ 32) ++ text.u4 (n % 2 ^ 32) in (
      body,
      refl,
      subst (λ (v : ℤ). Spells (form.content tag.LONG) at body (long v)) (ap (cast_signed w64) (halves n) ∙ to_z-of_z w64 value fits)
          (spells_made form.two_words (λ (words : ℕ × ℕ). long (cast_signed w64 (words.0 * 2 ^ 32 + words.1))) at body (n / 2 ^ 32, n % 2 ^ 32)
          (words_spelled at (n / 2 ^ 32) (n % 2 ^ 32) (high_fits n (unsigned_fits_64 value fits)) (low_fits n))),
    )
item_content pool small at (ClassName name) fits = (text.u2 (index_of pool (Utf8 name)), refl, index_spells tag.CLASS at (index_of pool (Utf8 name)) class (small (Utf8 name)) refl)
item_content pool small at (StringText bytes) fits = (text.u2 (index_of pool (Utf8 bytes)), refl, index_spells tag.STRING at (index_of pool (Utf8 bytes)) string (small (Utf8 bytes)) refl)
item_content pool small at (NameAndType name descriptor) fits = (
  text.u2 (index_of pool (Utf8 name)) ++ text.u2 (index_of pool (Utf8 descriptor)),
  refl,
  pair_spells tag.NAME_AND_TYPE at (index_of pool (Utf8 name)) (index_of pool (Utf8 descriptor)) name_and_type (small (Utf8 name)) (small (Utf8 descriptor)) refl,
)
item_content pool small at (FieldRef m) fits =
    (text.ref_bytes pool m, refl, pair_spells tag.FIELD at (index_of pool (ClassName m.owner)) (index_of pool (NameAndType m.name m.descriptor)) field (small (ClassName m.owner)) (small (NameAndType m.name m.descriptor)) refl)
item_content pool small at (MethodRef m) fits =
    (text.ref_bytes pool m, refl, pair_spells tag.METHOD at (index_of pool (ClassName m.owner)) (index_of pool (NameAndType m.name m.descriptor)) method (small (ClassName m.owner)) (small (NameAndType m.name m.descriptor)) refl)
item_content pool small at (InterfaceMethodRef m) fits = (
  text.ref_bytes pool m,
  refl,
  pair_spells tag.INTERFACE_METHOD at (index_of pool (ClassName m.owner)) (index_of pool (NameAndType m.name m.descriptor)) interface_method (small (ClassName m.owner)) (small (NameAndType m.name m.descriptor)) refl,
)

item_spells : (pool : List PoolItem) (small : (i : PoolItem) → index_of pool i < 2 ^ 16) (left at : ℕ) (x : PoolItem) → ItemFits x
    → (is_tag (tag_of (raw_entry pool x)) && not (is_wide (tag_of (raw_entry pool x)) && left == 0)) ≡ true → Spells (form.entry left) at (text.entry_bytes pool x) (record { at = at; value = raw_entry pool x })
item_spells pool small left at x fits ok =
    let c = item_content pool small (at + 1) x fits in
    subst (λ (r : List ℕ). Spells (form.entry left) at r (record { at = at; value = raw_entry pool x })) (sym c.1) (entry_by left at (tag_of (raw_entry pool x)) c.0 (raw_entry pool x) ok c.2)

-- ---- all entries

abbrev pub more_slots : PoolItem → ℕ → ℕ
more_slots (LongInteger value) n = suc n
more_slots other n = n

-- how many indices entries take
abbrev pub slot_count : List PoolItem → ℕ
slot_count [] = 0
slot_count (x ∷ xs) = suc (more_slots x (slot_count xs))

slot_spells : (pool : List PoolItem) (small : (i : PoolItem) → index_of pool i < 2 ^ 16) (left at : ℕ) (x : PoolItem) → ItemFits x
    → (is_tag (tag_of (raw_entry pool x)) && not (is_wide (tag_of (raw_entry pool x)) && left == 0)) ≡ true → Spells (form.slot false left) at (text.entry_bytes pool x) (Some (record { at = at; value = raw_entry pool x }))
unfolding form.slot
slot_spells pool small left at x fits ok =
    spells_made (form.entry left) (λ (one : Placed Entry). (let o : Option (Placed Entry) = Some one in o)) at (text.entry_bytes pool x) (record { at = at; value = raw_entry pool x }) (item_spells pool small left at x fits ok)

module _ (pool : List PoolItem) (small : (i : PoolItem) → index_of pool i < 2 ^ 16) where
  -- an entry of one index, and others behind it
  one_slot : (at n : ℕ) (x : PoolItem) (rest : List ℕ) (slots : Pool) → ItemFits x → is_tag (tag_of (raw_entry pool x)) ≡ true → is_wide (tag_of (raw_entry pool x)) ≡ false
      → Spells (form.slots false n) (at + length (text.entry_bytes pool x)) rest slots
      → Spells (form.slots false (suc n)) at (text.entry_bytes pool x ++ rest) (Some (record { at = at; value = raw_entry pool x }) ∷ slots)
  unfolding form.slots
  one_slot at n x rest slots fits known narrow s =
      let e : Placed Entry = record { at = at; value = raw_entry pool x } in
      let ok : (is_tag (tag_of (raw_entry pool x)) && not (is_wide (tag_of (raw_entry pool x)) && n == 0)) ≡ true = rw (known, narrow) refl in
      spells_then (form.slot false n) (λ first. form.slots (form.takes_two first) n >>= λ others. whole (first ∷ others)) at (text.entry_bytes pool x) rest (Some e) (Some e ∷ slots) (slot_spells pool small n at x fits ok)
      (spells_made (form.slots (is_wide (tag_of (raw_entry pool x))) n) (λ (others : Pool). Some e ∷ others) (at + length (text.entry_bytes pool x)) rest slots
      (subst (λ (b : Bool). Spells (form.slots b n) (at + length (text.entry_bytes pool x)) rest slots) (sym narrow) s))

  -- a long, and others behind it
  two_slots : (at n : ℕ) (value : ℤ) (rest : List ℕ) (slots : Pool) → FitsSigned w64 value
      → Spells (form.slots false n) (at + length (text.entry_bytes pool (LongInteger value))) rest slots
      → Spells (form.slots false (suc (suc n))) at (text.entry_bytes pool (LongInteger value) ++ rest) (Some (record { at = at; value = long value }) ∷ None ∷ slots)
  unfolding form.slots form.slot ◌>>=◌
  two_slots at n value rest slots fits s =
      let e : Placed Entry = record { at = at; value = long value } in
      let behind : ℕ = at + length (text.entry_bytes pool (LongInteger value)) in
      spells_then (form.slot false (suc n)) (λ first. form.slots (form.takes_two first) (suc n) >>= λ others. whole (first ∷ others)) at (text.entry_bytes pool (LongInteger value)) rest (Some e) (Some e ∷ None ∷ slots)
      (slot_spells pool small (suc n) at (LongInteger value) fits (rw (ne_eqb (suc n) 0 (λ e. omega arith)) refl))
      (spells_made (form.slots true (suc n)) (λ (others : Pool). Some e ∷ others) behind rest (None ∷ slots)
      (spells_made (form.slots false n) (λ (others : Pool). None ∷ others) behind rest slots s))

  slots_step : (at : ℕ) (x : PoolItem) (xs : List PoolItem) (rest : List ℕ) (slots : Pool) → ItemFits x
      → Spells (form.slots false (slot_count xs)) (at + length (text.entry_bytes pool x)) rest slots
      → Spells (form.slots false (suc (more_slots x (slot_count xs)))) at (text.entry_bytes pool x ++ rest) (Some (record { at = at; value = raw_entry pool x }) ∷ seconds x slots)
  slots_step at (Utf8 a) xs rest slots fits s = one_slot at (slot_count xs) (Utf8 a) rest slots fits refl refl s
  slots_step at (Integer a) xs rest slots fits s = one_slot at (slot_count xs) (Integer a) rest slots fits refl refl s
  slots_step at (LongInteger a) xs rest slots fits s = two_slots at (slot_count xs) a rest slots fits s
  slots_step at (ClassName a) xs rest slots fits s = one_slot at (slot_count xs) (ClassName a) rest slots fits refl refl s
  slots_step at (StringText a) xs rest slots fits s = one_slot at (slot_count xs) (StringText a) rest slots fits refl refl s
  slots_step at (NameAndType a b) xs rest slots fits s = one_slot at (slot_count xs) (NameAndType a b) rest slots fits refl refl s
  slots_step at (FieldRef m) xs rest slots fits s = one_slot at (slot_count xs) (FieldRef m) rest slots fits refl refl s
  slots_step at (MethodRef m) xs rest slots fits s = one_slot at (slot_count xs) (MethodRef m) rest slots fits refl refl s
  slots_step at (InterfaceMethodRef m) xs rest slots fits s = one_slot at (slot_count xs) (InterfaceMethodRef m) rest slots fits refl refl s

  slots_spell : (at : ℕ) (xs : List PoolItem) → AllByRecursion ItemFits xs → Spells (form.slots false (slot_count xs)) at (flat_map (text.entry_bytes pool) xs) (raw_slots pool at xs)
  unfolding form.slots
  slots_spell at [] all = spells_whole [] at
  slots_spell at (x ∷ xs) all =
      slots_step at x xs (flat_map (text.entry_bytes pool) xs) (raw_slots pool (at + length (text.entry_bytes pool x)) xs) all.0 (slots_spell (at + length (text.entry_bytes pool x)) xs all.1)

  more_width : (x : PoolItem) (n k : ℕ) → n + width x + k ≡ n + suc (more_slots x k)
  more_width (Utf8 a) n k = omega arith
  more_width (Integer a) n k = omega arith
  more_width (LongInteger a) n k = omega arith
  more_width (ClassName a) n k = omega arith
  more_width (StringText a) n k = omega arith
  more_width (NameAndType a b) n k = omega arith
  more_width (FieldRef m) n k = omega arith
  more_width (MethodRef m) n k = omega arith
  more_width (InterfaceMethodRef m) n k = omega arith

  behind_is : (n : ℕ) (xs : List PoolItem) → index_behind n xs ≡ n + slot_count xs
  behind_is n [] = omega arith
  behind_is n (x ∷ xs) = behind_is (n + width x) xs ∙ more_width x n (slot_count xs)

  -- the pool, from its count at offset 8 on
  pub pool_spelled : pool_count pool < 2 ^ 16 → AllByRecursion ItemFits pool → Spells form.pool 8 (text.pool_bytes pool) (raw_pool pool)
  unfolding form.pool text.pool_bytes pool_count
  pool_spelled lt all =
      let count : ℕ = index_behind 1 pool in
      let is : count ≡ 1 + slot_count pool = behind_is 1 pool in
      let left : count - 1 ≡ slot_count pool = omega arith in
      let some : nat_lt 0 count ≡ true = lt-ltb 0 count (omega arith) in
      spells_then form.u2 (λ n. form.demand (nat_lt 0 n.value) n.at cause.POOL >>= λ counts. form.slots false (n.value - 1) >>= λ others. whole (None ∷ others)) 8 (text.u2 count) (flat_map (text.entry_bytes pool) pool) (record { at = 8; value = count }) (raw_pool pool) (u2_spells 8 count lt)
      (spells_demand (nat_lt 0 count) 8 cause.POOL (λ counts. form.slots false (count - 1) >>= λ others. whole (None ∷ others)) (8 + length (text.u2 count)) (flat_map (text.entry_bytes pool) pool) (raw_pool pool) some
      (spells_made (form.slots false (count - 1)) (λ (others : Pool). None ∷ others) (8 + length (text.u2 count)) (flat_map (text.entry_bytes pool) pool) (raw_slots pool 10 pool)
      (let place : 10 ≡ 8 + length (text.u2 count) = ap (λ (k : ℕ). 8 + k) (sym (u2_length count)) in
      subst (λ (k : ℕ). Spells (form.slots false (count - 1)) k (flat_map (text.entry_bytes pool) pool) (raw_slots pool 10 pool)) place
      (subst (λ (k : ℕ). Spells (form.slots false k) 10 (flat_map (text.entry_bytes pool) pool) (raw_slots pool 10 pool)) (sym left) (slots_spell 10 pool all)))))

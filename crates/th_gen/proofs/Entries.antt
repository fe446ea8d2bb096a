-- The index of an entry leads to it, and so to what it stands for.
use Rattle.std.proofs.Common.{◌≡◌, ℕ, suc, ◌+◌, Bool, true, false, ◌||◌, cond, List, [], ◌∷◌, length, Option, Some, slice_get, refl, sym, ap, ◌∙◌, arith}
use Rattle.std.specs.List.{list_any, filter_map, AllByRecursion}
use Rattle.std.specs.Option.{option_map, option_flatten}
use Rattle.th_syntax.specs.declared.instr.MemberRef.{MemberRef}
use Rattle.th_syntax.specs.Forms.{Placed}
use Rattle.th_syntax.specs.ClassBytes.{Entry, Pool}
use Rattle.th_syntax.specs.PoolChecks.{entry_of, utf8_of, class_of, member_of, refers_well, entry_flaw, entry_flaws}
use Rattle.th_gen.specs.declared.item.PoolItem.{PoolItem}
use Rattle.th_gen.specs.declared.item.PoolItem.TheVariants.{Utf8, Integer, LongInteger, ClassName, StringText, NameAndType, FieldRef, MethodRef, InterfaceMethodRef}
use Rattle.th_gen.specs.Items.{is_same_item, width, index_from, index_of}
use Rattle.th_gen.specs.ClassText as text
use Rattle.th_gen.proofs.PoolSpelled.{raw_entry, seconds, raw_slots, raw_pool}
use Rattle.th_gen.proofs.SameItems.{same_item}

-- an entry stands among these
abbrev pub Has : List PoolItem → PoolItem → Type 0
Has items item = list_any (is_same_item item) items ≡ true

-- a slot holds an entry
abbrev Holds : Pool → ℕ → Entry → Type 0
Holds slots k e = option_map (λ (p : Placed Entry). p.value) (option_flatten (slice_get slots k)) ≡ Some e

-- the slot k places behind the first of an entry's own
behind : (x : PoolItem) (first : Option (Placed Entry)) (slots : Pool) (n m : ℕ) (e : Entry) → (k : ℕ) × (m ≡ n + width x + k) × Holds slots k e → (k : ℕ) × (m ≡ n + k) × Holds (first ∷ seconds x slots) k e
behind (Utf8 a) first slots n m e (k, is, holds) = (suc k, omega arith, holds)
behind (Integer a) first slots n m e (k, is, holds) = (suc k, omega arith, holds)
behind (LongInteger a) first slots n m e (k, is, holds) = (suc (suc k), omega arith, holds)
behind (ClassName a) first slots n m e (k, is, holds) = (suc k, omega arith, holds)
behind (StringText a) first slots n m e (k, is, holds) = (suc k, omega arith, holds)
behind (NameAndType a b) first slots n m e (k, is, holds) = (suc k, omega arith, holds)
behind (FieldRef r) first slots n m e (k, is, holds) = (suc k, omega arith, holds)
behind (MethodRef r) first slots n m e (k, is, holds) = (suc k, omega arith, holds)
behind (InterfaceMethodRef r) first slots n m e (k, is, holds) = (suc k, omega arith, holds)

either : (b c : Bool) → (b || c) ≡ true → b ≡ false → c ≡ true
either true c e f = absurd cc
either false c e f = e

module _ (pool : List PoolItem) where
  found_from : (n at : ℕ) (xs : List PoolItem) (item : PoolItem) → Has xs item → (k : ℕ) × (index_from n xs item ≡ n + k) × Holds (raw_slots pool at xs) k (raw_entry pool item)
  found_from n at [] item has = absurd cc
  found_from n at (x ∷ xs) item has = go (is_same_item item x) refl (λ h. found_from (n + width x) (at + length (text.entry_bytes pool x)) xs item h)
    where
      go : (b : Bool) → is_same_item item x ≡ b
          → (Has xs item → (k : ℕ) × (index_from (n + width x) xs item ≡ n + width x + k) × Holds (raw_slots pool (at + length (text.entry_bytes pool x)) xs) k (raw_entry pool item))
          → (k : ℕ) × (cond b n (index_from (n + width x) xs item) ≡ n + k) × Holds (Some (record { at = at; value = raw_entry pool x }) ∷ seconds x (raw_slots pool (at + length (text.entry_bytes pool x)) xs)) k (raw_entry pool item)
      go true is rest = (0, omega arith, ap (λ (i : PoolItem). (let o : Option Entry = Some (raw_entry pool i) in o)) (sym (same_item item x is)))
      go false is rest =
          behind x (Some (record { at = at; value = raw_entry pool x })) (raw_slots pool (at + length (text.entry_bytes pool x)) xs) n (index_from (n + width x) xs item) (raw_entry pool item)
          (rest (either (is_same_item item x) (list_any (is_same_item item) xs) has is))

  -- an entry is found at its index
  pub entry_found : (item : PoolItem) → Has pool item → entry_of (raw_pool pool) (index_of pool item) ≡ Some (raw_entry pool item)
  unfolding index_of
  entry_found item has =
      let f = found_from 1 10 pool item has in
      let place : index_from 1 pool item ≡ suc f.0 = f.1 ∙ omega arith in
      rw place f.2

  -- ---- what it leads to

  pub text_found : (bytes : List ℕ) → Has pool (Utf8 bytes) → utf8_of (raw_pool pool) (index_of pool (Utf8 bytes)) ≡ Some bytes
  text_found bytes has = rw (entry_found (Utf8 bytes) has) refl

  pub class_found : (name : List ℕ) → Has pool (ClassName name) → Has pool (Utf8 name) → class_of (raw_pool pool) (index_of pool (ClassName name)) ≡ Some name
  class_found name has text_has = rw (entry_found (ClassName name) has) (text_found name text_has)

  -- an entry and those that it refers to
  pub record HasMember (make : MemberRef → PoolItem) (m : MemberRef) : Type 0 where
    pub reference : Has pool (make m)
    pub class : Has pool (ClassName m.owner)
    pub owner : Has pool (Utf8 m.owner)
    pub pair : Has pool (NameAndType m.name m.descriptor)
    pub name : Has pool (Utf8 m.name)
    pub descriptor : Has pool (Utf8 m.descriptor)

  pub field_found : (m : MemberRef) → HasMember FieldRef m → member_of (raw_pool pool) (index_of pool (FieldRef m)) ≡ Some m
  field_found m h = rw (entry_found (FieldRef m) h.reference, class_found m.owner h.class h.owner, entry_found (NameAndType m.name m.descriptor) h.pair, text_found m.name h.name, text_found m.descriptor h.descriptor) refl

  pub method_found : (m : MemberRef) → HasMember MethodRef m → member_of (raw_pool pool) (index_of pool (MethodRef m)) ≡ Some m
  method_found m h = rw (entry_found (MethodRef m) h.reference, class_found m.owner h.class h.owner, entry_found (NameAndType m.name m.descriptor) h.pair, text_found m.name h.name, text_found m.descriptor h.descriptor) refl

  pub interface_method_found : (m : MemberRef) → HasMember InterfaceMethodRef m → member_of (raw_pool pool) (index_of pool (InterfaceMethodRef m)) ≡ Some m
  interface_method_found m h = rw (entry_found (InterfaceMethodRef m) h.reference, class_found m.owner h.class h.owner, entry_found (NameAndType m.name m.descriptor) h.pair, text_found m.name h.name, text_found m.descriptor h.descriptor) refl

  -- ---- each entry refers well

  -- what an entry refers to stands in the pool
  abbrev pub Refers : PoolItem → Type 0
  Refers (ClassName name) = Has pool (Utf8 name)
  Refers (StringText bytes) = Has pool (Utf8 bytes)
  Refers (NameAndType name descriptor) = Has pool (Utf8 name) × Has pool (Utf8 descriptor)
  Refers (FieldRef m) = Has pool (ClassName m.owner) × Has pool (NameAndType m.name m.descriptor)
  Refers (MethodRef m) = Has pool (ClassName m.owner) × Has pool (NameAndType m.name m.descriptor)
  Refers (InterfaceMethodRef m) = Has pool (ClassName m.owner) × Has pool (NameAndType m.name m.descriptor)
  Refers other = Unit {0}

  item_refers : (x : PoolItem) → Refers x → refers_well (raw_pool pool) (raw_entry pool x) ≡ true
  item_refers (Utf8 a) r = refl
  item_refers (Integer a) r = refl
  item_refers (LongInteger a) r = refl
  item_refers (ClassName name) r = rw (entry_found (Utf8 name) r) refl
  item_refers (StringText name) r = rw (entry_found (Utf8 name) r) refl
  item_refers (NameAndType a b) r = rw (entry_found (Utf8 a) r.0, entry_found (Utf8 b) r.1) refl
  item_refers (FieldRef m) r = rw (entry_found (ClassName m.owner) r.0, entry_found (NameAndType m.name m.descriptor) r.1) refl
  item_refers (MethodRef m) r = rw (entry_found (ClassName m.owner) r.0, entry_found (NameAndType m.name m.descriptor) r.1) refl
  item_refers (InterfaceMethodRef m) r = rw (entry_found (ClassName m.owner) r.0, entry_found (NameAndType m.name m.descriptor) r.1) refl

  second_flaws : (x : PoolItem) (slots : Pool) → filter_map (entry_flaw (raw_pool pool)) (seconds x slots) ≡ filter_map (entry_flaw (raw_pool pool)) slots
  second_flaws (Utf8 a) slots = refl
  second_flaws (Integer a) slots = refl
  second_flaws (LongInteger a) slots = refl
  second_flaws (ClassName a) slots = refl
  second_flaws (StringText a) slots = refl
  second_flaws (NameAndType a b) slots = refl
  second_flaws (FieldRef m) slots = refl
  second_flaws (MethodRef m) slots = refl
  second_flaws (InterfaceMethodRef m) slots = refl

  slots_refer : (at : ℕ) (xs : List PoolItem) → AllByRecursion Refers xs → filter_map (entry_flaw (raw_pool pool)) (raw_slots pool at xs) ≡ []
  slots_refer at [] all = refl
  slots_refer at (x ∷ xs) all =
      rw (item_refers x all.0) (second_flaws x (raw_slots pool (at + length (text.entry_bytes pool x)) xs) ∙ slots_refer (at + length (text.entry_bytes pool x)) xs all.1)

  pub pool_refers : AllByRecursion Refers pool → entry_flaws (raw_pool pool) ≡ []
  unfolding entry_flaws
  pool_refers all = slots_refer 10 pool all

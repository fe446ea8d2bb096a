-- Each entry that a class needs stands in its pool, and so does what the entry refers to.
use Rattle.std.proofs.Common.{◌≡◌, ℕ, Bool, true, false, ◌||◌, cond, List, [], ◌∷◌, ◌++◌, refl, sym, subst}
use Rattle.std.specs.Prelude.{codes, ℤ}
use Rattle.std.specs.List.{list_any, flat_map, AllByRecursion}
use Rattle.th_syntax.specs.declared.instr.MemberRef.{MemberRef}
use Rattle.th_syntax.specs.declared.instr.Instr.{Instr}
use Rattle.th_syntax.specs.declared.instr.Instr.TheVariants.{Int, Long, Str, GetStatic, PutStatic, GetField, PutField, InvokeVirtual, InvokeSpecial, InvokeInterface, InvokeStatic, New, ANewArray, CheckCast, InstanceOf}
use Rattle.th_gen.specs.declared.item.PoolItem.{PoolItem}
use Rattle.th_gen.specs.declared.item.PoolItem.TheVariants.{Utf8, Integer, LongInteger, ClassName, StringText, NameAndType, FieldRef, MethodRef, InterfaceMethodRef}
use Rattle.th_gen.specs.declared.draft.ClassWriter.{ClassWriter}
use Rattle.th_gen.specs.declared.draft.DraftField.{DraftField}
use Rattle.th_gen.specs.declared.draft.DraftMethod.{DraftMethod}
use Rattle.th_gen.specs.Items.{is_same_item, with_item, with_items, items_of, class_items, string_items, named_items, member_items, instr_items, header_items, field_items, code_items, method_items, is_short, is_small_long, pool_of}
use Rattle.th_gen.proofs.SameItems.{same_item, item_itself}
use Rattle.th_gen.proofs.Entries.{Has, Refers, HasMember}

-- ---- standing among

or_right : (a b : Bool) → b ≡ true → (a || b) ≡ true
or_right true b e = refl
or_right false b e = e

or_left : (a b : Bool) → a ≡ true → (a || b) ≡ true
or_left a b e = rw e refl

pub has_here : (x : PoolItem) (xs : List PoolItem) → Has (x ∷ xs) x
has_here x xs = or_left (is_same_item x x) (list_any (is_same_item x) xs) (item_itself x)

pub has_later : (item x : PoolItem) (xs : List PoolItem) → Has xs item → Has (x ∷ xs) item
has_later item x xs has = or_right (is_same_item item x) (list_any (is_same_item item) xs) has

pub has_left : (item : PoolItem) (xs ys : List PoolItem) → Has xs item → Has (xs ++ ys) item
has_left item [] ys has = absurd cc
has_left item (x ∷ xs) ys has = go (is_same_item item x) refl (λ h. has_left item xs ys h) has
  where
    go : (b : Bool) → is_same_item item x ≡ b → (Has xs item → Has (xs ++ ys) item) → (b || list_any (is_same_item item) xs) ≡ true → (is_same_item item x || list_any (is_same_item item) (xs ++ ys)) ≡ true
    go true is rest e = or_left (is_same_item item x) (list_any (is_same_item item) (xs ++ ys)) is
    go false is rest e = or_right (is_same_item item x) (list_any (is_same_item item) (xs ++ ys)) (rest e)

pub has_right : (item : PoolItem) (xs ys : List PoolItem) → Has ys item → Has (xs ++ ys) item
has_right item [] ys has = has
has_right item (x ∷ xs) ys has = has_later item x (xs ++ ys) (has_right item xs ys has)

-- ---- a pool with more entries

kept_with : (item other : PoolItem) (pool : List PoolItem) → Has pool item → Has (with_item pool other) item
kept_with item other pool has = go (list_any (is_same_item other) pool)
  where
    go : (b : Bool) → Has (cond b pool (pool ++ other ∷ [])) item
    go true = has
    go false = has_left item pool (other ∷ []) has

pub kept_all : (item : PoolItem) (items pool : List PoolItem) → Has pool item → Has (with_items pool items) item
kept_all item [] pool has = has
kept_all item (x ∷ xs) pool has = kept_all item xs (with_item pool x) (kept_with item x pool has)

there_with : (item : PoolItem) (pool : List PoolItem) → Has (with_item pool item) item
there_with item pool = go (list_any (is_same_item item) pool) refl
  where
    go : (b : Bool) → list_any (is_same_item item) pool ≡ b → Has (cond b pool (pool ++ item ∷ [])) item
    go true is = is
    go false is = has_right item pool (item ∷ []) (has_here item [])

pub there_all : (item : PoolItem) (items pool : List PoolItem) → Has items item → Has (with_items pool items) item
there_all item [] pool has = absurd cc
there_all item (x ∷ xs) pool has = go (is_same_item item x) refl (λ h. there_all item xs (with_item pool x) h) has
  where
    go : (b : Bool) → is_same_item item x ≡ b → (Has xs item → Has (with_items (with_item pool x) xs) item) → (b || list_any (is_same_item item) xs) ≡ true → Has (with_items (with_item pool x) xs) item
    go true is rest e = subst (λ (i : PoolItem). Has (with_items (with_item pool x) xs) i) (sym (same_item item x is)) (kept_all x xs (with_item pool x) (there_with x pool))
    go false is rest e = rest e

-- what holds of each entry of a pool and of each that is added holds of all
all_with : (P : PoolItem → Type 0) (other : PoolItem) (pool : List PoolItem) → AllByRecursion P pool → P other → AllByRecursion P (with_item pool other)
all_with P other pool all one = go (list_any (is_same_item other) pool)
  where
    added : (xs : List PoolItem) → AllByRecursion P xs → AllByRecursion P (xs ++ other ∷ [])
    added [] all = (one, tt)
    added (x ∷ xs) all = (all.0, added xs all.1)

    go : (b : Bool) → AllByRecursion P (cond b pool (pool ++ other ∷ []))
    go true = all
    go false = added pool all

pub all_of : (P : PoolItem → Type 0) (items pool : List PoolItem) → AllByRecursion P pool → AllByRecursion P items → AllByRecursion P (with_items pool items)
all_of P [] pool all more = all
all_of P (x ∷ xs) pool all more = all_of P xs (with_item pool x) (all_with P x pool all more.0) more.1

pub all_append : (P : PoolItem → Type 0) (xs ys : List PoolItem) → AllByRecursion P xs → AllByRecursion P ys → AllByRecursion P (xs ++ ys)
all_append P [] ys all more = more
all_append P (x ∷ xs) ys all more = (all.0, all_append P xs ys all.1 more)

pub all_flat : {X : Type 0} (P : PoolItem → Type 0) (f : X → List PoolItem) (xs : List X) → ((x : X) → AllByRecursion P (f x)) → AllByRecursion P (flat_map f xs)
all_flat P f [] each = tt
all_flat P f (x ∷ xs) each = all_append P (f x) (flat_map f xs) (each x) (all_flat P f xs each)

-- ---- what entries refer to

-- the items stand in the pool
pub record Holds (pool items : List PoolItem) : Type 0 where
  pub each : (item : PoolItem) → Has items item → Has pool item

pub holds_left : (pool xs ys : List PoolItem) → Holds pool (xs ++ ys) → Holds pool xs
holds_left pool xs ys h = record { each = λ item has. h.each item (has_left item xs ys has) }

pub holds_right : (pool xs ys : List PoolItem) → Holds pool (xs ++ ys) → Holds pool ys
holds_right pool xs ys h = record { each = λ item has. h.each item (has_right item xs ys has) }

pub record HasClass (pool : List PoolItem) (name : List ℕ) : Type 0 where
  pub reference : Has pool (ClassName name)
  pub text : Has pool (Utf8 name)

pub record HasString (pool : List PoolItem) (bytes : List ℕ) : Type 0 where
  pub reference : Has pool (StringText bytes)
  pub text : Has pool (Utf8 bytes)

pub record HasHeader (pool : List PoolItem) (named typed : List ℕ) : Type 0 where
  pub name : Has pool (Utf8 named)
  pub descriptor : Has pool (Utf8 typed)

pub class_there : (pool : List PoolItem) (name : List ℕ) → Holds pool (class_items name) → HasClass pool name
class_there pool name h = record {
  reference = h.each (ClassName name) (has_later (ClassName name) (Utf8 name) (ClassName name ∷ []) (has_here (ClassName name) []));
  text = h.each (Utf8 name) (has_here (Utf8 name) (ClassName name ∷ []));
}

pub string_there : (pool : List PoolItem) (bytes : List ℕ) → Holds pool (string_items bytes) → HasString pool bytes
string_there pool bytes h = record {
  reference = h.each (StringText bytes) (has_later (StringText bytes) (Utf8 bytes) (StringText bytes ∷ []) (has_here (StringText bytes) []));
  text = h.each (Utf8 bytes) (has_here (Utf8 bytes) (StringText bytes ∷ []));
}

pub header_there : (pool : List PoolItem) (name descriptor : List ℕ) → Holds pool (header_items name descriptor) → HasHeader pool name descriptor
header_there pool name descriptor h = record {
  name = h.each (Utf8 name) (has_here (Utf8 name) (Utf8 descriptor ∷ []));
  descriptor = h.each (Utf8 descriptor) (has_later (Utf8 descriptor) (Utf8 name) (Utf8 descriptor ∷ []) (has_here (Utf8 descriptor) []));
}

pub member_there : (pool : List PoolItem) (make : MemberRef → PoolItem) (m : MemberRef) → Holds pool (member_items make m) → HasMember pool make m
member_there pool make m h =
    let owner = class_there pool m.owner (holds_left pool (class_items m.owner) (named_items m.name m.descriptor ++ make m ∷ []) h) in
    let rest = holds_right pool (class_items m.owner) (named_items m.name m.descriptor ++ make m ∷ []) h in
    let named = holds_left pool (named_items m.name m.descriptor) (make m ∷ []) rest in
    let pair : PoolItem = NameAndType m.name m.descriptor in
    record {
      reference = (holds_right pool (named_items m.name m.descriptor) (make m ∷ []) rest).each (make m) (has_here (make m) []);
      class = owner.reference;
      owner = owner.text;
      pair = named.each pair (has_later pair (Utf8 m.name) (Utf8 m.descriptor ∷ pair ∷ []) (has_later pair (Utf8 m.descriptor) (pair ∷ []) (has_here pair [])));
      name = named.each (Utf8 m.name) (has_here (Utf8 m.name) (Utf8 m.descriptor ∷ pair ∷ []));
      descriptor = named.each (Utf8 m.descriptor) (has_later (Utf8 m.descriptor) (Utf8 m.name) (Utf8 m.descriptor ∷ pair ∷ []) (has_here (Utf8 m.descriptor) (pair ∷ [])));
    }

-- ---- the groups refer to entries of their own

module _ (pool : List PoolItem) where
  class_refers : (name : List ℕ) → Holds pool (class_items name) → AllByRecursion (Refers pool) (class_items name)
  class_refers name h = (tt, ((class_there pool name h).text, tt))

  member_refers : (make : MemberRef → PoolItem) (m : MemberRef) → (HasMember pool make m → Refers pool (make m)) → Holds pool (member_items make m) → AllByRecursion (Refers pool) (member_items make m)
  member_refers make m last h =
      let t = member_there pool make m h in
      (tt, (t.owner, (tt, (tt, ((t.name, t.descriptor), (last t, tt))))))

  string_refers : (bytes : List ℕ) → Holds pool (string_items bytes) → AllByRecursion (Refers pool) (string_items bytes)
  string_refers bytes h = (tt, ((string_there pool bytes h).text, tt))

  field_refers : (m : MemberRef) → Holds pool (member_items FieldRef m) → AllByRecursion (Refers pool) (member_items FieldRef m)
  field_refers m h = member_refers FieldRef m (λ t. (t.class, t.pair)) h

  method_refers : (m : MemberRef) → Holds pool (member_items MethodRef m) → AllByRecursion (Refers pool) (member_items MethodRef m)
  method_refers m h = member_refers MethodRef m (λ t. (t.class, t.pair)) h

  int_refers : (b : Bool) (value : ℤ) → AllByRecursion (Refers pool) (cond b [] (Integer value ∷ []))
  int_refers true value = tt
  int_refers false value = (tt, tt)

  long_refers : (b : Bool) (value : ℤ) → AllByRecursion (Refers pool) (cond b [] (LongInteger value ∷ []))
  long_refers true value = tt
  long_refers false value = (tt, tt)

  instr_refers : (i : Instr) → Holds pool (instr_items i) → AllByRecursion (Refers pool) (instr_items i)
  instr_refers (Int value) h = int_refers (is_short value) value
  instr_refers (Long value) h = long_refers (is_small_long value) value
  instr_refers (Str bytes) h = string_refers bytes h
  instr_refers (GetStatic f) h = field_refers f h
  instr_refers (PutStatic f) h = field_refers f h
  instr_refers (GetField f) h = field_refers f h
  instr_refers (PutField f) h = field_refers f h
  instr_refers (InvokeVirtual m) h = method_refers m h
  instr_refers (InvokeSpecial m) h = method_refers m h
  instr_refers (InvokeStatic m) h = method_refers m h
  instr_refers (InvokeInterface m) h = member_refers InterfaceMethodRef m (λ t. (t.class, t.pair)) h
  instr_refers (New name) h = class_refers name h
  instr_refers (ANewArray name) h = class_refers name h
  instr_refers (CheckCast name) h = class_refers name h
  instr_refers (InstanceOf name) h = class_refers name h
  instr_refers other h = tt

  instrs_refer : (instrs : List Instr) → Holds pool (flat_map instr_items instrs) → AllByRecursion (Refers pool) (flat_map instr_items instrs)
  instrs_refer [] h = tt
  instrs_refer (i ∷ instrs) h =
      all_append (Refers pool) (instr_items i) (flat_map instr_items instrs) (instr_refers i (holds_left pool (instr_items i) (flat_map instr_items instrs) h))
      (instrs_refer instrs (holds_right pool (instr_items i) (flat_map instr_items instrs) h))

  code_refers : (instrs : List Instr) → Holds pool (code_items instrs) → AllByRecursion (Refers pool) (code_items instrs)
  code_refers [] h = tt
  code_refers (i ∷ instrs) h = (tt, instrs_refer (i ∷ instrs) (holds_right pool (Utf8 (codes "Code") ∷ []) (flat_map instr_items (i ∷ instrs)) h))

  methods_refer : (methods : List DraftMethod) → Holds pool (flat_map method_items methods) → AllByRecursion (Refers pool) (flat_map method_items methods)
  methods_refer [] h = tt
  methods_refer (m ∷ methods) h =
      let here = holds_left pool (method_items m) (flat_map method_items methods) h in
      all_append (Refers pool) (method_items m) (flat_map method_items methods)
      (tt, (tt, code_refers m.instrs (holds_right pool (header_items m.name m.descriptor) (code_items m.instrs) here)))
      (methods_refer methods (holds_right pool (method_items m) (flat_map method_items methods) h))

  fields_refer : (fields : List DraftField) → AllByRecursion (Refers pool) (flat_map field_items fields)
  fields_refer fields = all_flat (Refers pool) field_items fields (λ f. (tt, (tt, tt)))

-- the entries of a class's pool
pub pool_holds : (w : ClassWriter) → Holds (pool_of w) (items_of w)
unfolding pool_of
pool_holds w = record { each = λ item has. there_all item (items_of w) [] has }

pub items_refer : (w : ClassWriter) → AllByRecursion (Refers (pool_of w)) (pool_of w)
unfolding pool_of
items_refer w =
    let pool : List PoolItem = pool_of w in
    let h = pool_holds w in
    let members : List PoolItem = flat_map field_items w.fields ++ flat_map method_items w.methods in
    let rest = holds_right pool (class_items w.name) (class_items w.super_name ++ members) h in
    let last = holds_right pool (class_items w.super_name) members rest in
    all_of (Refers pool) (items_of w) [] tt
    (all_append (Refers pool) (class_items w.name) (class_items w.super_name ++ members) (class_refers pool w.name (holds_left pool (class_items w.name) (class_items w.super_name ++ members) h))
    (all_append (Refers pool) (class_items w.super_name) members (class_refers pool w.super_name (holds_left pool (class_items w.super_name) members rest))
    (all_append (Refers pool) (flat_map field_items w.fields) (flat_map method_items w.methods) (fields_refer pool w.fields)
    (methods_refer pool w.methods (holds_right pool (flat_map field_items w.fields) (flat_map method_items w.methods) last)))))

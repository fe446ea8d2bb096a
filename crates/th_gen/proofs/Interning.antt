-- The table of entries is the pool: its test is the one of entries, and the place of an entry leads to its index.
use Rattle.std.proofs.Common.{◌≡◌, ℕ, suc, ◌+◌, ◌<◌, Bool, true, false, cond, zero, List, [], ◌∷◌, ◌++◌, length, get_or, ◌≤◌, Option, Some, None, refl, sym, ap, ◌∙◌, arith}
use Rattle.std.specs.Prelude.{codes, position, not, nat_lt, slice_index}
use Rattle.std.specs.List.{list_any, position_or_len}
use Rattle.std.proofs.lemmas.Bool.{ltb-false}
use Rattle.th_gen.specs.declared.item.PoolItem.{PoolItem}
use Rattle.th_gen.specs.declared.item.PoolItem.TheVariants.{Utf8, Integer, LongInteger, ClassName, StringText, NameAndType, FieldRef, MethodRef, InterfaceMethodRef}
use Rattle.std.specs.List.{flat_map}
use Rattle.th_syntax.specs.declared.instr.Instr.{Instr}
use Rattle.th_gen.specs.declared.draft.ClassWriter.{ClassWriter}
use Rattle.th_gen.specs.declared.draft.DraftMethod.{DraftMethod}
use Rattle.th_gen.specs.contracts.item.PoolItemPartialEq.TheImpl as derived
use Rattle.th_syntax.specs.declared.instr.MemberRef.{MemberRef}
use Rattle.th_gen.specs.Items.{is_same_item, with_item, with_items, class_items, header_items, member_items, instr_items, field_items, code_items, method_items, pool_of, width, indices_from, index_from, index_of}

pub any_same : {X : Type 0} (p q : X → Bool) (xs : List X) → ((x : X) → p x ≡ q x) → list_any p xs ≡ list_any q xs
any_same p q [] same = refl
any_same p q (x ∷ xs) same = rw (same x, any_same p q xs same) refl

place_same : {X : Type 0} (p q : X → Bool) (xs : List X) → ((x : X) → p x ≡ q x) → position_or_len p xs ≡ position_or_len q xs
place_same p q [] same = refl
place_same p q (x ∷ xs) same = rw (same x, place_same p q xs same) refl

pub position_same : {X : Type 0} (p q : X → Bool) (xs : List X) → ((x : X) → p x ≡ q x) → position p xs ≡ position q xs
position_same p q xs same = rw (place_same p q xs same) refl

-- the derived test is the one of the definitions
pub test_is : (a b : PoolItem) → derived.eq-value.it a b ≡ is_same_item a b
test_is (Utf8 a) (Utf8 b) = refl
test_is (Utf8 a) other = refl
test_is (Integer a) (Integer b) = refl
test_is (Integer a) other = refl
test_is (LongInteger a) (LongInteger b) = refl
test_is (LongInteger a) other = refl
test_is (ClassName a) (ClassName b) = refl
test_is (ClassName a) other = refl
test_is (StringText a) (StringText b) = refl
test_is (StringText a) other = refl
test_is (NameAndType a c) (NameAndType b d) = refl
test_is (NameAndType a c) other = refl
test_is (FieldRef a) (FieldRef b) = refl
test_is (FieldRef a) other = refl
test_is (MethodRef a) (MethodRef b) = refl
test_is (MethodRef a) other = refl
test_is (InterfaceMethodRef a) (InterfaceMethodRef b) = refl
test_is (InterfaceMethodRef a) other = refl

pub added_is : (pool : List PoolItem) (item : PoolItem) → (cond (list_any (derived.eq-value.it item) pool) pool (pool ++ item ∷ [])) ≡ with_item pool item
added_is pool item = rw (any_same (derived.eq-value.it item) (is_same_item item) pool (λ x. test_is item x)) refl

-- one item after the other
pub with_append : (xs ys pool : List PoolItem) → with_items pool (xs ++ ys) ≡ with_items (with_items pool xs) ys
with_append [] ys pool = refl
with_append (x ∷ xs) ys pool = with_append xs ys (with_item pool x)

-- the place of an entry leads to its index
index_at : (n : ℕ) (xs : List PoolItem) (item : PoolItem) → slice_index (indices_from n xs) (position_or_len (is_same_item item) xs) ≡ index_from n xs item
index_at n [] item = refl
index_at n (x ∷ xs) item = go (is_same_item item x) (index_at (n + width x) xs item)
  where
    go : (b : Bool) → slice_index (indices_from (n + width x) xs) (position_or_len (is_same_item item) xs) ≡ index_from (n + width x) xs item
        → slice_index (n ∷ indices_from (n + width x) xs) (cond (not b) (1 + position_or_len (is_same_item item) xs) 0) ≡ cond b n (index_from (n + width x) xs item)
    go true rest = refl
    go false rest = (let e : 1 + position_or_len (is_same_item item) xs ≡ suc (position_or_len (is_same_item item) xs) = omega arith in ap (slice_index (n ∷ indices_from (n + width x) xs)) e) ∙ rest

pub indices_length : (n : ℕ) (xs : List PoolItem) → length (indices_from n xs) ≡ length xs
indices_length n [] = refl
indices_length n (x ∷ xs) = let rest = indices_length (n + width x) xs in omega arith

past_end : (xs : List ℕ) (k : ℕ) → length xs ≤ k → slice_index xs k ≡ 0
past_end [] k e = refl
past_end (x ∷ xs) zero e = absurd (omega arith)
past_end (x ∷ xs) (suc k) e = past_end xs k (omega arith)

any_default : (xs : List ℕ) (k a b : ℕ) → k < length xs → get_or xs k a ≡ get_or xs k b
any_default [] k a b lt = absurd (omega arith)
any_default (x ∷ xs) zero a b lt = refl
any_default (x ∷ xs) (suc k) a b lt = any_default xs k a b (omega arith)

place_of : (b : Bool) (n k : ℕ) → (let o : Option ℕ = Some k in o) ≡ cond b (Some n) None → k ≡ n
place_of true n k e = cc
place_of false n k e = absurd cc

no_place : (b : Bool) (n : ℕ) → (let o : Option ℕ = None in o) ≡ cond b (Some n) None → b ≡ false
no_place true n e = absurd cc
no_place false n e = refl

-- what a look-up of an entry finds, and what it means where it finds nothing
pub index_found : (keys : List PoolItem) (item : PoolItem) (place d : ℕ) → Some place ≡ position (derived.eq-value.it item) keys → place < length keys → get_or (indices_from 1 keys) place d ≡ index_of keys item
unfolding index_of
index_found keys item place d e lt =
    let same = e ∙ position_same (derived.eq-value.it item) (is_same_item item) keys (λ x. test_is item x) in
    let is : place ≡ position_or_len (is_same_item item) keys = place_of (nat_lt (position_or_len (is_same_item item) keys) (length keys)) (position_or_len (is_same_item item) keys) place same in
    let room : place < length (indices_from 1 keys) = (let len = indices_length 1 keys in omega arith) in
    any_default (indices_from 1 keys) place d 0 room ∙ ap (λ (k : ℕ). get_or (indices_from 1 keys) k 0) is ∙ index_at 1 keys item

pub index_missing : (keys : List PoolItem) (item : PoolItem) → None ≡ position (derived.eq-value.it item) keys → 0 ≡ index_of keys item
unfolding index_of
index_missing keys item e =
    let same = e ∙ position_same (derived.eq-value.it item) (is_same_item item) keys (λ x. test_is item x) in
    let past : length keys ≤ position_or_len (is_same_item item) keys =
    ltb-false (position_or_len (is_same_item item) keys) (length keys) (no_place (nat_lt (position_or_len (is_same_item item) keys) (length keys)) (position_or_len (is_same_item item) keys) same) in
    sym (past_end (indices_from 1 keys) (position_or_len (is_same_item item) keys) (let len = indices_length 1 keys in omega arith)) ∙ index_at 1 keys item

-- what a member needs, part by part
pub member_added : (first second third fourth last : List PoolItem) (m : MemberRef) (item : PoolItem) → second ≡ with_items first (class_items m.owner) → third ≡ with_items second (header_items m.name m.descriptor)
    → fourth ≡ with_item third (NameAndType m.name m.descriptor) → last ≡ with_item fourth item → last ≡ with_items first (member_items (λ k. item) m)
member_added first second third fourth last m item a b c d =
    d ∙ ap (λ (p : List PoolItem). with_item p item) (c ∙ ap (λ (p : List PoolItem). with_item p (NameAndType m.name m.descriptor)) (b ∙ ap (λ (p : List PoolItem). with_items p (header_items m.name m.descriptor)) a))

-- what a method with code needs, part by part
pub method_added : (first second third last : List PoolItem) (m : DraftMethod) → (m.instrs ≡ [] → ⊥) → second ≡ with_items first (header_items m.name m.descriptor) → third ≡ with_item second (Utf8 (codes "Code"))
    → last ≡ with_items third (flat_map instr_items m.instrs) → last ≡ with_items first (method_items m)
method_added first second third last m some a b c = go m.instrs refl c
  where
    go : (instrs : List Instr) → m.instrs ≡ instrs → last ≡ with_items third (flat_map instr_items instrs) → last ≡ with_items first (header_items m.name m.descriptor ++ code_items instrs)
    go [] is c = absurd (some is)
    go (i ∷ instrs) is c =
        c ∙ ap (λ (p : List PoolItem). with_items p (flat_map instr_items (i ∷ instrs))) (b ∙ ap (λ (p : List PoolItem). with_item p (Utf8 (codes "Code"))) a)

-- what a class needs, part by part
pub class_added : (second third fourth last : List PoolItem) (w : ClassWriter) → second ≡ with_items [] (class_items w.name) → third ≡ with_items second (class_items w.super_name)
    → fourth ≡ with_items third (flat_map field_items w.fields) → last ≡ with_items fourth (flat_map method_items w.methods) → last ≡ pool_of w
unfolding pool_of
class_added second third fourth last w a b c d =
    d ∙ ap (λ (p : List PoolItem). with_items p (flat_map method_items w.methods)) c ∙ sym (with_append (flat_map field_items w.fields) (flat_map method_items w.methods) third)
    ∙ ap (λ (p : List PoolItem). with_items p (flat_map field_items w.fields ++ flat_map method_items w.methods)) (b ∙ ap (λ (p : List PoolItem). with_items p (class_items w.super_name)) a)

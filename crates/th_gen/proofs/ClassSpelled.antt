-- The bytes of a class whose parts have room and pass the checks are a class file that stands for it.
use Rattle.std.proofs.Common.{◌≡◌, ℕ, ◌+◌, ◌<◌, ◌≤◌, ◌^◌, Bool, true, false, ◌&&◌, cond, List, [], ◌∷◌, ◌++◌, length, map, Some, refl, sym, ap, subst, ◌∙◌, arith, eqb}
use Rattle.std.specs.Prelude.{nat_le, ℤ, FitsSigned}
use Rattle.std.specs.List.{flat_map, list_all, AllByRecursion}
use Rattle.std.specs.Int.{w32, w64}
use Rattle.std.proofs.lemmas.Bool.{leb-true, ne_eqb}
use Rattle.std.proofs.lemmas.List.{append-nil}
use Rattle.th_syntax.specs.declared.cause.TheConstants as cause
use Rattle.th_syntax.specs.declared.instr.Instr.{Instr}
use Rattle.th_syntax.specs.declared.instr.Instr.TheVariants.{Int, Long, Str, GetStatic, PutStatic, GetField, PutField, InvokeVirtual, InvokeSpecial, InvokeInterface, InvokeStatic, New, ANewArray, CheckCast, InstanceOf}
use Rattle.th_syntax.specs.declared.limit.TheConstants.{OLDEST_MAJOR, NEWEST_MAJOR}
use Rattle.th_syntax.specs.declared.refusal.Flaw.{Flaw}
use Rattle.th_syntax.specs.PoolChecks.{entry_of}
use Rattle.th_syntax.specs.Forms.{whole, ◌>>=◌, Stands}
use Rattle.th_syntax.specs.ClassBytes.{Attribute, RawMember, RawClass, u2, counted, attribute, member, class_file, demand, pool}
use Rattle.th_syntax.specs.Checks.{member_index_flaws, field_name_flaws, method_name_flaws, constant_flaws, method_flaws, second_pass, third_pass, fourth_pass}
use Rattle.th_syntax.specs.ClassGrammar.{all_there, field_value, method_value, class_file_of, IsWhole, IsClassFile, are_bytes}
use Rattle.th_gen.specs.declared.item.PoolItem.{PoolItem}
use Rattle.th_gen.specs.declared.item.PoolItem.TheVariants.{Utf8, Integer, LongInteger, ClassName, StringText, NameAndType, FieldRef, MethodRef, InterfaceMethodRef}
use Rattle.th_gen.specs.declared.draft.ClassWriter.{ClassWriter}
use Rattle.th_gen.specs.declared.draft.DraftField.{DraftField}
use Rattle.th_gen.specs.declared.draft.DraftMethod.{DraftMethod}
use Rattle.th_gen.specs.Items.{is_same_item, width, index_from, index_behind, index_of, pool_count, items_of, class_items, instr_items, field_items, code_items, method_items, is_short, is_small_long, pool_of}
use Rattle.th_gen.specs.ClassText as text
use Rattle.th_gen.specs.ClassValue.{field_member, method_member, class_of}
use Rattle.th_gen.specs.Passing.{FieldPasses, MethodPasses, NumberFits, Passes}
use Rattle.th_gen.proofs.Spells.{Spells, AllTwo, spells_then, spells_made, spells_demand, u2_spells, u2_length, times_spells, counted_spells, spelled_stands}
use Rattle.th_gen.proofs.PoolSpelled.{ItemFits, raw_entry, raw_pool, pool_spelled}
use Rattle.th_gen.proofs.Entries.{entry_found, class_found, pool_refers}
use Rattle.th_gen.proofs.Closed.{Holds, HasClass, class_there, holds_left, holds_right, all_of, all_append, all_flat, pool_holds, items_refer}
use Rattle.th_gen.proofs.InstrSpelled.{two_tests}
use Rattle.th_gen.proofs.Members.{FieldGood, FieldReady, field_spelled, MethodGood, MethodReady, method_spelled, none_spelled}

-- ---- indices have room

behind_more : (n : ℕ) (xs : List PoolItem) → n ≤ index_behind n xs
behind_more n [] = omega arith
behind_more n (x ∷ xs) = let rest = behind_more (n + width x) xs in omega arith

index_below : (n : ℕ) (xs : List PoolItem) (item : PoolItem) → index_from n xs item ≤ index_behind n xs
index_below n [] item = omega arith
index_below n (x ∷ xs) item = go (is_same_item item x) (index_below (n + width x) xs item)
  where
    go : (b : Bool) → index_from (n + width x) xs item ≤ index_behind (n + width x) xs → cond b n (index_from (n + width x) xs item) ≤ index_behind (n + width x) xs
    go true rest = let more = behind_more (n + width x) xs in omega arith
    go false rest = rest

indices_fit : (pool : List PoolItem) → text.fits_pool pool ≡ true → (i : PoolItem) → index_of pool i < 2 ^ 16
unfolding text.fits_pool index_of pool_count
indices_fit pool fits i =
    let two = two_tests (nat_le (index_behind 1 pool) 65535) (list_all text.fits_item pool) fits in
    let most : index_behind 1 pool ≤ 65535 = leb-true (index_behind 1 pool) 65535 two.0 in
    let le = index_below 1 pool i in omega arith

count_fits : (pool : List PoolItem) → text.fits_pool pool ≡ true → pool_count pool < 2 ^ 16
unfolding text.fits_pool
count_fits pool fits =
    let two = two_tests (nat_le (pool_count pool) 65535) (list_all text.fits_item pool) fits in
    let most : pool_count pool ≤ 65535 = leb-true (pool_count pool) 65535 two.0 in omega arith

-- ---- numbers of entries have room

abbrev NumberHeld : PoolItem → Type 0
NumberHeld (Integer value) = FitsSigned w32 value
NumberHeld (LongInteger value) = FitsSigned w64 value
NumberHeld other = Unit {0}

int_number : (b : Bool) (v : ℤ) → FitsSigned w32 v → AllByRecursion NumberHeld (cond b [] (Integer v ∷ []))
int_number true v fits = tt
int_number false v fits = (fits, tt)

long_number : (b : Bool) (v : ℤ) → FitsSigned w64 v → AllByRecursion NumberHeld (cond b [] (LongInteger v ∷ []))
long_number true v fits = tt
long_number false v fits = (fits, tt)

instr_number : (i : Instr) → NumberFits i → AllByRecursion NumberHeld (instr_items i)
instr_number (Int v) fits = int_number (is_short v) v fits
instr_number (Long v) fits = long_number (is_small_long v) v fits
instr_number (Str bytes) fits = (tt, (tt, tt))
instr_number (GetStatic f) fits = (tt, (tt, (tt, (tt, (tt, (tt, tt))))))
instr_number (PutStatic f) fits = (tt, (tt, (tt, (tt, (tt, (tt, tt))))))
instr_number (GetField f) fits = (tt, (tt, (tt, (tt, (tt, (tt, tt))))))
instr_number (PutField f) fits = (tt, (tt, (tt, (tt, (tt, (tt, tt))))))
instr_number (InvokeVirtual m) fits = (tt, (tt, (tt, (tt, (tt, (tt, tt))))))
instr_number (InvokeSpecial m) fits = (tt, (tt, (tt, (tt, (tt, (tt, tt))))))
instr_number (InvokeStatic m) fits = (tt, (tt, (tt, (tt, (tt, (tt, tt))))))
instr_number (InvokeInterface m) fits = (tt, (tt, (tt, (tt, (tt, (tt, tt))))))
instr_number (New name) fits = (tt, (tt, tt))
instr_number (ANewArray name) fits = (tt, (tt, tt))
instr_number (CheckCast name) fits = (tt, (tt, tt))
instr_number (InstanceOf name) fits = (tt, (tt, tt))
instr_number other fits = tt

instr_numbers : (instrs : List Instr) → AllByRecursion NumberFits instrs → AllByRecursion NumberHeld (flat_map instr_items instrs)
instr_numbers [] all = tt
instr_numbers (i ∷ instrs) all = all_append NumberHeld (instr_items i) (flat_map instr_items instrs) (instr_number i all.0) (instr_numbers instrs all.1)

code_numbers : (instrs : List Instr) → AllByRecursion NumberFits instrs → AllByRecursion NumberHeld (code_items instrs)
code_numbers [] all = tt
code_numbers (i ∷ instrs) all = (tt, instr_numbers (i ∷ instrs) all)

method_numbers_held : (methods : List DraftMethod) → AllByRecursion MethodPasses methods → AllByRecursion NumberHeld (flat_map method_items methods)
method_numbers_held [] all = tt
method_numbers_held (m ∷ methods) all = all_append NumberHeld (method_items m) (flat_map method_items methods) (tt, (tt, code_numbers m.instrs all.0.numbers)) (method_numbers_held methods all.1)

pool_numbers : (w : ClassWriter) → Passes w → AllByRecursion NumberHeld (pool_of w)
unfolding pool_of
pool_numbers w p =
    all_of NumberHeld (items_of w) [] tt
    (all_append NumberHeld (class_items w.name) (class_items w.super_name ++ (flat_map field_items w.fields ++ flat_map method_items w.methods)) (tt, (tt, tt))
    (all_append NumberHeld (class_items w.super_name) (flat_map field_items w.fields ++ flat_map method_items w.methods) (tt, (tt, tt))
    (all_append NumberHeld (flat_map field_items w.fields) (flat_map method_items w.methods) (all_flat NumberHeld field_items w.fields (λ f. (tt, (tt, tt))))
    (method_numbers_held w.methods p.methods))))

item_fits : (x : PoolItem) → text.fits_item x ≡ true → NumberHeld x → ItemFits x
item_fits (Utf8 bytes) e n = let le : length bytes ≤ 65535 = leb-true (length bytes) 65535 e in omega arith
item_fits (Integer v) e n = n
item_fits (LongInteger v) e n = n
item_fits (ClassName a) e n = tt
item_fits (StringText a) e n = tt
item_fits (NameAndType a b) e n = tt
item_fits (FieldRef m) e n = tt
item_fits (MethodRef m) e n = tt
item_fits (InterfaceMethodRef m) e n = tt

items_fit : (xs : List PoolItem) → list_all text.fits_item xs ≡ true → AllByRecursion NumberHeld xs → AllByRecursion ItemFits xs
items_fit [] e all = tt
items_fit (x ∷ xs) e all = let two = two_tests (text.fits_item x) (list_all text.fits_item xs) e in (item_fits x two.0 all.0, items_fit xs two.1 all.1)

pool_items_fit : (w : ClassWriter) → text.fits_pool (pool_of w) ≡ true → Passes w → AllByRecursion ItemFits (pool_of w)
unfolding text.fits_pool
pool_items_fit w fits p =
    let two = two_tests (nat_le (pool_count (pool_of w)) 65535) (list_all text.fits_item (pool_of w)) fits in
    items_fit (pool_of w) two.1 (pool_numbers w p)

-- ---- members are ready

module _ (pool : List PoolItem) (small : (i : PoolItem) → index_of pool i < 2 ^ 16) where
  fields_ready : (fields : List DraftField) → AllByRecursion FieldPasses fields → Holds pool (flat_map field_items fields) → AllByRecursion (FieldReady pool small) fields
  fields_ready [] all h = tt
  fields_ready (f ∷ fields) all h =
      (record { passes = all.0; items = holds_left pool (field_items f) (flat_map field_items fields) h }, fields_ready fields all.1 (holds_right pool (field_items f) (flat_map field_items fields) h))

  methods_ready : (methods : List DraftMethod) → AllByRecursion MethodPasses methods → Holds pool (flat_map method_items methods) → list_all (text.fits_method pool) methods ≡ true → AllByRecursion (MethodReady pool small) methods
  methods_ready [] all h fits = tt
  methods_ready (m ∷ methods) all h fits =
      let two = two_tests (text.fits_method pool m) (list_all (text.fits_method pool) methods) fits in (
        record { passes = all.0; items = holds_left pool (method_items m) (flat_map method_items methods) h; fits = two.0 },
        methods_ready methods all.1 (holds_right pool (method_items m) (flat_map method_items methods) h) two.1,
      )

  -- ---- members have no flaws

  field_indices : (fs : List DraftField) (ms : List RawMember) → AllTwo (FieldGood pool small) fs ms → flat_map (member_index_flaws (raw_pool pool)) ms ≡ []
  unfolding AllTwo
  field_indices [] [] all = refl
  field_indices [] (m ∷ ms) all = absurd all
  field_indices (f ∷ fs) [] all = absurd all
  field_indices (f ∷ fs) (m ∷ ms) all = rw (all.0.indices) (field_indices fs ms all.1)

  field_names : (fs : List DraftField) (ms : List RawMember) → AllTwo (FieldGood pool small) fs ms → flat_map (field_name_flaws (raw_pool pool)) ms ≡ []
  unfolding AllTwo
  field_names [] [] all = refl
  field_names [] (m ∷ ms) all = absurd all
  field_names (f ∷ fs) [] all = absurd all
  field_names (f ∷ fs) (m ∷ ms) all = rw (all.0.names) (field_names fs ms all.1)

  field_contents : (fs : List DraftField) (ms : List RawMember) → AllTwo (FieldGood pool small) fs ms → flat_map (constant_flaws (raw_pool pool)) ms ≡ []
  unfolding AllTwo
  field_contents [] [] all = refl
  field_contents [] (m ∷ ms) all = absurd all
  field_contents (f ∷ fs) [] all = absurd all
  field_contents (f ∷ fs) (m ∷ ms) all = rw (all.0.content) (field_contents fs ms all.1)

  field_values_are : (fs : List DraftField) (ms : List RawMember) → AllTwo (FieldGood pool small) fs ms → all_there (map (field_value (raw_pool pool)) ms) ≡ Some (map field_member fs)
  unfolding AllTwo
  field_values_are [] [] all = refl
  field_values_are [] (m ∷ ms) all = absurd all
  field_values_are (f ∷ fs) [] all = absurd all
  field_values_are (f ∷ fs) (m ∷ ms) all = rw (all.0.value, field_values_are fs ms all.1) refl

  method_indices : (ws : List DraftMethod) (ms : List RawMember) → AllTwo (MethodGood pool small) ws ms → flat_map (member_index_flaws (raw_pool pool)) ms ≡ []
  unfolding AllTwo
  method_indices [] [] all = refl
  method_indices [] (m ∷ ms) all = absurd all
  method_indices (f ∷ fs) [] all = absurd all
  method_indices (f ∷ fs) (m ∷ ms) all = rw (all.0.indices) (method_indices fs ms all.1)

  method_names : (ws : List DraftMethod) (ms : List RawMember) → AllTwo (MethodGood pool small) ws ms → flat_map (method_name_flaws (raw_pool pool)) ms ≡ []
  unfolding AllTwo
  method_names [] [] all = refl
  method_names [] (m ∷ ms) all = absurd all
  method_names (f ∷ fs) [] all = absurd all
  method_names (f ∷ fs) (m ∷ ms) all = rw (all.0.names) (method_names fs ms all.1)

  method_contents : (c : RawClass) (ws : List DraftMethod) (ms : List RawMember) → c.pool ≡ raw_pool pool → c.access.value ≡ text.class_access → AllTwo (MethodGood pool small) ws ms → flat_map (method_flaws c) ms ≡ []
  unfolding AllTwo
  method_contents c [] [] is access all = refl
  method_contents c [] (m ∷ ms) is access all = absurd all
  method_contents c (f ∷ fs) [] is access all = absurd all
  method_contents c (f ∷ fs) (m ∷ ms) is access all = rw (all.0.native, access, is, all.0.content) (method_contents c fs ms is access all.1)

  method_values_are : (ws : List DraftMethod) (ms : List RawMember) → AllTwo (MethodGood pool small) ws ms → all_there (map (method_value (raw_pool pool)) ms) ≡ Some (map (method_member pool) ws)
  unfolding AllTwo
  method_values_are [] [] all = refl
  method_values_are [] (m ∷ ms) all = absurd all
  method_values_are (f ∷ fs) [] all = absurd all
  method_values_are (f ∷ fs) (m ∷ ms) all = rw (all.0.value, method_values_are fs ms all.1) refl

-- ---- the class

same_empty : (b : Bool) → cond b (let xs : List Flaw = [] in xs) [] ≡ []
same_empty true = refl
same_empty false = refl

-- the items of a class
abbrev raw_class : ClassWriter → List RawMember → List RawMember → ℕ → ℕ → ℕ → RawClass
raw_class w fields methods access_at this_at super_at = record {
  major = text.class_major;
  pool = raw_pool (pool_of w);
  access = record { at = access_at; value = text.class_access };
  this_class = record { at = this_at; value = index_of (pool_of w) (ClassName w.name) };
  super_class = record { at = super_at; value = index_of (pool_of w) (ClassName w.super_name) };
  interfaces = [];
  fields = fields;
  methods = methods;
  attributes = [];
}

-- the items of a class, and what holds of them
record Items (w : ClassWriter) (small : (i : PoolItem) → index_of (pool_of w) i < 2 ^ 16) (bytes : List ℕ) : Type 0 where
  access_at : ℕ
  this_at : ℕ
  super_at : ℕ
  fields : List RawMember
  methods : List RawMember
  spelled : Spells class_file 4 bytes (raw_class w fields methods access_at this_at super_at)
  good_fields : AllTwo (FieldGood (pool_of w) small) w.fields fields
  good_methods : AllTwo (MethodGood (pool_of w) small) w.methods methods

-- the bytes behind the magic number
abbrev behind_magic : ClassWriter → List ℕ
behind_magic w =
    text.u2 0 ++ (text.u2 text.class_major ++ (text.pool_bytes (pool_of w)
    ++ (text.u2 text.class_access ++ (text.u2 (index_of (pool_of w) (ClassName w.name)) ++ (text.u2 (index_of (pool_of w) (ClassName w.super_name)) ++ (text.u2 0
    ++ ((text.u2 (length w.fields) ++ flat_map (text.field_bytes (pool_of w)) w.fields)
    ++ ((text.u2 (length w.methods) ++ flat_map (text.method_bytes (pool_of w)) w.methods)
    ++ text.u2 0))))))))

module _ (w : ClassWriter) (fits : text.fits w ≡ true) (p : Passes w) where
  pool_fits : text.fits_pool (pool_of w) ≡ true
  unfolding text.fits
  pool_fits = (two_tests (text.fits_pool (pool_of w)) (nat_le (length w.fields) 65535 && (nat_le (length w.methods) 65535 && list_all (text.fits_method (pool_of w)) w.methods)) fits).0

  fields_fit : length w.fields < 2 ^ 16
  unfolding text.fits
  fields_fit =
      let one = two_tests (text.fits_pool (pool_of w)) (nat_le (length w.fields) 65535 && (nat_le (length w.methods) 65535 && list_all (text.fits_method (pool_of w)) w.methods)) fits in
      let two = two_tests (nat_le (length w.fields) 65535) (nat_le (length w.methods) 65535 && list_all (text.fits_method (pool_of w)) w.methods) one.1 in
      let le : length w.fields ≤ 65535 = leb-true (length w.fields) 65535 two.0 in omega arith

  methods_fit : (length w.methods < 2 ^ 16) × (list_all (text.fits_method (pool_of w)) w.methods ≡ true)
  unfolding text.fits
  methods_fit =
      let one = two_tests (text.fits_pool (pool_of w)) (nat_le (length w.fields) 65535 && (nat_le (length w.methods) 65535 && list_all (text.fits_method (pool_of w)) w.methods)) fits in
      let two = two_tests (nat_le (length w.fields) 65535) (nat_le (length w.methods) 65535 && list_all (text.fits_method (pool_of w)) w.methods) one.1 in
      let three = two_tests (nat_le (length w.methods) 65535) (list_all (text.fits_method (pool_of w)) w.methods) two.1 in
      let le : length w.methods ≤ 65535 = leb-true (length w.methods) 65535 three.0 in (omega arith, three.1)

  small : (i : PoolItem) → index_of (pool_of w) i < 2 ^ 16
  small = indices_fit (pool_of w) pool_fits

  members_held : Holds (pool_of w) (flat_map field_items w.fields ++ flat_map method_items w.methods)
  members_held =
      holds_right (pool_of w) (class_items w.super_name) (flat_map field_items w.fields ++ flat_map method_items w.methods)
      (holds_right (pool_of w) (class_items w.name) (class_items w.super_name ++ (flat_map field_items w.fields ++ flat_map method_items w.methods)) (pool_holds w))

  name_held : HasClass (pool_of w) w.name
  name_held = class_there (pool_of w) w.name (holds_left (pool_of w) (class_items w.name) (class_items w.super_name ++ (flat_map field_items w.fields ++ flat_map method_items w.methods)) (pool_holds w))

  super_held : HasClass (pool_of w) w.super_name
  super_held =
      class_there (pool_of w) w.super_name (holds_left (pool_of w) (class_items w.super_name) (flat_map field_items w.fields ++ flat_map method_items w.methods)
      (holds_right (pool_of w) (class_items w.name) (class_items w.super_name ++ (flat_map field_items w.fields ++ flat_map method_items w.methods)) (pool_holds w)))

  items : Items w small (behind_magic w)
  unfolding class_file
  items =
      let entries : List PoolItem = pool_of w in
      let this_index : ℕ = index_of entries (ClassName w.name) in
      let super_index : ℕ = index_of entries (ClassName w.super_name) in
      let fields_bytes : List ℕ = flat_map (text.field_bytes entries) w.fields in
      let methods_bytes : List ℕ = flat_map (text.method_bytes entries) w.methods in
      let at_major : ℕ = 4 + length (text.u2 0) in
      let at_pool : ℕ = at_major + length (text.u2 text.class_major) in
      let at_access : ℕ = at_pool + length (text.pool_bytes entries) in
      let at_this : ℕ = at_access + length (text.u2 text.class_access) in
      let at_super : ℕ = at_this + length (text.u2 this_index) in
      let at_interfaces : ℕ = at_super + length (text.u2 super_index) in
      let at_fields : ℕ = at_interfaces + length (text.u2 0) in
      let at_methods : ℕ = at_fields + length (text.u2 (length w.fields) ++ fields_bytes) in
      let at_attributes : ℕ = at_methods + length (text.u2 (length w.methods) ++ methods_bytes) in
      let fs = times_spells member (text.field_bytes entries) (FieldReady entries small) (FieldGood entries small) (field_spelled entries small) w.fields (at_fields + 2)
      (fields_ready entries small w.fields p.fields (holds_left entries (flat_map field_items w.fields) (flat_map method_items w.methods) members_held)) in
      let ms = times_spells member (text.method_bytes entries) (MethodReady entries small) (MethodGood entries small) (method_spelled entries small) w.methods (at_methods + 2)
      (methods_ready entries small w.methods p.methods (holds_right entries (flat_map field_items w.fields) (flat_map method_items w.methods) members_held) methods_fit.1) in
      let c : RawClass = raw_class w fs.0 ms.0 at_access at_this at_super in
      let rest9 : List ℕ = text.u2 0 in
      let rest8 : List ℕ = (text.u2 (length w.methods) ++ methods_bytes) ++ rest9 in
      let rest7 : List ℕ = (text.u2 (length w.fields) ++ fields_bytes) ++ rest8 in
      let rest6 : List ℕ = text.u2 0 ++ rest7 in
      let rest5 : List ℕ = text.u2 super_index ++ rest6 in
      let rest4 : List ℕ = text.u2 this_index ++ rest5 in
      let rest3 : List ℕ = text.u2 text.class_access ++ rest4 in
      let rest2 : List ℕ = text.pool_bytes entries ++ rest3 in
      let rest1 : List ℕ = text.u2 text.class_major ++ rest2 in
      record {
        access_at = at_access;
        this_at = at_this;
        super_at = at_super;
        fields = fs.0;
        methods = ms.0;
        good_fields = fs.2;
        good_methods = ms.2;
        spelled =
            spells_then u2 (λ minor. u2 >>= λ major. demand (nat_le OLDEST_MAJOR major.value && nat_le major.value NEWEST_MAJOR) major.at cause.VERSION >>= λ known. pool >>= λ es. u2 >>= λ access. u2 >>= λ this_class. u2 >>= λ super_class. counted u2 >>= λ interfaces. counted member >>= λ fields. counted member >>= λ methods. counted attribute >>= λ attributes.
            whole (let r : RawClass = record { major = major.value; pool = es; access = access; this_class = this_class; super_class = super_class; interfaces = interfaces; fields = fields; methods = methods; attributes = attributes } in r))
            4 (text.u2 0) rest1 (record { at = 4; value = 0 }) c (u2_spells 4 0 (omega arith))
            (spells_then u2 (λ major. demand (nat_le OLDEST_MAJOR major.value && nat_le major.value NEWEST_MAJOR) major.at cause.VERSION >>= λ known. pool >>= λ es. u2 >>= λ access. u2 >>= λ this_class. u2 >>= λ super_class. counted u2 >>= λ interfaces. counted member >>= λ fields. counted member >>= λ methods. counted attribute >>= λ attributes.
            whole (let r : RawClass = record { major = major.value; pool = es; access = access; this_class = this_class; super_class = super_class; interfaces = interfaces; fields = fields; methods = methods; attributes = attributes } in r))
            at_major (text.u2 text.class_major) rest2 (record { at = at_major; value = text.class_major }) c (u2_spells at_major text.class_major (omega arith))
            (spells_demand (nat_le OLDEST_MAJOR text.class_major && nat_le text.class_major NEWEST_MAJOR) at_major cause.VERSION (λ known. pool >>= λ es. u2 >>= λ access. u2 >>= λ this_class. u2 >>= λ super_class. counted u2 >>= λ interfaces. counted member >>= λ fields. counted member >>= λ methods. counted attribute >>= λ attributes.
            whole (let r : RawClass = record { major = text.class_major; pool = es; access = access; this_class = this_class; super_class = super_class; interfaces = interfaces; fields = fields; methods = methods; attributes = attributes } in r))
            at_pool rest2 c refl
            (spells_then pool (λ es. u2 >>= λ access. u2 >>= λ this_class. u2 >>= λ super_class. counted u2 >>= λ interfaces. counted member >>= λ fields. counted member >>= λ methods. counted attribute >>= λ attributes.
            whole (let r : RawClass = record { major = text.class_major; pool = es; access = access; this_class = this_class; super_class = super_class; interfaces = interfaces; fields = fields; methods = methods; attributes = attributes } in r))
            at_pool (text.pool_bytes entries) rest3 (raw_pool entries) c
            (subst (λ (k : ℕ). Spells pool k (text.pool_bytes entries) (raw_pool entries)) at_eight (pool_spelled entries small (count_fits entries pool_fits) (pool_items_fit w pool_fits p)))
            (spells_then u2 (λ access. u2 >>= λ this_class. u2 >>= λ super_class. counted u2 >>= λ interfaces. counted member >>= λ fields. counted member >>= λ methods. counted attribute >>= λ attributes.
            whole (let r : RawClass = record { major = text.class_major; pool = raw_pool entries; access = access; this_class = this_class; super_class = super_class; interfaces = interfaces; fields = fields; methods = methods; attributes = attributes } in r))
            at_access (text.u2 text.class_access) rest4 (record { at = at_access; value = text.class_access }) c (u2_spells at_access text.class_access (omega arith))
            (spells_then u2 (λ this_class. u2 >>= λ super_class. counted u2 >>= λ interfaces. counted member >>= λ fields. counted member >>= λ methods. counted attribute >>= λ attributes.
            whole (let r : RawClass = record { major = text.class_major; pool = raw_pool entries; access = record { at = at_access; value = text.class_access }; this_class = this_class; super_class = super_class; interfaces = interfaces; fields = fields; methods = methods; attributes = attributes } in r))
            at_this (text.u2 this_index) rest5 (record { at = at_this; value = this_index }) c (u2_spells at_this this_index (small (ClassName w.name)))
            (spells_then u2 (λ super_class. counted u2 >>= λ interfaces. counted member >>= λ fields. counted member >>= λ methods. counted attribute >>= λ attributes.
            whole (let r : RawClass = record { major = text.class_major; pool = raw_pool entries; access = record { at = at_access; value = text.class_access }; this_class = record { at = at_this; value = this_index }; super_class = super_class; interfaces = interfaces; fields = fields; methods = methods; attributes = attributes } in r))
            at_super (text.u2 super_index) rest6 (record { at = at_super; value = super_index }) c (u2_spells at_super super_index (small (ClassName w.super_name)))
            (spells_then (counted u2) (λ interfaces. counted member >>= λ fields. counted member >>= λ methods. counted attribute >>= λ attributes.
            whole (let r : RawClass = record { major = text.class_major; pool = raw_pool entries; access = record { at = at_access; value = text.class_access }; this_class = record { at = at_this; value = this_index }; super_class = record { at = at_super; value = super_index }; interfaces = interfaces; fields = fields; methods = methods; attributes = attributes } in r))
            at_interfaces (text.u2 0) rest7 [] c (none_spelled u2 at_interfaces)
            (spells_then (counted member) (λ fields. counted member >>= λ methods. counted attribute >>= λ attributes.
            whole (let r : RawClass = record { major = text.class_major; pool = raw_pool entries; access = record { at = at_access; value = text.class_access }; this_class = record { at = at_this; value = this_index }; super_class = record { at = at_super; value = super_index }; interfaces = []; fields = fields; methods = methods; attributes = attributes } in r))
            at_fields (text.u2 (length w.fields) ++ fields_bytes) rest8 fs.0 c (counted_spells member at_fields (length w.fields) fields_bytes fs.0 fields_fit fs.1)
            (spells_then (counted member) (λ methods. counted attribute >>= λ attributes.
            whole (let r : RawClass = record { major = text.class_major; pool = raw_pool entries; access = record { at = at_access; value = text.class_access }; this_class = record { at = at_this; value = this_index }; super_class = record { at = at_super; value = super_index }; interfaces = []; fields = fs.0; methods = methods; attributes = attributes } in r))
            at_methods (text.u2 (length w.methods) ++ methods_bytes) rest9 ms.0 c (counted_spells member at_methods (length w.methods) methods_bytes ms.0 methods_fit.0 ms.1)
            (spells_made (counted attribute) (λ (attributes : List Attribute). (let r : RawClass = record { major = text.class_major; pool = raw_pool entries; access = record { at = at_access; value = text.class_access }; this_class = record { at = at_this; value = this_index }; super_class = record { at = at_super; value = super_index }; interfaces = []; fields = fs.0; methods = ms.0; attributes = attributes } in r))
            at_attributes rest9 [] (none_spelled attribute at_attributes)))))))))));
      }
    where
      at_eight : 8 ≡ 4 + length (text.u2 0) + length (text.u2 text.class_major)
      at_eight = (let a = u2_length 0 in let b = u2_length text.class_major in omega arith)

  whole_class : IsWhole (text.class_bytes w) (raw_class w items.fields items.methods items.access_at items.this_at items.super_at)
  unfolding text.class_bytes
  whole_class =
      let c : RawClass = raw_class w items.fields items.methods items.access_at items.this_at items.super_at in
      record {
        others = behind_magic w;
        behind = 4 + length (behind_magic w);
        begins = refl;
        items = subst (λ (r : List ℕ). Stands class_file 4 r c (4 + length (behind_magic w)) []) (append-nil (behind_magic w)) (spelled_stands class_file 4 (behind_magic w) [] c items.spelled);
      }

  no_indices : second_pass (raw_class w items.fields items.methods items.access_at items.this_at items.super_at) ≡ []
  unfolding second_pass
  no_indices =
      rw (
        pool_refers (pool_of w) (items_refer w),
        entry_found (pool_of w) (ClassName w.name) name_held.reference,
        entry_found (pool_of w) (ClassName w.super_name) super_held.reference,
        same_twice_empty,
        field_indices (pool_of w) small w.fields items.fields items.good_fields,
        method_indices (pool_of w) small w.methods items.methods items.good_methods,
      ) refl
    where
      same_twice_empty : cond (eqb (index_of (pool_of w) (ClassName w.super_name)) 0) (let xs : List Flaw = [] in xs) [] ≡ []
      same_twice_empty = same_empty (eqb (index_of (pool_of w) (ClassName w.super_name)) 0)

  no_names : third_pass (raw_class w items.fields items.methods items.access_at items.this_at items.super_at) ≡ []
  unfolding third_pass
  no_names =
      rw (
        class_found (pool_of w) w.name name_held.reference name_held.text,
        class_found (pool_of w) w.super_name super_held.reference super_held.text,
        p.name,
        p.super_name,
        field_names (pool_of w) small w.fields items.fields items.good_fields,
        method_names (pool_of w) small w.methods items.methods items.good_methods,
      ) refl

  no_contents : fourth_pass (raw_class w items.fields items.methods items.access_at items.this_at items.super_at) ≡ []
  unfolding fourth_pass
  no_contents =
      rw (field_contents (pool_of w) small w.fields items.fields items.good_fields)
      (method_contents (pool_of w) small (raw_class w items.fields items.methods items.access_at items.this_at items.super_at) w.methods items.methods refl refl items.good_methods)

  stands_for : class_file_of (raw_class w items.fields items.methods items.access_at items.this_at items.super_at) ≡ Some (class_of w)
  unfolding class_file_of class_of
  stands_for =
      let index : ℕ = index_of (pool_of w) (ClassName w.super_name) in
      let apart : eqb index 0 ≡ false = super_apart in
      rw (
        class_found (pool_of w) w.name name_held.reference name_held.text,
        apart,
        class_found (pool_of w) w.super_name super_held.reference super_held.text,
        field_values_are (pool_of w) small w.fields items.fields items.good_fields,
        method_values_are (pool_of w) small w.methods items.methods items.good_methods,
      ) refl
    where
      -- index 0 leads to nothing
      zero_empty : (n : ℕ) → n ≡ index_of (pool_of w) (ClassName w.super_name) → n ≡ 0 → ⊥
      zero_empty n is zero_is =
          let found = entry_found (pool_of w) (ClassName w.super_name) super_held.reference in
          let nothing : entry_of (raw_pool (pool_of w)) 0 ≡ Some (raw_entry (pool_of w) (ClassName w.super_name)) = ap (entry_of (raw_pool (pool_of w))) (sym zero_is ∙ is) ∙ found in
          cc

      super_apart : eqb (index_of (pool_of w) (ClassName w.super_name)) 0 ≡ false
      super_apart = ne_eqb (index_of (pool_of w) (ClassName w.super_name)) 0 (λ e. zero_empty (index_of (pool_of w) (ClassName w.super_name)) refl e)

  -- the bytes are a class file
  pub class_spelled : are_bytes (text.class_bytes w) ≡ true → IsClassFile (text.class_bytes w) (class_of w)
  class_spelled bytes = record {
    class = raw_class w items.fields items.methods items.access_at items.this_at items.super_at;
    bytes_are = bytes;
    whole = whole_class;
    indices = no_indices;
    names = no_names;
    content = no_contents;
    stands_for = stands_for;
  }

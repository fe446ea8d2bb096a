-- The bytes of fields and methods spell members on which no check fails, and which stand for what was written.
use Rattle.std.proofs.Common.{◌≡◌, ℕ, zero, suc, ◌+◌, ◌*◌, ◌<◌, ◌≤◌, ◌^◌, Bool, true, false, cond, List, [], ◌∷◌, ◌++◌, length, Option, Some, None, refl, sym, ap, subst, ◌∙◌, arith}
use Rattle.std.specs.Prelude.{nat_lt, nat_le, codes, slice_index}
use Rattle.std.specs.List.{flat_map, filter_map, AllByRecursion}
use Rattle.std.proofs.lemmas.Bool.{lt-ltb, leb-true}
use Rattle.std.proofs.lemmas.List.{append-nil, length-append}
use Rattle.th_syntax.specs.declared.flags.TheConstants.{ACC_STATIC}
use Rattle.th_syntax.specs.declared.limit.TheConstants.{MOST_CODE_BYTES}
use Rattle.th_syntax.specs.declared.class_file.Code.{Code}
use Rattle.th_syntax.specs.declared.class_file.Constant.{Constant}
use Rattle.th_syntax.specs.declared.instr.Instr.{Instr}
use Rattle.th_syntax.specs.Flags.{has_flag}
use Rattle.th_syntax.specs.Forms.{Form, whole, ◌>>=◌, Placed}
use Rattle.th_syntax.specs.ClassBytes.{Pool, Attribute, RawMember, RawCode, u2, u4, run, times, counted, attribute, member, code}
use Rattle.th_syntax.specs.Decoding.{decoded, instrs_in, instr_of, instr_flaw, flow_flaws, flaws_in, code_flaws}
use Rattle.th_syntax.specs.Checks.{member_index_flaws, field_name_flaws, method_name_flaws, constant_flaws, native_flaws, method_code_flaws, codes_of, attribute_index_flaws, attributes_named, raw_code}
use Rattle.th_syntax.specs.ClassGrammar.{field_value, method_value, code_among}
use Rattle.th_gen.specs.declared.item.PoolItem.{PoolItem}
use Rattle.th_gen.specs.declared.item.PoolItem.TheVariants.{Utf8}
use Rattle.th_gen.specs.declared.draft.DraftField.{DraftField}
use Rattle.th_gen.specs.declared.draft.DraftMethod.{DraftMethod}
use Rattle.th_gen.specs.Items.{index_of, instr_items, header_items, field_items, code_items, method_items}
use Rattle.th_gen.specs.Placing.{start_at, size_of, starts_from, code_end, starts_of, code_length, all_reach, reaches, placed_by, placed_from}
use Rattle.th_gen.specs.ClassText as text
use Rattle.th_gen.specs.ClassValue.{field_member, code_with, method_member}
use Rattle.th_gen.specs.Passing.{FieldPasses, MethodPasses, InstrPasses, NumberFits}
use Rattle.th_gen.proofs.Spells.{Spells, spells_then, spells_whole, spells_made, u2_spells, u4_spells, run_spells, counted_spells, spelled_read, u2_length, u4_length}
use Rattle.th_gen.proofs.PoolSpelled.{raw_pool}
use Rattle.th_gen.proofs.Entries.{Has, entry_found, text_found}
use Rattle.th_gen.proofs.Closed.{Holds, header_there, holds_left, holds_right, has_here}
use Rattle.th_gen.proofs.InstrSpelled.{two_tests}
use Rattle.th_gen.proofs.CodeSpelled.{AllReady, code_decoded, no_instr_flaws, found, found_back, instr_length, size_least, room_of}
use Rattle.th_gen.proofs.FlowSpelled.{no_flow_flaws}

-- no items behind a count of none
pub none_spelled : {A : Type 0} (f : Form A) (at : ℕ) → Spells (counted f) at (text.u2 0) []
unfolding times
none_spelled f at =
    subst (λ (r : List ℕ). Spells (counted f) at r []) (append-nil (text.u2 0)) (counted_spells f at 0 [] [] (omega arith) (spells_whole [] (at + 2)))

one_time : {A : Type 0} (f : Form A) (at : ℕ) (bytes : List ℕ) (x : A) → Spells f at bytes x → Spells (times 1 f) at bytes (x ∷ [])
unfolding times
one_time {A = A} f at bytes x s =
    subst (λ (r : List ℕ). Spells (times 1 f) at r (x ∷ [])) (append-nil bytes)
    (spells_then f (λ first. times 0 f >>= λ others. whole (first ∷ others)) at bytes [] x (x ∷ []) s
    (spells_made (times 0 f) (λ (others : List A). x ∷ others) (at + length bytes) [] [] (spells_whole [] (at + length bytes))))

attribute_spelled : (at name size : ℕ) (content : List ℕ) → name < 2 ^ 16 → size < 2 ^ 32 → size ≡ length content
    → Spells attribute at (text.u2 name ++ (text.u4 size ++ content)) (record { name = record { at = at; value = name }; content = record { at = at + length (text.u2 name) + length (text.u4 size); value = content } })
unfolding attribute
attribute_spelled at name size content ln ls is =
    let at2 : ℕ = at + length (text.u2 name) in
    let at6 : ℕ = at2 + length (text.u4 size) in
    let value : Attribute = record { name = record { at = at; value = name }; content = record { at = at6; value = content } } in
    spells_then u2 (λ n. u4 >>= λ l. run l.value >>= λ c. whole (let r : Attribute = record { name = n; content = c } in r)) at (text.u2 name) (text.u4 size ++ content) (record { at = at; value = name }) value (u2_spells at name ln)
    (spells_then u4 (λ l. run l.value >>= λ c. whole (let r : Attribute = record { name = record { at = at; value = name }; content = c } in r)) at2 (text.u4 size) content (record { at = at2; value = size }) value (u4_spells at2 size ls)
    (spells_made (run size) (λ (c : Placed (List ℕ)). (let r : Attribute = record { name = record { at = at; value = name }; content = c } in r)) at6 content (record { at = at6; value = content })
    (subst (λ (k : ℕ). Spells (run k) at6 content (record { at = at6; value = content })) (sym is) (run_spells at6 content))))

-- ---- the header of a member

header_spelled : (pool : List PoolItem) (small : (i : PoolItem) → index_of pool i < 2 ^ 16) (at access : ℕ) (name descriptor others : List ℕ) (attributes : List Attribute) → access < 2 ^ 16
    → Spells (counted attribute) (at + 6) others attributes
    → Spells member at (text.header_bytes pool access name descriptor others)
    (record { access = record { at = at; value = access }; name = record { at = at + 2; value = index_of pool (Utf8 name) }; descriptor = record { at = at + 4; value = index_of pool (Utf8 descriptor) }; attributes = attributes })
unfolding member
header_spelled pool small at access name descriptor others attributes lt s =
    let n : ℕ = index_of pool (Utf8 name) in
    let d : ℕ = index_of pool (Utf8 descriptor) in
    let value : RawMember = record { access = record { at = at; value = access }; name = record { at = at + 2; value = n }; descriptor = record { at = at + 4; value = d }; attributes = attributes } in
    let at2 : at + length (text.u2 access) ≡ at + 2 = ap (λ (k : ℕ). at + k) (u2_length access) in
    let at4 : at + 2 + length (text.u2 n) ≡ at + 4 = (let e = u2_length n in omega arith) in
    let at6 : at + 4 + length (text.u2 d) ≡ at + 6 = (let e = u2_length d in omega arith) in
    spells_then u2 (λ access. u2 >>= λ name. u2 >>= λ descriptor. counted attribute >>= λ attributes. whole (record { access = access; name = name; descriptor = descriptor; attributes = attributes }))
    at (text.u2 access) (text.u2 n ++ (text.u2 d ++ others)) (record { at = at; value = access }) value (u2_spells at access lt)
    (subst (λ (k : ℕ). Spells (u2 >>= λ name. u2 >>= λ descriptor. counted attribute >>= λ attributes. whole (let r : RawMember = record { access = record { at = at; value = access }; name = name; descriptor = descriptor; attributes = attributes } in r)) k (text.u2 n ++ (text.u2 d ++ others)) value) (sym at2)
    (spells_then u2 (λ name. u2 >>= λ descriptor. counted attribute >>= λ attributes. whole (let r : RawMember = record { access = record { at = at; value = access }; name = name; descriptor = descriptor; attributes = attributes } in r))
    (at + 2) (text.u2 n) (text.u2 d ++ others) (record { at = at + 2; value = n }) value (u2_spells (at + 2) n (small (Utf8 name)))
    (subst (λ (k : ℕ). Spells (u2 >>= λ descriptor. counted attribute >>= λ attributes. whole (let r : RawMember = record { access = record { at = at; value = access }; name = record { at = at + 2; value = n }; descriptor = descriptor; attributes = attributes } in r)) k (text.u2 d ++ others) value) (sym at4)
    (spells_then u2 (λ descriptor. counted attribute >>= λ attributes. whole (let r : RawMember = record { access = record { at = at; value = access }; name = record { at = at + 2; value = n }; descriptor = descriptor; attributes = attributes } in r))
    (at + 4) (text.u2 d) others (record { at = at + 4; value = d }) value (u2_spells (at + 4) d (small (Utf8 descriptor)))
    (subst (λ (k : ℕ). Spells (counted attribute >>= λ attributes. whole (let r : RawMember = record { access = record { at = at; value = access }; name = record { at = at + 2; value = n }; descriptor = record { at = at + 4; value = d }; attributes = attributes } in r)) k others value) (sym at6)
    (spells_made (counted attribute) (λ (attributes : List Attribute). (let r : RawMember = record { access = record { at = at; value = access }; name = record { at = at + 2; value = n }; descriptor = record { at = at + 4; value = d }; attributes = attributes } in r))
    (at + 6) others attributes s))))))

same_twice : {A : Type 0} (b : Bool) (x : A) → cond b x x ≡ x
same_twice true x = refl
same_twice false x = refl

module _ (pool : List PoolItem) (small : (i : PoolItem) → index_of pool i < 2 ^ 16) where
  -- ---- fields

  -- no check fails on a member, and it stands for a field
  pub record FieldGood (f : DraftField) (m : RawMember) : Type 0 where
    pub indices : member_index_flaws (raw_pool pool) m ≡ []
    pub names : field_name_flaws (raw_pool pool) m ≡ []
    pub content : constant_flaws (raw_pool pool) m ≡ []
    pub value : field_value (raw_pool pool) m ≡ Some (field_member f)

  -- a field's checks hold, and its texts stand in the pool
  pub record FieldReady (f : DraftField) : Type 0 where
    pub passes : FieldPasses f
    pub items : Holds pool (field_items f)

  pub field_spelled : (f : DraftField) (at : ℕ) → FieldReady f → (m : RawMember) × Spells member at (text.field_bytes pool f) m × FieldGood f m
  unfolding text.field_bytes
  field_spelled f at r =
      let h = header_there pool f.name f.descriptor r.items in
      let m : RawMember = record { access = record { at = at; value = f.access }; name = record { at = at + 2; value = index_of pool (Utf8 f.name) }; descriptor = record { at = at + 4; value = index_of pool (Utf8 f.descriptor) }; attributes = [] } in (
        m,
        header_spelled pool small at f.access f.name f.descriptor (text.u2 0) [] r.passes.access (none_spelled attribute (at + 6)),
        record {
          indices = rw (entry_found pool (Utf8 f.name) h.name, entry_found pool (Utf8 f.descriptor) h.descriptor) refl;
          names = rw (text_found pool f.name h.name, text_found pool f.descriptor h.descriptor, r.passes.name, r.passes.type) refl;
          content = same_twice (has_flag f.access ACC_STATIC) [];
          value = rw (same_twice (has_flag f.access ACC_STATIC) (let o : Option (Option Constant) = Some None in o), text_found pool f.name h.name, text_found pool f.descriptor h.descriptor) refl;
        },
      )

  -- ---- the code of a method

  -- the content of a Code attribute, whose code stands at an offset
  abbrev code_at : DraftMethod → ℕ → ℕ → RawCode
  code_at m length_at bytes_at = record {
    max_stack = m.max_stack;
    max_locals = m.max_locals;
    length = record { at = length_at; value = code_length pool m.instrs };
    bytes = record { at = bytes_at; value = text.code_bytes pool m.instrs };
    handlers = 0;
  }

  code_size : (starts : List ℕ) (pc : ℕ) (instrs : List Instr) → pc + length (text.code_from pool starts (starts_from pool pc instrs) instrs) ≡ code_end pool pc instrs
  code_size starts pc [] = omega arith
  code_size starts pc (i ∷ instrs) =
      let len = instr_length pool starts pc i in
      let rest = code_size starts (pc + size_of pool pc i) instrs in
      let bytes : List ℕ = text.code_from pool starts (starts_from pool (pc + size_of pool pc i) instrs) instrs in
      let sum : pc + length (text.instr_bytes pool starts pc i ++ bytes) ≡ (pc + size_of pool pc i) + length bytes = omega (arith, length-append (text.instr_bytes pool starts pc i) bytes) in
      sum ∙ rest

  bytes_length : (instrs : List Instr) → length (text.code_bytes pool instrs) ≡ code_length pool instrs
  unfolding text.code_bytes starts_of code_length
  bytes_length instrs = (let e : length (text.code_from pool (starts_from pool 0 instrs) (starts_from pool 0 instrs) instrs) ≡ 0 + length (text.code_from pool (starts_from pool 0 instrs) (starts_from pool 0 instrs) instrs) = omega arith in e) ∙ code_size (starts_from pool 0 instrs) 0 instrs

  content_spelled : (m : DraftMethod) (at : ℕ) → m.max_stack < 2 ^ 16 → m.max_locals < 2 ^ 16 → code_length pool m.instrs < 2 ^ 16
      → (length_at : ℕ) × (bytes_at : ℕ) × Spells code at (text.code_content pool m) (code_at m length_at bytes_at)
  unfolding code text.code_content
  content_spelled m at ls ll lc =
      let bytes : List ℕ = text.code_bytes pool m.instrs in
      let count : ℕ = code_length pool m.instrs in
      let at2 : ℕ = at + length (text.u2 m.max_stack) in
      let at4 : ℕ = at2 + length (text.u2 m.max_locals) in
      let at8 : ℕ = at4 + length (text.u4 count) in
      let atb : ℕ = at8 + length bytes in
      let ath : ℕ = atb + length (text.u2 0) in
      let value : RawCode = code_at m at4 at8 in (
        at4,
        at8,
        spells_then u2 (λ max_stack. u2 >>= λ max_locals. u4 >>= λ len. run len.value >>= λ b. u2 >>= λ handlers. run (8 * handlers.value) >>= λ table. counted attribute >>= λ attributes.
            whole (record { max_stack = max_stack.value; max_locals = max_locals.value; length = len; bytes = b; handlers = handlers.value }))
            at (text.u2 m.max_stack) (text.u2 m.max_locals ++ (text.u4 count ++ (bytes ++ (text.u2 0 ++ text.u2 0)))) (record { at = at; value = m.max_stack }) value (u2_spells at m.max_stack ls)
            (spells_then u2 (λ max_locals. u4 >>= λ len. run len.value >>= λ b. u2 >>= λ handlers. run (8 * handlers.value) >>= λ table. counted attribute >>= λ attributes.
            whole (let r : RawCode = record { max_stack = m.max_stack; max_locals = max_locals.value; length = len; bytes = b; handlers = handlers.value } in r))
            at2 (text.u2 m.max_locals) (text.u4 count ++ (bytes ++ (text.u2 0 ++ text.u2 0))) (record { at = at2; value = m.max_locals }) value (u2_spells at2 m.max_locals ll)
            (spells_then u4 (λ len. run len.value >>= λ b. u2 >>= λ handlers. run (8 * handlers.value) >>= λ table. counted attribute >>= λ attributes.
            whole (let r : RawCode = record { max_stack = m.max_stack; max_locals = m.max_locals; length = len; bytes = b; handlers = handlers.value } in r))
            at4 (text.u4 count) (bytes ++ (text.u2 0 ++ text.u2 0)) (record { at = at4; value = count }) value (u4_spells at4 count (omega arith))
            (spells_then (run count) (λ b. u2 >>= λ handlers. run (8 * handlers.value) >>= λ table. counted attribute >>= λ attributes.
            whole (let r : RawCode = record { max_stack = m.max_stack; max_locals = m.max_locals; length = record { at = at4; value = count }; bytes = b; handlers = handlers.value } in r))
            at8 bytes (text.u2 0 ++ text.u2 0) (record { at = at8; value = bytes }) value
            (subst (λ (k : ℕ). Spells (run k) at8 bytes (record { at = at8; value = bytes })) (bytes_length m.instrs) (run_spells at8 bytes))
            (spells_then u2 (λ handlers. run (8 * handlers.value) >>= λ table. counted attribute >>= λ attributes.
            whole (let r : RawCode = record { max_stack = m.max_stack; max_locals = m.max_locals; length = record { at = at4; value = count }; bytes = record { at = at8; value = bytes }; handlers = handlers.value } in r))
            atb (text.u2 0) (text.u2 0) (record { at = atb; value = 0 }) value (u2_spells atb 0 (omega arith))
            (spells_then (run 0) (λ table. counted attribute >>= λ attributes. whole value)
            ath [] (text.u2 0) (record { at = ath; value = [] }) value (run_spells ath [])
            (spells_made (counted attribute) (λ (attributes : List Attribute). value) (ath + 0) (text.u2 0) [] (none_spelled attribute (ath + 0)))))))),
      )

  content_length : (m : DraftMethod) → length (text.code_content pool m) ≡ code_length pool m.instrs + 12
  unfolding text.code_content
  content_length m =
      let a = u2_length m.max_stack in
      let b = u2_length m.max_locals in
      let c = u4_length (code_length pool m.instrs) in
      let d = u2_length 0 in
      let e = bytes_length m.instrs in
      simp length-append (omega arith)

  -- ---- the instructions are ready

  end_behind : (pc : ℕ) (instrs : List Instr) → pc ≤ code_end pool pc instrs
  end_behind pc [] = omega arith
  end_behind pc (i ∷ instrs) = let rest = end_behind (pc + size_of pool pc i) instrs in omega arith

  start_low : (pc : ℕ) (instrs : List Instr) (place : ℕ) → slice_index (starts_from pool pc instrs) place ≤ code_end pool pc instrs
  start_low pc [] place = omega arith
  start_low pc (i ∷ instrs) zero = end_behind pc (i ∷ instrs)
  start_low pc (i ∷ instrs) (suc place) = start_low (pc + size_of pool pc i) instrs place

  all_ready : (starts : List ℕ) (low : (place : ℕ) → start_at starts place < 2 ^ 16) (max : ℕ) (few : max < 2 ^ 16) (pc : ℕ) (instrs : List Instr) → Holds pool (flat_map instr_items instrs)
      → AllByRecursion (InstrPasses max) instrs → AllByRecursion NumberFits instrs → all_reach starts (starts_from pool pc instrs) instrs ≡ true → code_end pool pc instrs < 2 ^ 16
      → AllReady pool small starts low max few pc instrs
  unfolding AllReady
  all_ready starts low max few pc [] h passes numbers near lt = tt
  all_ready starts low max few pc (i ∷ instrs) h passes numbers near lt =
      let behind = end_behind (pc + size_of pool pc i) instrs in
      let two = two_tests (reaches starts pc i) (all_reach starts (starts_from pool (pc + size_of pool pc i) instrs) instrs) near in (
        record {
          place = omega arith;
          items = holds_left pool (instr_items i) (flat_map instr_items instrs) h;
          passes = passes.0;
          number = numbers.0;
          near = two.0;
          room = room_of pool pc i (omega arith);
        },
        all_ready starts low max few (pc + size_of pool pc i) instrs (holds_right pool (instr_items i) (flat_map instr_items instrs) h) passes.1 numbers.1 two.1 lt,
      )

  -- ---- methods

  -- a method's checks hold, its texts stand in the pool, and it has room
  pub record MethodReady (m : DraftMethod) : Type 0 where
    pub passes : MethodPasses m
    pub items : Holds pool (method_items m)
    pub fits : text.fits_method pool m ≡ true

  -- no check fails on a member, and it stands for a method
  pub record MethodGood (m : DraftMethod) (raw : RawMember) : Type 0 where
    pub indices : member_index_flaws (raw_pool pool) raw ≡ []
    pub names : method_name_flaws (raw_pool pool) raw ≡ []
    pub native : native_flaws raw ≡ []
    pub content : method_code_flaws (raw_pool pool) (codes_of (raw_pool pool) raw) ≡ []
    pub value : method_value (raw_pool pool) raw ≡ Some (method_member pool m)

  flawless : (m : DraftMethod) (length_at bytes_at : ℕ) → MethodReady m → Holds pool (flat_map instr_items m.instrs) → 1 ≤ length m.instrs
      → (code_flaws (raw_pool pool) (code_at m length_at bytes_at) ≡ []) × (instrs_in (raw_pool pool) (text.code_bytes pool m.instrs) ≡ placed_by (starts_of pool m.instrs) m.instrs)
  unfolding code_flaws flaws_in instrs_in text.fits_method text.code_bytes starts_of code_length placed_by
  flawless m length_at bytes_at r h some =
      let raw : Pool = raw_pool pool in
      let starts : List ℕ = starts_from pool 0 m.instrs in
      let two = two_tests (nat_le (code_end pool 0 m.instrs) MOST_CODE_BYTES) (all_reach starts starts m.instrs) r.fits in
      let most : code_end pool 0 m.instrs ≤ MOST_CODE_BYTES = leb-true (code_end pool 0 m.instrs) MOST_CODE_BYTES two.0 in
      let low : (place : ℕ) → start_at starts place < 2 ^ 16 = λ place. (let le = start_low 0 m.instrs place in omega arith) in
      let ready = all_ready starts low m.max_locals r.passes.locals 0 m.instrs h r.passes.instrs r.passes.numbers two.1 (omega arith) in
      let bytes : List ℕ = text.code_from pool starts starts m.instrs in
      let is : decoded raw 0 0 bytes ≡ found (placed_from starts starts m.instrs) = code_decoded pool small starts low m.max_locals r.passes.locals 0 m.instrs ready in
      let instrs_are : filter_map instr_of (decoded raw 0 0 bytes) ≡ placed_from starts starts m.instrs = ap (filter_map instr_of) is ∙ found_back pool small starts low m.max_locals r.passes.locals (placed_from starts starts m.instrs) in
      let none : filter_map (instr_flaw m.max_locals bytes_at) (decoded raw 0 0 bytes) ≡ [] = ap (filter_map (instr_flaw m.max_locals bytes_at)) is ∙ no_instr_flaws pool small starts low m.max_locals r.passes.locals bytes_at 0 m.instrs ready in
      let longer : 1 ≤ code_end pool 0 m.instrs = some_end m.instrs some in
      let first : nat_lt 0 (code_end pool 0 m.instrs) ≡ true = lt-ltb 0 (code_end pool 0 m.instrs) (omega arith) in
      (rw (first, two.0, none) (ap (flow_flaws bytes_at) instrs_are ∙ no_flow_flaws pool m.instrs bytes_at r.passes.flow), instrs_are)
    where
      some_end : (instrs : List Instr) → 1 ≤ length instrs → 1 ≤ code_end pool 0 instrs
      some_end [] lt = absurd (omega arith)
      some_end (i ∷ instrs) lt = let a = size_least pool 0 i in let b = end_behind (0 + size_of pool 0 i) instrs in omega arith

  code_item : (m : DraftMethod) (i : Instr) (instrs : List Instr) → Holds pool (code_items (i ∷ instrs)) → Has pool (Utf8 (codes "Code"))
  code_item m i instrs h = h.each (Utf8 (codes "Code")) (has_here (Utf8 (codes "Code")) (flat_map instr_items (i ∷ instrs)))

  -- the checks of a method whose attributes are those, but for its code
  method_by : (m : DraftMethod) (at : ℕ) (attributes : List Attribute) (code : Option Code) → MethodReady m → flat_map (attribute_index_flaws (raw_pool pool)) attributes ≡ []
      → method_code_flaws (raw_pool pool) (attributes_named (raw_pool pool) (codes "Code") attributes) ≡ [] → code_among (raw_pool pool) (attributes_named (raw_pool pool) (codes "Code") attributes) ≡ Some code
      → code ≡ code_with pool m m.instrs
      → MethodGood m (record { access = record { at = at; value = m.access }; name = record { at = at + 2; value = index_of pool (Utf8 m.name) }; descriptor = record { at = at + 4; value = index_of pool (Utf8 m.descriptor) }; attributes = attributes })
  method_by m at attributes code r indices content among is =
      let h = header_there pool m.name m.descriptor (holds_left pool (header_items m.name m.descriptor) (code_items m.instrs) r.items) in
      record {
        indices = rw (entry_found pool (Utf8 m.name) h.name, entry_found pool (Utf8 m.descriptor) h.descriptor) indices;
        names = rw (text_found pool m.name h.name, text_found pool m.descriptor h.descriptor, r.passes.name, r.passes.type) refl;
        native = rw r.passes.kind refl;
        content = content;
        value = rw (among, text_found pool m.name h.name, text_found pool m.descriptor h.descriptor, is) refl;
      }

  length_fits : (m : DraftMethod) → MethodReady m → code_length pool m.instrs < 2 ^ 16
  unfolding text.fits_method
  length_fits m r =
      let two = two_tests (nat_le (code_length pool m.instrs) MOST_CODE_BYTES) (all_reach (starts_of pool m.instrs) (starts_of pool m.instrs) m.instrs) r.fits in
      let most : code_length pool m.instrs ≤ MOST_CODE_BYTES = leb-true (code_length pool m.instrs) MOST_CODE_BYTES two.0 in omega arith

  -- a method with code
  coded : (m : DraftMethod) (at : ℕ) (i : Instr) (instrs : List Instr) → m.instrs ≡ i ∷ instrs → MethodReady m
      → (raw : RawMember) × Spells member at (text.header_bytes pool m.access m.name m.descriptor (text.u2 1 ++ (text.u2 (index_of pool (Utf8 (codes "Code"))) ++ (text.u4 (code_length pool m.instrs + 12) ++ text.code_content pool m)))) raw × MethodGood m raw
  unfolding raw_code
  coded m at i instrs is r =
      let code_held : Holds pool (code_items m.instrs) = holds_right pool (header_items m.name m.descriptor) (code_items m.instrs) r.items in
      let code_held_too : Holds pool (code_items (i ∷ instrs)) = subst (λ (is : List Instr). Holds pool (code_items is)) is code_held in
      let named : Has pool (Utf8 (codes "Code")) = code_item m i instrs code_held_too in
      let n : ℕ = index_of pool (Utf8 (codes "Code")) in
      let some : 1 ≤ length m.instrs = subst (λ (is : List Instr). 1 ≤ length is) (sym is) (let one : 1 ≤ suc (length instrs) = omega arith in one) in
      let held : Holds pool (flat_map instr_items m.instrs) = subst (λ (is : List Instr). Holds pool (flat_map instr_items is)) (sym is) (holds_right pool (Utf8 (codes "Code") ∷ []) (flat_map instr_items (i ∷ instrs)) code_held_too) in
      let count : ℕ = code_length pool m.instrs in
      let lc : count < 2 ^ 16 = length_fits m r in
      let body : List ℕ = text.code_content pool m in
      let at6 : ℕ = at + 6 in
      let at8 : ℕ = at6 + 2 in
      let at10 : ℕ = at8 + length (text.u2 n) in
      let at14 : ℕ = at10 + length (text.u4 (count + 12)) in
      let inner = content_spelled m at14 r.passes.stack r.passes.locals lc in
      let a : Attribute = record { name = record { at = at8; value = n }; content = record { at = at14; value = body } } in
      let good = flawless m inner.0 inner.1 r held some in
      let raw_is : raw_code a ≡ Some (code_at m inner.0 inner.1) = rw (spelled_read code at14 body (code_at m inner.0 inner.1) inner.2) refl in
      let one_attribute : Spells attribute at8 (text.u2 n ++ (text.u4 (count + 12) ++ body)) a = attribute_spelled at8 n (count + 12) body (small (Utf8 (codes "Code"))) (omega arith) (sym (content_length m)) in
      let list : Spells (counted attribute) at6 (text.u2 1 ++ (text.u2 n ++ (text.u4 (count + 12) ++ body))) (a ∷ []) = counted_spells attribute at6 1 (text.u2 n ++ (text.u4 (count + 12) ++ body)) (a ∷ []) (omega arith) (one_time attribute at8 (text.u2 n ++ (text.u4 (count + 12) ++ body)) a one_attribute) in
      let named_is : attributes_named (raw_pool pool) (codes "Code") (a ∷ []) ≡ a ∷ [] = rw (text_found pool (codes "Code") named) refl in
      let value : Option Code = Some (record { max_stack = m.max_stack; max_locals = m.max_locals; instrs = instrs_in (raw_pool pool) (text.code_bytes pool m.instrs); handlers = 0 }) in (
        record { access = record { at = at; value = m.access }; name = record { at = at + 2; value = index_of pool (Utf8 m.name) }; descriptor = record { at = at + 4; value = index_of pool (Utf8 m.descriptor) }; attributes = a ∷ [] },
        header_spelled pool small at m.access m.name m.descriptor (text.u2 1 ++ (text.u2 n ++ (text.u4 (count + 12) ++ body))) (a ∷ []) r.passes.access list,
        method_by m at (a ∷ []) value r
            (rw (entry_found pool (Utf8 (codes "Code")) named) refl)
            (rw (named_is, raw_is, good.0) refl)
            (rw (named_is, raw_is) refl)
            (rw (good.1, is) refl),
      )

  -- a method without code
  bodiless : (m : DraftMethod) (at : ℕ) → m.instrs ≡ [] → MethodReady m
      → (raw : RawMember) × Spells member at (text.header_bytes pool m.access m.name m.descriptor (text.u2 0)) raw × MethodGood m raw
  bodiless m at is r = (
    record { access = record { at = at; value = m.access }; name = record { at = at + 2; value = index_of pool (Utf8 m.name) }; descriptor = record { at = at + 4; value = index_of pool (Utf8 m.descriptor) }; attributes = [] },
    header_spelled pool small at m.access m.name m.descriptor (text.u2 0) [] r.passes.access (none_spelled attribute (at + 6)),
    method_by m at [] None r refl refl refl (rw is refl),
  )

  pub method_spelled : (m : DraftMethod) (at : ℕ) → MethodReady m → (raw : RawMember) × Spells member at (text.method_bytes pool m) raw × MethodGood m raw
  unfolding text.method_bytes
  method_spelled m at r = go m.instrs refl
    where
      go : (instrs : List Instr) → m.instrs ≡ instrs → (raw : RawMember) × Spells member at (text.header_bytes pool m.access m.name m.descriptor (text.attribute_bytes pool m instrs)) raw × MethodGood m raw
      go [] is = bodiless m at is r
      go (i ∷ instrs) is = coded m at i instrs is r

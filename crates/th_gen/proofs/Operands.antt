-- Constants, branches, and instructions that name a field, a method or a class: their bytes spell them.
use Rattle.std.proofs.Common.{◌≡◌, ℕ, zero, suc, ◌+◌, ◌-◌, ◌%◌, ◌<◌, ◌≤◌, ◌^◌, Bool, true, false, ◌&&◌, cond, List, [], ◌∷◌, ◌++◌, length, refl, sym, arith}
use Rattle.std.specs.Prelude.{◌==◌, nat_lt, nat_le, unsigned_abs, ℤ, pos, negsuc, ◌+ℤ◌, FitsSigned}
use Rattle.std.specs.Int.{w8, w16, w32, cast_signed, cast_unsigned}
use Rattle.std.proofs.lemmas.Bool.{leb-true}
use Rattle.std.proofs.lemmas.Int.{to_z-of_z}
use Rattle.th_syntax.specs.declared.cause.TheConstants as cause
use Rattle.th_syntax.specs.declared.opcode.TheConstants as opcode
use Rattle.th_syntax.specs.declared.tag.TheConstants as tag
use Rattle.th_syntax.specs.declared.instr.MemberRef.{MemberRef}
use Rattle.th_syntax.specs.declared.instr.Instr.{Instr}
use Rattle.th_syntax.specs.declared.instr.Instr.TheVariants.{Int, Long, Str, InvokeInterface}
use Rattle.th_syntax.specs.Flaws.{unless}
use Rattle.th_syntax.specs.PoolChecks.{class_of}
use Rattle.th_syntax.specs.Forms.{whole, ◌>>=◌}
use Rattle.th_syntax.specs.ClassBytes.{u1, u2}
use Rattle.th_syntax.specs.CodeBytes.{instr, plain, checked, given, load, load_wide, member_among, access, call, of_class, of_classes, of_interfaces, of_either, field_numbers, method_numbers, among, rows, jump, target}
use Rattle.th_gen.specs.declared.item.PoolItem.{PoolItem}
use Rattle.th_gen.specs.declared.item.PoolItem.TheVariants.{Integer, LongInteger, ClassName, StringText, NameAndType, FieldRef, MethodRef, InterfaceMethodRef}
use Rattle.th_gen.specs.declared.spelling.Spelling.TheVariants.{Bare, Byte, Short}
use Rattle.th_gen.specs.Items.{is_within, is_short, is_small_long, index_of, instr_items, member_items, class_items, string_items}
use Rattle.th_gen.specs.Spellings.{constant_spelling, int_spelling, long_spelling}
use Rattle.th_gen.specs.Placing.{is_near}
use Rattle.th_gen.specs.ClassText as text
use Rattle.th_gen.proofs.Spells.{spells_then, u1_spells, u2_spells}
use Rattle.th_gen.proofs.PoolSpelled.{raw_pool}
use Rattle.th_gen.proofs.Entries.{HasMember, entry_found, text_found, class_found}
use Rattle.th_gen.proofs.Closed.{Holds, has_here, class_there, string_there, member_there}
use Rattle.th_gen.proofs.Instructions.{IsAt, by_opcode, bare, ends, byte, short, within_fits_8, within_fits_16, unsigned_16}
use Rattle.th_gen.proofs.Targets.{target_is, near_sum}

-- ---- two's complement

-- an offset of two bytes leads back to where it was taken
near_back : (pc to : ℕ) → is_near pc to ≡ true → pc < 2 ^ 16 → to < 2 ^ 16 → to ≡ target pc (cast_signed w16 ((to + (2 ^ 16 - pc)) % 2 ^ 16))
near_back pc to near lp lt =
    let two = both (nat_le to (pc + 32767)) (nat_le pc (to + 32768)) near in
    sym (target_is pc (cast_signed w16 ((to + (2 ^ 16 - pc)) % 2 ^ 16)) to (near_sum pc to (leb-true to (pc + 32767) two.0) (leb-true pc (to + 32768) two.1) lp lt) lt)
  where
    both : (a b : Bool) → (a && b) ≡ true → (a ≡ true) × (b ≡ true)
    both true b e = (refl, e)
    both false b e = absurd cc

-- a call by a Methodref
module _ (pool : List PoolItem) (special : Bool) (m : MemberRef) (make : MemberRef → Instr) where
  pub by_classes : HasMember pool MethodRef m → method_numbers special m ≡ [] → call (raw_pool pool) of_classes special make (index_of pool (MethodRef m)) [] ≡ whole (instr (make m))
  by_classes h passes =
      rw (entry_found pool (MethodRef m) h.reference, class_found pool m.owner h.class h.owner, entry_found pool (NameAndType m.name m.descriptor) h.pair, text_found pool m.name h.name, text_found pool m.descriptor h.descriptor, passes) refl

  pub by_either : HasMember pool MethodRef m → method_numbers special m ≡ [] → call (raw_pool pool) of_either special make (index_of pool (MethodRef m)) [] ≡ whole (instr (make m))
  by_either h passes =
      rw (entry_found pool (MethodRef m) h.reference, class_found pool m.owner h.class h.owner, entry_found pool (NameAndType m.name m.descriptor) h.pair, text_found pool m.name h.name, text_found pool m.descriptor h.descriptor, passes) refl

module _ (pool : List PoolItem) (small : (i : PoolItem) → index_of pool i < 2 ^ 16) (pc : ℕ) where
  abbrev Spelled_at : List ℕ → Instr → Type 0
  Spelled_at bytes i = IsAt (raw_pool pool) pc bytes i

  -- ---- constants

  constants : (starts : List ℕ) (i : Instr) (n : ℕ) → n < 2 ^ 16 → load (raw_pool pool) n ≡ whole (instr i) → Spelled_at (text.spelled_by starts pc i (constant_spelling n)) i
  constants starts i n lt is = go (nat_lt n 256)
    where
      go : (b : Bool) → Spelled_at (text.spelled_by starts pc i (cond b (Byte opcode.LDC n) (Short opcode.LDC_W n))) i
      go true = byte (raw_pool pool) pc opcode.LDC n (load (raw_pool pool)) i refl is
      go false = short (raw_pool pool) pc opcode.LDC_W n (load (raw_pool pool)) i lt refl is

  pub strings : (starts : List ℕ) (bytes : List ℕ) → Holds pool (string_items bytes) → Spelled_at (text.spelled_by starts pc (Str bytes) (constant_spelling (index_of pool (StringText bytes)))) (Str bytes)
  strings starts bytes h =
      let t = string_there pool bytes h in
      constants starts (Str bytes) (index_of pool (StringText bytes)) (small (StringText bytes)) (rw (entry_found pool (StringText bytes) t.reference, text_found pool bytes t.text) refl)

  small_ints : (v : ℤ) → is_within (negsuc 0) (pos 5) v ≡ true → Spelled_at ((opcode.ICONST_M1 + unsigned_abs (v +ℤ pos 1)) ∷ []) (Int v)
  small_ints (negsuc zero) e = bare (raw_pool pool) pc 2 (Int (negsuc 0)) refl
  small_ints (negsuc (suc n)) e = absurd (let h : suc n ≤ 0 = leb-true (suc n) 0 (and_left (nat_le (suc n) 0) true e) in omega arith)
    where
      and_left : (a b : Bool) → (a && b) ≡ true → a ≡ true
      and_left true b e = refl
      and_left false b e = absurd cc
  small_ints (pos zero) e = bare (raw_pool pool) pc 3 (Int (pos 0)) refl
  small_ints (pos (suc zero)) e = bare (raw_pool pool) pc 4 (Int (pos 1)) refl
  small_ints (pos (suc (suc zero))) e = bare (raw_pool pool) pc 5 (Int (pos 2)) refl
  small_ints (pos (suc (suc (suc zero)))) e = bare (raw_pool pool) pc 6 (Int (pos 3)) refl
  small_ints (pos (suc (suc (suc (suc zero))))) e = bare (raw_pool pool) pc 7 (Int (pos 4)) refl
  small_ints (pos (suc (suc (suc (suc (suc zero)))))) e = bare (raw_pool pool) pc 8 (Int (pos 5)) refl
  small_ints (pos (suc (suc (suc (suc (suc (suc n))))))) e = absurd (let h : suc (suc (suc (suc (suc (suc n))))) ≤ 5 = leb-true (suc (suc (suc (suc (suc (suc n)))))) 5 e in omega arith)

  pub ints_spelled : (starts : List ℕ) (v : ℤ) → FitsSigned w32 v → Holds pool (instr_items (Int v)) → Spelled_at (text.spelled_by starts pc (Int v) (int_spelling pool v)) (Int v)
  ints_spelled starts v fits h = go (is_within (negsuc 0) (pos 5) v) refl
    where
      loaded_int : Holds pool (Integer v ∷ []) → load (raw_pool pool) (index_of pool (Integer v)) ≡ whole (instr (Int v))
      loaded_int h = rw (entry_found pool (Integer v) (h.each (Integer v) (has_here (Integer v) []))) refl

      last : (b : Bool) → is_short v ≡ b → Holds pool (cond b [] (Integer v ∷ [])) → Spelled_at (text.spelled_by starts pc (Int v) (cond b (Short opcode.SIPUSH (cast_unsigned w16 v)) (constant_spelling (index_of pool (Integer v))))) (Int v)
      last true is h =
          let f : FitsSigned w16 v = within_fits_16 (raw_pool pool) pc v is in
          let back : cast_signed w16 (cast_unsigned w16 v) ≡ v = to_z-of_z w16 v f in
          short (raw_pool pool) pc opcode.SIPUSH (cast_unsigned w16 v) (λ n. plain (Int (cast_signed w16 n))) (Int v) (unsigned_16 (raw_pool pool) pc v f) refl (rw back refl)
      last false is h = constants starts (Int v) (index_of pool (Integer v)) (small (Integer v)) (loaded_int h)

      second : (b : Bool) → is_within (negsuc 127) (pos 127) v ≡ b
          → Spelled_at (text.spelled_by starts pc (Int v) (cond b (Byte opcode.BIPUSH (cast_unsigned w8 v)) (cond (is_short v) (Short opcode.SIPUSH (cast_unsigned w16 v)) (constant_spelling (index_of pool (Integer v)))))) (Int v)
      second true is =
          let f : FitsSigned w8 v = within_fits_8 (raw_pool pool) pc v is in
          let back : cast_signed w8 (cast_unsigned w8 v) ≡ v = to_z-of_z w8 v f in
          byte (raw_pool pool) pc opcode.BIPUSH (cast_unsigned w8 v) (λ n. plain (Int (cast_signed w8 n))) (Int v) refl (rw back refl)
      second false is = last (is_short v) refl h

      go : (b : Bool) → is_within (negsuc 0) (pos 5) v ≡ b
          → Spelled_at (text.spelled_by starts pc (Int v) (cond b (Bare (opcode.ICONST_M1 + unsigned_abs (v +ℤ pos 1)))
          (cond (is_within (negsuc 127) (pos 127) v) (Byte opcode.BIPUSH (cast_unsigned w8 v)) (cond (is_short v) (Short opcode.SIPUSH (cast_unsigned w16 v)) (constant_spelling (index_of pool (Integer v))))))) (Int v)
      go true is = small_ints v is
      go false is = second (is_within (negsuc 127) (pos 127) v) refl

  small_longs : (v : ℤ) → is_small_long v ≡ true → Spelled_at ((opcode.LCONST_0 + unsigned_abs v) ∷ []) (Long v)
  small_longs (negsuc n) e = absurd cc
  small_longs (pos zero) e = bare (raw_pool pool) pc 9 (Long (pos 0)) refl
  small_longs (pos (suc zero)) e = bare (raw_pool pool) pc 10 (Long (pos 1)) refl
  small_longs (pos (suc (suc n))) e = absurd (let h : suc (suc n) ≤ 1 = leb-true (suc (suc n)) 1 (and_right (nat_le 0 (suc (suc n))) (nat_le (suc (suc n)) 1) e) in omega arith)
    where
      and_right : (a b : Bool) → (a && b) ≡ true → b ≡ true
      and_right true b e = e
      and_right false b e = absurd cc

  pub longs_spelled : (starts : List ℕ) (v : ℤ) → Holds pool (instr_items (Long v)) → Spelled_at (text.spelled_by starts pc (Long v) (long_spelling pool v)) (Long v)
  longs_spelled starts v h = go (is_small_long v) refl h
    where
      go : (b : Bool) → is_small_long v ≡ b → Holds pool (cond b [] (LongInteger v ∷ []))
          → Spelled_at (text.spelled_by starts pc (Long v) (cond b (Bare (opcode.LCONST_0 + unsigned_abs v)) (Short opcode.LDC2_W (index_of pool (LongInteger v))))) (Long v)
      go true is h = small_longs v is
      go false is h =
          short (raw_pool pool) pc opcode.LDC2_W (index_of pool (LongInteger v)) (load_wide (raw_pool pool)) (Long v) (small (LongInteger v)) refl
          (rw (entry_found pool (LongInteger v) (h.each (LongInteger v) (has_here (LongInteger v) []))) refl)

  -- ---- fields, methods and classes

  field_access : (f : MemberRef) (make : MemberRef → Instr) → HasMember pool FieldRef f → field_numbers f ≡ []
      → given cause.CODE_SHAPE (member_among (raw_pool pool) (tag.FIELD ∷ []) (index_of pool (FieldRef f))) (λ g. checked (make g) (field_numbers g)) ≡ whole (instr (make f))
  field_access f make h passes =
      rw (entry_found pool (FieldRef f) h.reference, class_found pool f.owner h.class h.owner, entry_found pool (NameAndType f.name f.descriptor) h.pair, text_found pool f.name h.name, text_found pool f.descriptor h.descriptor, passes) refl

  pub fields_spelled : (code : ℕ) (f : MemberRef) (make : MemberRef → Instr) → among (rows (raw_pool pool)) code pc pc ≡ access (raw_pool pool) make → Holds pool (member_items FieldRef f) → field_numbers f ≡ []
      → Spelled_at (code ∷ text.u2 (index_of pool (FieldRef f))) (make f)
  fields_spelled code f make row h passes =
      short (raw_pool pool) pc code (index_of pool (FieldRef f)) (λ n. given cause.CODE_SHAPE (member_among (raw_pool pool) (tag.FIELD ∷ []) n) (λ g. checked (make g) (field_numbers g))) (make f) (small (FieldRef f)) row
      (field_access f make (member_there pool FieldRef f h) passes)

  pub methods_spelled : (code : ℕ) (tags : List ℕ) (special : Bool) (m : MemberRef) (make : MemberRef → Instr) → among (rows (raw_pool pool)) code pc pc ≡ (u2 >>= λ index. call (raw_pool pool) tags special make index.value [])
      → (HasMember pool MethodRef m → method_numbers special m ≡ [] → call (raw_pool pool) tags special make (index_of pool (MethodRef m)) [] ≡ whole (instr (make m)))
      → Holds pool (member_items MethodRef m) → method_numbers special m ≡ [] → Spelled_at (code ∷ text.u2 (index_of pool (MethodRef m))) (make m)
  methods_spelled code tags special m make row called h passes =
      short (raw_pool pool) pc code (index_of pool (MethodRef m)) (λ n. call (raw_pool pool) tags special make n []) (make m) (small (MethodRef m)) row
      (called (member_there pool MethodRef m h) passes)

  pub interface_methods_spelled : (m : MemberRef) → Holds pool (member_items InterfaceMethodRef m) → method_numbers false m ≡ []
      → Spelled_at (opcode.INVOKEINTERFACE ∷ (text.u2 (index_of pool (InterfaceMethodRef m)) ++ 1 ∷ 0 ∷ [])) (InvokeInterface m)
  interface_methods_spelled m h passes =
      let t = member_there pool InterfaceMethodRef m h in
      let n : ℕ = index_of pool (InterfaceMethodRef m) in
      let called : call (raw_pool pool) of_interfaces false InvokeInterface n [] ≡ whole (instr (InvokeInterface m)) =
      rw (entry_found pool (InterfaceMethodRef m) t.reference, class_found pool m.owner t.class t.owner, entry_found pool (NameAndType m.name m.descriptor) t.pair, text_found pool m.name t.name, text_found pool m.descriptor t.descriptor, passes) refl in
      let at : ℕ = pc + 1 + length (text.u2 n) in
      by_opcode (raw_pool pool) pc opcode.INVOKEINTERFACE (text.u2 n ++ 1 ∷ 0 ∷ []) (InvokeInterface m)
      (spells_then u2 (λ index. u1 >>= λ count. u1 >>= λ zero_byte. call (raw_pool pool) of_interfaces false InvokeInterface index.value (unless (zero_byte.value == 0) cause.CODE_SHAPE)) (pc + 1) (text.u2 n) (1 ∷ 0 ∷ []) (record { at = pc + 1; value = n }) (instr (InvokeInterface m)) (u2_spells (pc + 1) n (small (InterfaceMethodRef m)))
      (spells_then u1 (λ count. u1 >>= λ zero_byte. call (raw_pool pool) of_interfaces false InvokeInterface n (unless (zero_byte.value == 0) cause.CODE_SHAPE)) at (1 ∷ []) (0 ∷ []) (record { at = at; value = 1 }) (instr (InvokeInterface m)) (u1_spells at 1)
      (ends (raw_pool pool) pc u1 (λ zero_byte. call (raw_pool pool) of_interfaces false InvokeInterface n (unless (zero_byte.value == 0) cause.CODE_SHAPE)) (at + 1) (0 ∷ []) (record { at = at + 1; value = 0 }) (InvokeInterface m) (u1_spells (at + 1) 0) called)))

  pub classes_spelled : (code : ℕ) (name : List ℕ) (numbers : List ℕ → List ℕ) (make : List ℕ → Instr) → among (rows (raw_pool pool)) code pc pc ≡ of_class (raw_pool pool) numbers make → Holds pool (class_items name) → numbers name ≡ []
      → Spelled_at (code ∷ text.u2 (index_of pool (ClassName name))) (make name)
  classes_spelled code name numbers make row h passes =
      let t = class_there pool name h in
      short (raw_pool pool) pc code (index_of pool (ClassName name)) (λ n. given cause.CODE_SHAPE (class_of (raw_pool pool) n) (λ c. checked (make c) (numbers c))) (make name) (small (ClassName name)) row
      (rw (class_found pool name t.reference t.text, passes) refl)

  -- ---- branches

  pub branches : (code to : ℕ) (make : ℕ → Instr) → among (rows (raw_pool pool)) code pc pc ≡ jump pc make → is_near pc to ≡ true → pc < 2 ^ 16 → to < 2 ^ 16 → Spelled_at (code ∷ text.near pc to) (make to)
  branches code to make row near lp lt =
      let n : ℕ = (to + (2 ^ 16 - pc)) % 2 ^ 16 in
      let back : target pc (cast_signed w16 n) ≡ to = sym (near_back pc to near lp lt) in
      let fits : n < 2 ^ 16 = omega arith in
      short (raw_pool pool) pc code n (λ by. plain (make (target pc (cast_signed w16 by)))) (make to) fits row (rw back refl)

-- The bytes of a method's code are decoded to its instructions, each at its offset, and pass the checks.
use Rattle.std.proofs.Common.{◌≡◌, ℕ, zero, suc, ◌+◌, ◌*◌, ◌-◌, ◌%◌, ◌<◌, ◌≤◌, ◌^◌, true, List, [], ◌∷◌, ◌++◌, length, take, drop, Ok, add-zero, refl, sym, ap, subst, ◌∙◌, arith}
use Rattle.std.specs.Prelude.{nat_le, ℤ}
use Rattle.std.specs.List.{flat_map, filter_map}
use Rattle.std.specs.Int.{w16, w32, cast_unsigned}
use Rattle.std.proofs.lemmas.Bool.{le-leb}
use Rattle.std.proofs.lemmas.List.{length-append, length-take, drop_at}
use Rattle.th_syntax.specs.declared.instr.Instr.{Instr}
use Rattle.th_syntax.specs.declared.instr.Instr.TheVariants.{IfZero, IfInts, IfSame, IfOther, IfNull, IfNotNull, Goto, TableSwitch, LookupSwitch}
use Rattle.th_syntax.specs.Forms.{Placed, read}
use Rattle.th_syntax.specs.Decoding.{decoded, instr_of, instr_flaw, locals_named}
use Rattle.th_syntax.proofs.Reading.{stands_read}
use Rattle.th_syntax.specs.ClassBytes.{Pool}
use Rattle.th_syntax.specs.CodeBytes.{Spelled, instr, instruction}
use Rattle.th_gen.specs.declared.item.PoolItem.{PoolItem}
use Rattle.th_gen.specs.declared.spelling.Spelling.{Spelling}
use Rattle.th_gen.specs.declared.spelling.Spelling.TheVariants.{Bare, Byte, Short, Wide, Increment, WideIncrement, Branch, Interface, Switch}
use Rattle.th_gen.specs.Items.{index_of}
use Rattle.th_gen.specs.Spellings.{spelling_of}
use Rattle.th_gen.specs.Placing.{padding_size, start_at, retargeted, switch_size, size_by, size_of, starts_from, placed_from}
use Rattle.th_gen.specs.ClassText as text
use Rattle.th_gen.proofs.Spells.{Spells, spelled_stands, u2_length, u4_length}
use Rattle.th_gen.proofs.PoolSpelled.{raw_pool}
use Rattle.th_gen.proofs.InstrSpelled.{Ready, instr_spells}

-- ---- sizes

flat_length : {X : Type 0} (f : X → List ℕ) (k : ℕ) (xs : List X) → ((x : X) → length (f x) ≡ k) → length (flat_map f xs) ≡ k * length xs
flat_length f k [] each = omega arith
flat_length f k (x ∷ xs) each =
    let one = each x in
    let rest = flat_length f k xs each in
    length-append (f x) (flat_map f xs) ∙ ap (λ (n : ℕ). n + length (flat_map f xs)) one ∙ ap (λ (n : ℕ). k + n) rest ∙ more
  where
    more : k + k * length xs ≡ k * suc (length xs)
    more = grind arith

far_length : (pc to : ℕ) → length (text.far pc to) ≡ 4
far_length pc to = u4_length ((to + (2 ^ 32 - pc)) % 2 ^ 32)

pads : (pc : ℕ) → (let zeros : List ℕ = 0 ∷ 0 ∷ 0 ∷ [] in length (take (padding_size pc) zeros) ≡ padding_size pc)
pads pc = let three : List ℕ = 0 ∷ 0 ∷ 0 ∷ [] in length-take (padding_size pc) three ∙ omega arith

switch_length : (starts : List ℕ) (pc : ℕ) (i : Instr) → suc (length (text.switch_operands starts pc i)) ≡ switch_size pc i
switch_length starts pc (TableSwitch low places other) =
    let p = pads pc in
    let o = far_length pc (start_at starts other) in
    let l = u4_length (cast_unsigned w32 low) in
    let h = u4_length ((cast_unsigned w32 low + (length places - 1)) % 2 ^ 32) in
    let t = flat_length (λ place. text.far pc (start_at starts place)) 4 places (λ place. far_length pc (start_at starts place)) in
    simp length-append (omega arith)
switch_length starts pc (LookupSwitch pairs other) =
    let p = pads pc in
    let o = far_length pc (start_at starts other) in
    let c = u4_length (length pairs) in
    let t = flat_length (λ pair. text.u4 (cast_unsigned w32 pair.0) ++ text.far pc (start_at starts pair.1)) 8 pairs
    (λ (pair : ℤ × ℕ). length-append (text.u4 (cast_unsigned w32 pair.0)) (text.far pc (start_at starts pair.1)) ∙ (let a = u4_length (cast_unsigned w32 pair.0) in let b = far_length pc (start_at starts pair.1) in omega arith)) in
    simp length-append (omega arith)
switch_length starts pc other = refl

size_by_length : (starts : List ℕ) (pc : ℕ) (i : Instr) (s : Spelling) → length (text.spelled_by starts pc i s) ≡ size_by pc i s
size_by_length starts pc i (Bare code) = refl
size_by_length starts pc i (Byte code operand) = refl
size_by_length starts pc i (Short code operand) = let e = u2_length operand in omega arith
size_by_length starts pc i (Wide code index) = let e = u2_length index in omega arith
size_by_length starts pc i (Increment index by) = refl
size_by_length starts pc i (WideIncrement index by) = let e = u2_length index in let f = u2_length (cast_unsigned w16 by) in simp length-append (omega arith)
size_by_length starts pc i (Branch code place) = let e = u2_length ((start_at starts place + (2 ^ 16 - pc)) % 2 ^ 16) in omega arith
size_by_length starts pc i (Interface index) = let e = u2_length index in simp length-append (omega arith)
size_by_length starts pc i (Switch code) = switch_length starts pc i

pub instr_length : (pool : List PoolItem) (starts : List ℕ) (pc : ℕ) (i : Instr) → length (text.instr_bytes pool starts pc i) ≡ size_of pool pc i
unfolding text.instr_bytes size_of
instr_length pool starts pc i = size_by_length starts pc i (spelling_of pool i)

-- an instruction takes at least a byte, and a switch more than it has targets
size_some : (pc : ℕ) (i : Instr) (s : Spelling) → 1 ≤ size_by pc i s
size_some pc i (Bare code) = omega arith
size_some pc i (Byte code operand) = omega arith
size_some pc i (Short code operand) = omega arith
size_some pc i (Wide code index) = omega arith
size_some pc i (Increment index by) = omega arith
size_some pc i (WideIncrement index by) = omega arith
size_some pc i (Branch code place) = omega arith
size_some pc i (Interface index) = omega arith
size_some pc i (Switch code) = switch_some i
  where
    switch_some : (i : Instr) → 1 ≤ switch_size pc i
    switch_some (TableSwitch low places other) = omega arith
    switch_some (LookupSwitch pairs other) = omega arith
    switch_some other = omega arith

pub size_least : (pool : List PoolItem) (pc : ℕ) (i : Instr) → 1 ≤ size_of pool pc i
unfolding size_of
size_least pool pc i = size_some pc i (spelling_of pool i)

pub room_of : (pool : List PoolItem) (pc : ℕ) (i : Instr) → size_of pool pc i ≤ 65535 → text.switch_fits i ≡ true
unfolding size_of
room_of pool pc (TableSwitch low places other) le = le-leb (length places) 65535 (omega arith)
room_of pool pc (LookupSwitch pairs other) le = le-leb (length pairs) 65535 (omega arith)
room_of pool pc other le = refl

-- ---- decoding

skipped : (pool : Pool) (k pc : ℕ) (bytes : List ℕ) → k ≤ length bytes → decoded pool k pc bytes ≡ decoded pool 0 (pc + k) (drop k bytes)
unfolding decoded
skipped pool zero pc bytes le = ap (λ (n : ℕ). decoded pool 0 n bytes) (sym (add-zero pc))
skipped pool (suc k) pc [] le = absurd (omega arith)
skipped pool (suc k) pc (b ∷ bytes) le =
    skipped pool k (pc + 1) bytes (omega arith) ∙ ap (λ (n : ℕ). decoded pool 0 n (drop k bytes)) (let sum : (pc + 1) + k ≡ pc + suc k = omega arith in sum)

-- an instruction at the front is decoded, and what follows it behind it
decoded_front : (pool : Pool) (pc : ℕ) (b : ℕ) (front others : List ℕ) (i : Instr) → Spells (instruction pool) pc (b ∷ front) (instr i)
    → decoded pool 0 pc ((b ∷ front) ++ others) ≡ record { at = pc; value = instr i } ∷ decoded pool 0 (pc + length (b ∷ front)) others
unfolding decoded
decoded_front pool pc b front others i s =
    let behind : ℕ = pc + length (b ∷ front) in
    let is : read (instruction pool) pc (b ∷ (front ++ others)) ≡ Ok (instr i, behind, others) =
    stands_read (instruction pool) pc ((b ∷ front) ++ others) (instr i) behind others (spelled_stands (instruction pool) pc (b ∷ front) others (instr i) s) in
    let k : ℕ = (behind - pc) - 1 in
    let k_is : k ≡ length front = omega arith in
    let room : k ≤ length (front ++ others) = omega (arith, length-append front others) in
    let rest : drop k (front ++ others) ≡ others = ap (λ (n : ℕ). drop n (front ++ others)) k_is ∙ drop_at front others (length front) refl in
    let place : (pc + 1) + k ≡ behind = omega arith in
    let later : decoded pool k (pc + 1) (front ++ others) ≡ decoded pool 0 behind others =
    skipped pool k (pc + 1) (front ++ others) room ∙ ap (λ (n : ℕ). decoded pool 0 n (drop k (front ++ others))) place ∙ ap (decoded pool 0 behind) rest in
    let first : Placed Spelled = record { at = pc; value = instr i } in
    rw is (ap (λ (more : List (Placed Spelled)). first ∷ more) later)

decoded_next : (pool : Pool) (pc : ℕ) (front others : List ℕ) (i : Instr) → 1 ≤ length front → Spells (instruction pool) pc front (instr i)
    → decoded pool 0 pc (front ++ others) ≡ record { at = pc; value = instr i } ∷ decoded pool 0 (pc + length front) others
decoded_next pool pc [] others i some s = absurd (omega arith)
decoded_next pool pc (b ∷ front) others i some s = decoded_front pool pc b front others i s

-- what decoding finds of instructions
abbrev pub found : List (ℕ × Instr) → List (Placed Spelled)
found [] = []
found (one ∷ more) = record { at = one.0; value = instr one.1 } ∷ found more

module _ (pool : List PoolItem) (small : (i : PoolItem) → index_of pool i < 2 ^ 16) (starts : List ℕ) (low : (place : ℕ) → start_at starts place < 2 ^ 16) (max : ℕ) (few : max < 2 ^ 16) where
  -- each instruction is ready at its offset
  unfoldable pub AllReady : ℕ → List Instr → Type 0
  AllReady pc [] = Unit {0}
  AllReady pc (i ∷ instrs) = Ready pool small starts low max few pc i × AllReady (pc + size_of pool pc i) instrs

  pub code_decoded : (pc : ℕ) (instrs : List Instr) → AllReady pc instrs
      → decoded (raw_pool pool) 0 pc (text.code_from pool starts (starts_from pool pc instrs) instrs) ≡ found (placed_from starts (starts_from pool pc instrs) instrs)
  unfolding decoded AllReady
  code_decoded pc [] ready = refl
  code_decoded pc (i ∷ instrs) ready =
      let len : length (text.instr_bytes pool starts pc i) ≡ size_of pool pc i = instr_length pool starts pc i in
      let some : 1 ≤ length (text.instr_bytes pool starts pc i) = subst (λ (n : ℕ). 1 ≤ n) (sym len) (size_least pool pc i) in
      let behind : pc + length (text.instr_bytes pool starts pc i) ≡ pc + size_of pool pc i = ap (λ (n : ℕ). pc + n) len in
      let first : Placed Spelled = record { at = pc; value = instr (retargeted starts i) } in
      decoded_next (raw_pool pool) pc (text.instr_bytes pool starts pc i) (text.code_from pool starts (starts_from pool (pc + size_of pool pc i) instrs) instrs) (retargeted starts i) some
      (instr_spells pool small starts low max few pc i ready.0)
      ∙ ap (λ (more : List (Placed Spelled)). first ∷ more)
      (ap (λ (n : ℕ). decoded (raw_pool pool) 0 n (text.code_from pool starts (starts_from pool (pc + size_of pool pc i) instrs) instrs)) behind ∙ code_decoded (pc + size_of pool pc i) instrs ready.1)

  -- ---- the checks of each instruction

  locals_kept : (i : Instr) → locals_named (retargeted starts i) ≡ locals_named i
  locals_kept (IfZero relation place) = refl
  locals_kept (IfInts relation place) = refl
  locals_kept (IfSame place) = refl
  locals_kept (IfOther place) = refl
  locals_kept (IfNull place) = refl
  locals_kept (IfNotNull place) = refl
  locals_kept (Goto place) = refl
  locals_kept (TableSwitch least places other) = refl
  locals_kept (LookupSwitch pairs other) = refl
  locals_kept other = refl

  pub no_instr_flaws : (at pc : ℕ) (instrs : List Instr) → AllReady pc instrs → filter_map (instr_flaw max at) (found (placed_from starts (starts_from pool pc instrs) instrs)) ≡ []
  unfolding AllReady
  no_instr_flaws at pc [] ready = refl
  no_instr_flaws at pc (i ∷ instrs) ready =
      let fits : nat_le (locals_named (retargeted starts i)) max ≡ true = ap (λ (n : ℕ). nat_le n max) (locals_kept i) ∙ le-leb (locals_named i) max ready.0.passes.locals in
      rw fits (no_instr_flaws at (pc + size_of pool pc i) instrs ready.1)

  pub found_back : (placed : List (ℕ × Instr)) → filter_map instr_of (found placed) ≡ placed
  found_back [] = refl
  found_back (one ∷ more) = ap (λ (rest : List (ℕ × Instr)). one ∷ rest) (found_back more)

-- Switches: their bytes spell them.
use Rattle.std.proofs.Common.{◌≡◌, ℕ, ◌+◌, ◌-◌, ◌%◌, ◌<◌, ◌^◌, true, List, [], ◌∷◌, ◌++◌, length, take, map, refl, sym, ap, subst, ◌∙◌, arith}
use Rattle.std.specs.Prelude.{nat_lt, unsigned_abs, int_le, ℤ, pos, ◌+ℤ◌, ◌-ℤ◌, ◌≤ℤ◌, ◌<ℤ◌, FitsSigned}
use Rattle.std.specs.List.{flat_map, AllByRecursion}
use Rattle.std.specs.Int.{w32, cast_signed, cast_unsigned, int_wrap}
use Rattle.std.proofs.lemmas.Bool.{lt-ltb}
use Rattle.std.proofs.lemmas.Int.{to_z-of_z, to_z_pos, wrapping_add_onto, int_wrap_fits, ints}
use Rattle.std.proofs.lemmas.List.{length-take}
use Rattle.th_syntax.specs.declared.cause.TheConstants as cause
use Rattle.th_syntax.specs.declared.opcode.TheConstants as opcode
use Rattle.th_syntax.specs.declared.instr.Instr.{Instr}
use Rattle.th_syntax.specs.declared.instr.Instr.TheVariants.{TableSwitch, LookupSwitch}
use Rattle.th_syntax.specs.Forms.{whole, ◌>>=◌, Placed}
use Rattle.th_syntax.specs.ClassBytes.{Pool, u4, run, times, demand}
use Rattle.th_syntax.specs.Flaws.{unless}
use Rattle.th_syntax.specs.CodeBytes.{instr, plain, checked, target, i4, padding, count_between, match_pair, keys_ascend, keys_ascend_from}
use Rattle.th_gen.specs.Placing.{padding_size, start_at}
use Rattle.th_gen.specs.ClassText as text
use Rattle.th_gen.proofs.Spells.{Spells, AllTwo, spells_then, spells_made, spells_demand, times_spells, u4_spells, run_spells}
use Rattle.th_gen.proofs.Instructions.{IsAt, by_opcode, ends}
use Rattle.th_gen.proofs.Targets.{target_is, far_sum}

-- an offset of four bytes leads back to where it was taken
far_back : (pc to : ℕ) → pc < 2 ^ 16 → to < 2 ^ 16 → target pc (cast_signed w32 ((to + (2 ^ 32 - pc)) % 2 ^ 32)) ≡ to
far_back pc to lp lt = target_is pc (cast_signed w32 ((to + (2 ^ 32 - pc)) % 2 ^ 32)) to (far_sum pc to lp lt) lt

i4_spells : (at n : ℕ) → n < 2 ^ 32 → Spells i4 at (text.u4 n) (cast_signed w32 n)
i4_spells at n lt = spells_made u4 (λ (number : Placed ℕ). cast_signed w32 number.value) at (text.u4 n) (record { at = at; value = n }) (u4_spells at n lt)

-- the padding of a switch
abbrev zeros_at : ℕ → List ℕ
zeros_at pc = take (padding_size pc) (0 ∷ 0 ∷ 0 ∷ [])

padding_length : (pc : ℕ) → length (zeros_at pc) ≡ 3 - pc % 4
padding_length pc = let three : List ℕ = 0 ∷ 0 ∷ 0 ∷ [] in length-take (padding_size pc) three ∙ omega arith

padding_spells : (at pc : ℕ) → Spells (padding pc) at (zeros_at pc) (record { at = at; value = zeros_at pc })
padding_spells at pc =
    let zeros : List ℕ = take (padding_size pc) (0 ∷ 0 ∷ 0 ∷ []) in
    subst (λ (k : ℕ). Spells (run k) at zeros (record { at = at; value = zeros })) (padding_length pc) (run_spells at zeros)

far_fits : (pc to : ℕ) → (to + (2 ^ 32 - pc)) % 2 ^ 32 < 2 ^ 32
far_fits pc to = omega arith

unsigned_32 : (v : ℤ) → FitsSigned w32 v → cast_unsigned w32 v < 2 ^ 32
unsigned_32 v fits = omega (arith, ints)

-- ---- tableswitch

-- the last key
abbrev last_word : ℤ → ℕ → ℕ
last_word low count = (cast_unsigned w32 low + (count - 1)) % 2 ^ 32

key_fits : (low : ℤ) (m : ℕ) → FitsSigned w32 low → (pos m +ℤ low) <ℤ pos (2 ^ 31) → FitsSigned w32 (pos m +ℤ low)
key_fits low m fits lt = record { sfits = grind (arith, ints) }

last_key : (low : ℤ) (count : ℕ) → FitsSigned w32 low → 0 < count → count < 2 ^ 16 → (low +ℤ pos count) ≤ℤ pos (2 ^ 31) → cast_signed w32 (last_word low count) ≡ low +ℤ pos (count - 1)
last_key low count fits some few room =
    let m : ℕ = count - 1 in
    let turned : (cast_unsigned w32 low + m) % 2 ^ 32 ≡ (m + cast_unsigned w32 low) % 2 ^ 32 = ap (λ (n : ℕ). n % 2 ^ 32) (let e : cast_unsigned w32 low + m ≡ m + cast_unsigned w32 low = omega arith in e) in
    let small : m < 2 ^ 32 = omega arith in
    let least : m < 2 ^ 31 = omega arith in
    let sum_fits : FitsSigned w32 (pos m +ℤ low) = key_fits low m fits (omega (arith, ints)) in
    let order : pos m +ℤ low ≡ low +ℤ pos m = omega (arith, ints) in
    ap (cast_signed w32) turned ∙ wrapping_add_onto w32 m low small fits ∙ ap (λ (z : ℤ). int_wrap w32 (z +ℤ low)) (to_z_pos w32 m least) ∙ int_wrap_fits w32 (pos m +ℤ low) sum_fits ∙ order

keys_ordered : (low : ℤ) (k : ℕ) → int_le low (low +ℤ pos k) ≡ true
keys_ordered low k = grind (arith, ints)

keys_counted : (low : ℤ) (count : ℕ) → 0 < count → count_between low (low +ℤ pos (count - 1)) ≡ count
keys_counted low count some =
    let apart : (low +ℤ pos (count - 1)) -ℤ low ≡ pos (count - 1) = omega (arith, ints) in
    let back : (count - 1) + 1 ≡ count = omega arith in
    ap (λ (z : ℤ). unsigned_abs z + 1) apart ∙ back

module _ (starts : List ℕ) (small : (place : ℕ) → start_at starts place < 2 ^ 16) (pc : ℕ) (lp : pc < 2 ^ 16) where
  -- a target that is read back
  abbrev Target : ℕ → ℤ → Type 0
  Target place by = target pc by ≡ start_at starts place

  target_spells : (place at : ℕ) → Unit {0} → (by : ℤ) × Spells i4 at (text.far pc (start_at starts place)) by × Target place by
  target_spells place at u =
      let to : ℕ = start_at starts place in
      let n : ℕ = (to + (2 ^ 32 - pc)) % 2 ^ 32 in
      (cast_signed w32 n, i4_spells at n (far_fits pc to), far_back pc to lp (small place))

  all_units : (xs : List ℕ) → AllByRecursion (λ x. Unit {0}) xs
  all_units [] = tt
  all_units (x ∷ xs) = (tt, all_units xs)

  targets_back : (places : List ℕ) (bys : List ℤ) → AllTwo Target places bys → map (target pc) bys ≡ map (start_at starts) places
  unfolding AllTwo
  targets_back [] [] all = refl
  targets_back [] (by ∷ bys) all = absurd all
  targets_back (place ∷ places) [] all = absurd all
  targets_back (place ∷ places) (by ∷ bys) all = rw (all.0, targets_back places bys all.1) refl

  pub table_spelled : (raw : Pool) (low : ℤ) (places : List ℕ) (other : ℕ) → FitsSigned w32 low → 0 < length places → length places < 2 ^ 16 → (low +ℤ pos (length places)) ≤ℤ pos (2 ^ 31)
      → IsAt raw pc (opcode.TABLESWITCH ∷ text.switch_operands starts pc (TableSwitch low places other)) (TableSwitch low (map (start_at starts) places) (start_at starts other))
  table_spelled raw low places other fits some few room =
      let zeros : List ℕ = take (padding_size pc) (0 ∷ 0 ∷ 0 ∷ []) in
      let count : ℕ = length places in
      let others : List ℕ = flat_map (λ place. text.far pc (start_at starts place)) places in
      let high : ℤ = cast_signed w32 (last_word low count) in
      let high_is : high ≡ low +ℤ pos (count - 1) = last_key low count fits some few room in
      let low_back : cast_signed w32 (cast_unsigned w32 low) ≡ low = to_z-of_z w32 low fits in
      let value : Instr = TableSwitch low (map (start_at starts) places) (start_at starts other) in
      let at1 : ℕ = pc + 1 + length zeros in
      let d = target_spells other at1 tt in
      let at2 : ℕ = at1 + length (text.far pc (start_at starts other)) in
      let at3 : ℕ = at2 + length (text.u4 (cast_unsigned w32 low)) in
      let at4 : ℕ = at3 + length (text.u4 (last_word low count)) in
      let ts = times_spells i4 (λ place. text.far pc (start_at starts place)) (λ place. Unit {0}) Target target_spells places at4 (all_units places) in
      let ordered : int_le low high ≡ true = rw high_is (keys_ordered low (count - 1)) in
      let counted_is : count_between low high ≡ count = rw high_is (keys_counted low count some) in
      by_opcode raw pc opcode.TABLESWITCH (text.switch_operands starts pc (TableSwitch low places other)) value
      (spells_then (padding pc) (λ skipped. i4 >>= λ o. i4 >>= λ l. i4 >>= λ h. demand (int_le l h) pc cause.CODE_SHAPE >>= λ ok. times (count_between l h) i4 >>= λ t. plain (TableSwitch l (map (target pc) t) (target pc o)))
      (pc + 1) zeros (text.far pc (start_at starts other) ++ (text.u4 (cast_unsigned w32 low) ++ (text.u4 (last_word low count) ++ others))) (record { at = pc + 1; value = zeros }) (instr value) (padding_spells (pc + 1) pc)
      (spells_then i4 (λ o. i4 >>= λ l. i4 >>= λ h. demand (int_le l h) pc cause.CODE_SHAPE >>= λ ok. times (count_between l h) i4 >>= λ t. plain (TableSwitch l (map (target pc) t) (target pc o)))
      at1 (text.far pc (start_at starts other)) (text.u4 (cast_unsigned w32 low) ++ (text.u4 (last_word low count) ++ others)) d.0 (instr value) d.1
      (spells_then i4 (λ l. i4 >>= λ h. demand (int_le l h) pc cause.CODE_SHAPE >>= λ ok. times (count_between l h) i4 >>= λ t. plain (TableSwitch l (map (target pc) t) (target pc d.0)))
      at2 (text.u4 (cast_unsigned w32 low)) (text.u4 (last_word low count) ++ others) low (instr value)
      (subst (λ (z : ℤ). Spells i4 at2 (text.u4 (cast_unsigned w32 low)) z) low_back (i4_spells at2 (cast_unsigned w32 low) (unsigned_32 low fits)))
      (spells_then i4 (λ h. demand (int_le low h) pc cause.CODE_SHAPE >>= λ ok. times (count_between low h) i4 >>= λ t. plain (TableSwitch low (map (target pc) t) (target pc d.0)))
      at3 (text.u4 (last_word low count)) others high (instr value) (i4_spells at3 (last_word low count) (let f : last_word low count < 2 ^ 32 = omega arith in f))
      (spells_demand (int_le low high) pc cause.CODE_SHAPE (λ ok. times (count_between low high) i4 >>= λ t. plain (TableSwitch low (map (target pc) t) (target pc d.0))) at4 others (instr value) ordered
      (subst (λ (k : ℕ). Spells (times k i4 >>= λ t. plain (TableSwitch low (map (target pc) t) (target pc d.0))) at4 others (instr value)) (sym counted_is)
      (ends raw pc (times count i4) (λ t. plain (TableSwitch low (map (target pc) t) (target pc d.0))) at4 others ts.0 value ts.1
      (rw (targets_back places ts.0 ts.2, d.2) refl))))))))

  -- ---- lookupswitch

  abbrev pair_bytes : ℤ × ℕ → List ℕ
  pair_bytes pair = text.u4 (cast_unsigned w32 pair.0) ++ text.far pc (start_at starts pair.1)

  abbrev PairBack : ℤ × ℕ → ℤ × ℤ → Type 0
  PairBack pair read = (read.0 ≡ pair.0) × (target pc read.1 ≡ start_at starts pair.1)

  pair_spells : (pair : ℤ × ℕ) (at : ℕ) → FitsSigned w32 pair.0 → (read : ℤ × ℤ) × Spells match_pair at (pair_bytes pair) read × PairBack pair read
  pair_spells pair at fits =
      let back : cast_signed w32 (cast_unsigned w32 pair.0) ≡ pair.0 = to_z-of_z w32 pair.0 fits in
      let behind : ℕ = at + length (text.u4 (cast_unsigned w32 pair.0)) in
      let t = target_spells pair.1 behind tt in (
        (pair.0, t.0),
        spells_then i4 (λ key. i4 >>= λ by. whole (key, by)) at (text.u4 (cast_unsigned w32 pair.0)) (text.far pc (start_at starts pair.1)) pair.0 (pair.0, t.0)
            (subst (λ (z : ℤ). Spells i4 at (text.u4 (cast_unsigned w32 pair.0)) z) back (i4_spells at (cast_unsigned w32 pair.0) (unsigned_32 pair.0 fits)))
            (spells_made i4 (λ (by : ℤ). (pair.0, by)) behind (text.far pc (start_at starts pair.1)) t.0 t.1),
        (refl, t.2),
      )

  abbrev read_pairs : List (ℤ × ℤ) → List (ℤ × ℕ)
  read_pairs reads = map (λ pair. (pair.0, target pc pair.1)) reads

  abbrev placed_pairs : List (ℤ × ℕ) → List (ℤ × ℕ)
  placed_pairs pairs = map (λ pair. (pair.0, start_at starts pair.1)) pairs

  pairs_back : (pairs : List (ℤ × ℕ)) (reads : List (ℤ × ℤ)) → AllTwo PairBack pairs reads → read_pairs reads ≡ placed_pairs pairs
  unfolding AllTwo
  pairs_back [] [] all = refl
  pairs_back [] (read ∷ reads) all = absurd all
  pairs_back (pair ∷ pairs) [] all = absurd all
  pairs_back (pair ∷ pairs) (read ∷ reads) all = rw (all.0.0, all.0.1, pairs_back pairs reads all.1) refl

  keys_from : (key : ℤ) (pairs : List (ℤ × ℕ)) (reads : List (ℤ × ℤ)) → AllTwo PairBack pairs reads → keys_ascend_from key reads ≡ keys_ascend_from key (map (λ pair. (pair.0, pos pair.1)) pairs)
  unfolding AllTwo
  keys_from key [] [] all = refl
  keys_from key [] (read ∷ reads) all = absurd all
  keys_from key (pair ∷ pairs) [] all = absurd all
  keys_from key (pair ∷ pairs) (read ∷ reads) all = rw (all.0.0, keys_from pair.0 pairs reads all.1) refl

  keys_back : (pairs : List (ℤ × ℕ)) (reads : List (ℤ × ℤ)) → AllTwo PairBack pairs reads → keys_ascend reads ≡ keys_ascend (map (λ pair. (pair.0, pos pair.1)) pairs)
  unfolding AllTwo
  keys_back [] [] all = refl
  keys_back [] (read ∷ reads) all = absurd all
  keys_back (pair ∷ pairs) [] all = absurd all
  keys_back (pair ∷ pairs) (read ∷ reads) all = rw all.0.0 (keys_from pair.0 pairs reads all.1)

  pub lookup_spelled : (raw : Pool) (pairs : List (ℤ × ℕ)) (other : ℕ) → AllByRecursion (λ pair. FitsSigned w32 pair.0) pairs → length pairs < 2 ^ 16 → keys_ascend (map (λ pair. (pair.0, pos pair.1)) pairs) ≡ true
      → IsAt raw pc (opcode.LOOKUPSWITCH ∷ text.switch_operands starts pc (LookupSwitch pairs other)) (LookupSwitch (map (λ pair. (pair.0, start_at starts pair.1)) pairs) (start_at starts other))
  lookup_spelled raw pairs other fits few ascend =
      let zeros : List ℕ = take (padding_size pc) (0 ∷ 0 ∷ 0 ∷ []) in
      let count : ℕ = length pairs in
      let rest : List ℕ = flat_map pair_bytes pairs in
      let value : Instr = LookupSwitch (map (λ pair. (pair.0, start_at starts pair.1)) pairs) (start_at starts other) in
      let at1 : ℕ = pc + 1 + length zeros in
      let d = target_spells other at1 tt in
      let at2 : ℕ = at1 + length (text.far pc (start_at starts other)) in
      let at3 : ℕ = at2 + length (text.u4 count) in
      let ps = times_spells match_pair pair_bytes (λ pair. FitsSigned w32 pair.0) PairBack pair_spells pairs at3 fits in
      let natural : nat_lt count (2 ^ 31) ≡ true = lt-ltb count (2 ^ 31) (omega arith) in
      let rise : keys_ascend ps.0 ≡ true = keys_back pairs ps.0 ps.2 ∙ ascend in
      by_opcode raw pc opcode.LOOKUPSWITCH (text.switch_operands starts pc (LookupSwitch pairs other)) value
      (spells_then (padding pc) (λ skipped. i4 >>= λ o. u4 >>= λ c. demand (nat_lt c.value (2 ^ 31)) pc cause.CODE_SHAPE >>= λ ok. times c.value match_pair >>= λ p. checked (LookupSwitch (map (λ pair. (pair.0, target pc pair.1)) p) (target pc o)) (unless (keys_ascend p) cause.CODE_SHAPE))
      (pc + 1) zeros (text.far pc (start_at starts other) ++ (text.u4 count ++ rest)) (record { at = pc + 1; value = zeros }) (instr value) (padding_spells (pc + 1) pc)
      (spells_then i4 (λ o. u4 >>= λ c. demand (nat_lt c.value (2 ^ 31)) pc cause.CODE_SHAPE >>= λ ok. times c.value match_pair >>= λ p. checked (LookupSwitch (map (λ pair. (pair.0, target pc pair.1)) p) (target pc o)) (unless (keys_ascend p) cause.CODE_SHAPE))
      at1 (text.far pc (start_at starts other)) (text.u4 count ++ rest) d.0 (instr value) d.1
      (spells_then u4 (λ c. demand (nat_lt c.value (2 ^ 31)) pc cause.CODE_SHAPE >>= λ ok. times c.value match_pair >>= λ p. checked (LookupSwitch (map (λ pair. (pair.0, target pc pair.1)) p) (target pc d.0)) (unless (keys_ascend p) cause.CODE_SHAPE))
      at2 (text.u4 count) rest (record { at = at2; value = count }) (instr value) (u4_spells at2 count (let f : count < 2 ^ 32 = omega arith in f))
      (spells_demand (nat_lt count (2 ^ 31)) pc cause.CODE_SHAPE (λ ok. times count match_pair >>= λ p. checked (LookupSwitch (map (λ pair. (pair.0, target pc pair.1)) p) (target pc d.0)) (unless (keys_ascend p) cause.CODE_SHAPE)) at3 rest (instr value) natural
      (ends raw pc (times count match_pair) (λ p. checked (LookupSwitch (map (λ pair. (pair.0, target pc pair.1)) p) (target pc d.0)) (unless (keys_ascend p) cause.CODE_SHAPE)) at3 rest ps.0 value ps.1
      (rw (rise, pairs_back pairs ps.0 ps.2, d.2) refl))))))

-- The flow of placed instructions leads to instructions alone.
use Rattle.std.proofs.Common.{◌≡◌, ℕ, zero, suc, ◌+◌, ◌<◌, Bool, true, false, ◌&&◌, ◌||◌, List, [], ◌∷◌, ◌++◌, length, map, refl, arith}
use Rattle.std.specs.Prelude.{◌==◌, nat_lt, slice_index, ℤ}
use Rattle.std.specs.List.{list_all}
use Rattle.std.proofs.lemmas.Bool.{ltb-true, eq-eqb}
use Rattle.th_syntax.specs.declared.instr.Instr.{Instr}
use Rattle.th_syntax.specs.declared.instr.Instr.TheVariants.{IfZero, IfInts, IfSame, IfOther, IfNull, IfNotNull, Goto, TableSwitch, LookupSwitch, IReturn, LReturn, AReturn, Return, Throw}
use Rattle.th_syntax.specs.Flow.{leads_to}
use Rattle.th_syntax.specs.Decoding.{is_start, offset_behind, flows_well, flow_flaws_from, flow_flaws}
use Rattle.th_gen.specs.declared.item.PoolItem.{PoolItem}
use Rattle.th_gen.specs.Placing.{start_at, retargeted, size_of, starts_from, placed_from}
use Rattle.th_gen.specs.Passing.{leads_on}

both : (a b : Bool) → (a && b) ≡ true → (a ≡ true) × (b ≡ true)
both true b e = (refl, e)
both false b e = absurd cc

module _ (T : ℕ → Bool) (starts : List ℕ) (n : ℕ) (at : (p : ℕ) → p < n → T (start_at starts p) ≡ true) where
  below : (p : ℕ) → nat_lt p n ≡ true → T (start_at starts p) ≡ true
  below p e = at p (ltb-true p n e)

  all_places : (xs : List ℕ) (other : ℕ) → list_all (λ to. nat_lt to n) (xs ++ other ∷ []) ≡ true → list_all T (map (start_at starts) xs ++ start_at starts other ∷ []) ≡ true
  all_places [] other e = let two = both (nat_lt other n) true e in rw (below other two.0) refl
  all_places (x ∷ xs) other e = let two = both (nat_lt x n) (list_all (λ to. nat_lt to n) (xs ++ other ∷ [])) e in rw (below x two.0) (all_places xs other two.1)

  all_pairs : (xs : List (ℤ × ℕ)) (other : ℕ) → list_all (λ to. nat_lt to n) (map (λ pair. pair.1) xs ++ other ∷ []) ≡ true
      → list_all T (map (λ pair. pair.1) (map (λ (pair : ℤ × ℕ). (let p : ℤ × ℕ = (pair.0, start_at starts pair.1) in p)) xs) ++ start_at starts other ∷ []) ≡ true
  all_pairs [] other e = let two = both (nat_lt other n) true e in rw (below other two.0) refl
  all_pairs (x ∷ xs) other e = let two = both (nat_lt x.1 n) (list_all (λ to. nat_lt to n) (map (λ pair. pair.1) xs ++ other ∷ [])) e in rw (below x.1 two.0) (all_pairs xs other two.1)

  module _ (k b : ℕ) (next : k < n → T b ≡ true) where
    one : (nat_lt k n && true) ≡ true → (T b && true) ≡ true
    one e = let two = both (nat_lt k n) true e in rw (next (ltb-true k n two.0)) refl

    two_ways : (p : ℕ) → (nat_lt p n && (nat_lt k n && true)) ≡ true → (T (start_at starts p) && (T b && true)) ≡ true
    two_ways p e = let two = both (nat_lt p n) (nat_lt k n && true) e in rw (below p two.0) (one two.1)

    pub leads_kept : (i : Instr) → list_all (λ to. nat_lt to n) (leads_to (k ∷ []) i) ≡ true → list_all T (leads_to (b ∷ []) (retargeted starts i)) ≡ true
    leads_kept (IfZero relation p) e = two_ways p e
    leads_kept (IfInts relation p) e = two_ways p e
    leads_kept (IfSame p) e = two_ways p e
    leads_kept (IfOther p) e = two_ways p e
    leads_kept (IfNull p) e = two_ways p e
    leads_kept (IfNotNull p) e = two_ways p e
    leads_kept (Goto p) e = let two = both (nat_lt p n) true e in rw (below p two.0) refl
    leads_kept (TableSwitch low places other) e = all_places places other e
    leads_kept (LookupSwitch pairs other) e = all_pairs pairs other e
    leads_kept IReturn e = refl
    leads_kept LReturn e = refl
    leads_kept AReturn e = refl
    leads_kept Return e = refl
    leads_kept Throw e = refl
    leads_kept other e = one e

-- ---- the offsets where instructions start

or_right : (a b : Bool) → b ≡ true → (a || b) ≡ true
or_right true b e = refl
or_right false b e = e

pub start_there : (pool : List PoolItem) (starts : List ℕ) (pc : ℕ) (instrs : List Instr) (k : ℕ) → k < length instrs
    → is_start (placed_from starts (starts_from pool pc instrs) instrs) (slice_index (starts_from pool pc instrs) k) ≡ true
start_there pool starts pc [] k lt = absurd (omega arith)
start_there pool starts pc (i ∷ instrs) zero lt = rw (eq-eqb pc pc refl) refl
start_there pool starts pc (i ∷ instrs) (suc k) lt =
    or_right (pc == slice_index (starts_from pool (pc + size_of pool pc i) instrs) k) (is_start (placed_from starts (starts_from pool (pc + size_of pool pc i) instrs) instrs) (slice_index (starts_from pool (pc + size_of pool pc i) instrs) k))
    (start_there pool starts (pc + size_of pool pc i) instrs k (omega arith))

module _ (pool : List PoolItem) (whole : List (ℕ × Instr)) (starts : List ℕ) (n : ℕ) (at : (p : ℕ) → p < n → is_start whole (start_at starts p) ≡ true) where
  behind_there : (k pc : ℕ) (instrs : List Instr) → n ≡ k + length instrs → ((j : ℕ) → j < length instrs → is_start whole (slice_index (starts_from pool pc instrs) j) ≡ true) → k < n
      → is_start whole (offset_behind (placed_from starts (starts_from pool pc instrs) instrs)) ≡ true
  behind_there k pc [] count there lt = absurd (omega arith)
  behind_there k pc (i ∷ instrs) count there lt = there 0 (omega arith)

  flows_on : (offset k pc : ℕ) (instrs : List Instr) → n ≡ k + length instrs → ((j : ℕ) → j < length instrs → is_start whole (slice_index (starts_from pool pc instrs) j) ≡ true) → leads_on n k instrs ≡ true
      → flow_flaws_from whole offset (placed_from starts (starts_from pool pc instrs) instrs) ≡ []
  flows_on offset k pc [] count there e = refl
  flows_on offset k pc (i ∷ instrs) count there e =
      let two = both (list_all (λ to. nat_lt to n) (leads_to ((k + 1) ∷ []) i)) (leads_on n (k + 1) instrs) e in
      let behind : ℕ = pc + size_of pool pc i in
      let count_on : n ≡ (k + 1) + length instrs = omega arith in
      let later : (j : ℕ) → j < length instrs → is_start whole (slice_index (starts_from pool behind instrs) j) ≡ true = λ j lt. there (suc j) (omega arith) in
      let well : flows_well whole (placed_from starts (starts_from pool behind instrs) instrs) (retargeted starts i) ≡ true =
      leads_kept (is_start whole) starts n at (k + 1) (offset_behind (placed_from starts (starts_from pool behind instrs) instrs)) (behind_there (k + 1) behind instrs count_on later) i two.0 in
      rw well (flows_on offset (k + 1) behind instrs count_on later two.1)

pub no_flow_flaws : (pool : List PoolItem) (instrs : List Instr) (offset : ℕ) → leads_on (length instrs) 0 instrs ≡ true
    → flow_flaws offset (placed_from (starts_from pool 0 instrs) (starts_from pool 0 instrs) instrs) ≡ []
unfolding flow_flaws
no_flow_flaws pool instrs offset e =
    let starts : List ℕ = starts_from pool 0 instrs in
    let count : length instrs ≡ 0 + length instrs = omega arith in
    flows_on pool (placed_from starts starts instrs) starts (length instrs) (λ p lt. start_there pool starts 0 instrs p lt) offset 0 0 instrs count (λ j lt. start_there pool starts 0 instrs j lt) e

-- What is kept where nothing new comes gives the least table.
use Rattle.std.proofs.Common.{◌≡◌, ℕ, ◌<◌, List, length, get_or, Option, Contains, sym, subst, ◌∙◌, arith}
use Rattle.std.proofs.lemmas.List.{get_or_default}
use Rattle.th_syntax.specs.declared.class_file.Member.{Member}
use Rattle.th_syntax.specs.declared.class_file.Code.{Code}
use Rattle.th_syntax.specs.Kinds.{KindsAt}
use Rattle.th_syntax.specs.KindRows.{row_of, after}
use Rattle.th_syntax.specs.KindTable.{entry_kinds, IsHeld, IsClosedTable, IsLeastTable}
use Rattle.th_syntax.proofs.MergingKinds.{at_self}
use Rattle.th_kinds.specs.Walk.{line, jumps, FlowsWell, state_at, walked_table, IsKept, IsQuiet, IsBelow}
use Rattle.th_kinds.specs.Kept.{IsUnderAt, IsStable, IsSettled}
use Rattle.th_kinds.proofs.Walking.{jumping_held, fallen_held, walked_below, walked_closed}

module _ (m : Member) (code : Code) (well : FlowsWell code.instrs) (offsets : List ℕ) (lengths : length offsets ≡ length code.instrs) (are : (k : ℕ) → k < length code.instrs → get_or offsets k 0 ≡ (line code.instrs k).0) where
  -- the table that a closed one is by places
  by_places : (ℕ → KindsAt) → ℕ → KindsAt
  by_places t k = t (line code.instrs k).0

  jumps_under : (t : ℕ → KindsAt) → IsClosedTable m code t → (k : ℕ) → k < length code.instrs
      → IsUnderAt (by_places t) offsets (jumps (line code.instrs k).1) (after (row_of (line code.instrs k).1) (by_places t k))
  unfolding by_places
  jumps_under t closed k inside i there j below found =
      let target : get_or (jumps (line code.instrs k).1) i 0 ≡ (line code.instrs j).0 = sym found ∙ are j (omega arith) in
      subst (λ (n : ℕ). IsHeld (after (row_of (line code.instrs k).1) (t (line code.instrs k).0)) (t n)) target
      (jumping_held m code well t closed k (get_or (jumps (line code.instrs k).1) i 0) (t (line code.instrs k).0) inside (at_self (t (line code.instrs k).0))
      (i, there, get_or_default (jumps (line code.instrs k).1) i (get_or (jumps (line code.instrs k).1) i 0) 0 there))

  stable_table : (t : ℕ → KindsAt) → IsClosedTable m code t → IsStable (entry_kinds m code) code.instrs offsets (by_places t)
  unfolding by_places
  stable_table t closed = record {
    begun = subst (λ (n : ℕ). IsHeld (entry_kinds m code) (t n)) (sym well.first) closed.entry;
    jumping = jumps_under t closed;
    falling = λ k inside. fallen_held m code well t closed k (t (line code.instrs k).0) inside (at_self (t (line code.instrs k).0));
  }

  module _ (kept : List (Option KindsAt)) (settled : IsSettled (entry_kinds m code) code.instrs offsets kept) where
    below_closed : (t : ℕ → KindsAt) → IsClosedTable m code t → IsBelow code.instrs kept t
    unfolding by_places
    below_closed t closed k known inside stands = settled.below (by_places t) (stable_table t closed) k known stands

    kept_target : (k j : ℕ) → k < length code.instrs → j < length code.instrs → (jump : Contains (jumps (line code.instrs k).1) (line code.instrs j).0)
        → IsKept kept j (after (row_of (line code.instrs k).1) (state_at (entry_kinds m code) code.instrs kept k))
    kept_target k j inside there jump =
        let found : get_or offsets j 0 ≡ (line code.instrs j).0 = are j there in
        let jump_at : Contains (jumps (line code.instrs k).1) (get_or offsets j 0) = subst (λ (n : ℕ). Contains (jumps (line code.instrs k).1) n) (sym found) jump in
        let known = settled.keeps k j inside (omega arith) jump_at in
        record {
          known = known.0;
          stands = known.1;
          held = (settled.still k inside).jumping jump.0 jump.1 j known.0 (omega arith) (found ∙ sym (get_or_default (jumps (line code.instrs k).1) jump.0 0 (line code.instrs j).0 jump.1 ∙ jump.2)) known.1;
        }

    quiet : (k : ℕ) → k < length code.instrs → IsQuiet (entry_kinds m code) code.instrs kept k
    quiet k inside = record { falling = (settled.still k inside).falling; jumping = λ j there jump. kept_target k j inside there jump }

    pub settled_least : IsLeastTable m code (walked_table (entry_kinds m code) code.instrs kept)
    settled_least = record {
      closed = walked_closed m code well kept quiet;
      below = λ t closed offset. walked_below m code well kept t closed (below_closed t closed) offset;
    }

-- Conflicts by places and by offsets.
use Rattle.std.proofs.Common.{◌≡◌, inl, inr, ℕ, ◌<◌, ◌==◌, ◌&&◌, ◌||◌, Bool, true, false, List, length, Option, None, Some, refl, sym, ap, ◌∙◌, arith}
use Rattle.std.specs.Option.{option_map_or}
use Rattle.std.proofs.lemmas.Bool.{cases_order}
use Rattle.th_syntax.specs.declared.class_file.Member.{Member}
use Rattle.th_syntax.specs.declared.class_file.Code.{Code}
use Rattle.th_syntax.specs.declared.instr.Instr.{Instr}
use Rattle.th_syntax.specs.Flow.{instr_in}
use Rattle.th_syntax.specs.Kinds.{KindsAt}
use Rattle.th_syntax.specs.KindTable.{entry_kinds, is_conflict, is_short_of_locals, conflicts_at, IsLeastTable, HasKinds, HasFirstConflict}
use Rattle.th_kinds.specs.Walk.{line, FlowsWell, state_at, walked_table}
use Rattle.th_kinds.specs.Places.{AreFitting, IsConflictAt}
use Rattle.th_kinds.proofs.Places.{stands_at, stands}
use Rattle.th_kinds.proofs.Walking.{table_there}

no_short : (a b c : Bool) → b ≡ false → c ≡ false → ((a && b) || c) ≡ false
no_short true b c eb ec = ap (λ x. x || c) eb ∙ ec
no_short false b c eb ec = ec

short_of : (b c : Bool) → b ≡ true → (b || c) ≡ true
short_of b c e = ap (λ x. x || c) e

or_other : (a b : Bool) → b ≡ true → (a || b) ≡ true
or_other true b e = refl
or_other false b e = e

module _ (m : Member) (code : Code) (well : FlowsWell code.instrs) (kept : List (Option KindsAt)) where
  -- the table by offsets, and by places
  t : ℕ → KindsAt
  t = walked_table (entry_kinds m code) code.instrs kept

  s : ℕ → KindsAt
  s = state_at (entry_kinds m code) code.instrs kept

  at_place : (place offset : ℕ) (i : Instr) → place < length code.instrs → (line code.instrs place).0 ≡ offset → (line code.instrs place).1 ≡ i
      → is_conflict m code (line code.instrs place).1 (s place) ≡ is_conflict m code i (t offset)
  unfolding t s
  at_place place offset i inside offset_is instr_is =
      ap (λ (j : Instr). is_conflict m code j (state_at (entry_kinds m code) code.instrs kept place)) instr_is
      ∙ ap (is_conflict m code i) (sym (table_there m code well kept place offset inside offset_is))

  free_by : (n offset : ℕ) (found : Option Instr) → instr_in code.instrs offset ≡ found → AreFitting m code code.instrs s n → ((k : ℕ) → k < length code.instrs → (line code.instrs k).0 ≡ offset → k < n)
      → option_map_or (λ i. is_conflict m code i (t offset)) found false ≡ false
  free_by n offset None is fit early = refl
  free_by n offset (Some i) is fit early =
      let there = stands code.instrs offset i is in
      sym (at_place there.place offset i there.inside there.offset_is there.instr_is) ∙ fit there.place (early there.place there.inside there.offset_is)

  -- no conflict at an offset whose instruction stands before a place up to which all fit
  free : (n offset : ℕ) → is_short_of_locals m code ≡ false → AreFitting m code code.instrs s n → ((k : ℕ) → k < length code.instrs → (line code.instrs k).0 ≡ offset → k < n) → conflicts_at m code t offset ≡ false
  free n offset long fit early =
      no_short (offset == 0) (is_short_of_locals m code) (option_map_or (λ i. is_conflict m code i (t offset)) (instr_in code.instrs offset) false) long
      (free_by n offset (instr_in code.instrs offset) refl fit early)

  pub fitting_kinds : IsLeastTable m code (walked_table (entry_kinds m code) code.instrs kept) → is_short_of_locals m code ≡ false
      → AreFitting m code code.instrs (state_at (entry_kinds m code) code.instrs kept) (length code.instrs) → HasKinds m code (walked_table (entry_kinds m code) code.instrs kept)
  unfolding t s
  fitting_kinds least long fit = record { least = least; fitting = λ offset. free (length code.instrs) offset long fit (λ k inside e. inside) }

  before_place : (place before k : ℕ) → before < (line code.instrs place).0 → k < length code.instrs → place < length code.instrs → (line code.instrs k).0 ≡ before → k < place
  before_place place before k less inside there e = elim (cases_order k place) [
    | inl same ↦ absurd (let at = ap (λ (n : ℕ). (line code.instrs n).0) same in omega arith)
    | inr apart ↦ elim apart [ inl below ↦ below | inr above ↦ absurd (let more = well.ascending place k above inside in omega arith) ]
  ]

  pub place_conflict : (place offset : ℕ) → IsLeastTable m code (walked_table (entry_kinds m code) code.instrs kept) → is_short_of_locals m code ≡ false
      → IsConflictAt m code code.instrs (state_at (entry_kinds m code) code.instrs kept) place → offset ≡ (line code.instrs place).0 → HasFirstConflict m code (walked_table (entry_kinds m code) code.instrs kept) offset
  unfolding t s
  place_conflict place offset least long found at = record {
    least = least;
    here =
        let stands_here : instr_in code.instrs offset ≡ Some (line code.instrs place).1 = ap (instr_in code.instrs) at ∙ stands_at code.instrs place well.ascending found.inside in
        or_other (offset == 0 && is_short_of_locals m code) (option_map_or (λ i. is_conflict m code i (t offset)) (instr_in code.instrs offset) false)
        (ap (λ o. option_map_or (λ i. is_conflict m code i (t offset)) o false) stands_here
        ∙ sym (at_place place offset (line code.instrs place).1 found.inside (sym at) refl) ∙ found.here);
    none_before = λ before less. free place before long found.before (λ k inside e. before_place place before k (let same = at in omega arith) inside found.inside e);
  }

  pub short_conflict : IsLeastTable m code (walked_table (entry_kinds m code) code.instrs kept) → is_short_of_locals m code ≡ true → HasFirstConflict m code (walked_table (entry_kinds m code) code.instrs kept) 0
  short_conflict least short = record {
    least = least;
    here = short_of (is_short_of_locals m code) (option_map_or (λ i. is_conflict m code i (walked_table (entry_kinds m code) code.instrs kept 0)) (instr_in code.instrs 0) false) short;
    none_before = λ before less. absurd (omega arith);
  }

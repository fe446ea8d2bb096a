-- The kinds that are walked are those that the least table lists.
use Rattle.std.proofs.Common.{◌≡◌, ◌≤◌, ℕ, zero, suc, ◌+◌, ◌<◌, ◌==◌, ◌&&◌, ◌||◌, Bool, true, false, cond, List, [], ◌∷◌, ◌++◌, length, map, drop, Option, Some, refl, sym, ap, ◌∙◌, add-one, arith}
use Rattle.std.specs.Option.{option_map_or}
use Rattle.std.proofs.lemmas.Bool.{false≢true}
use Rattle.std.proofs.lemmas.List.{drop_more}
use Rattle.th_syntax.specs.declared.class_file.Member.{Member}
use Rattle.th_syntax.specs.declared.class_file.Code.{Code}
use Rattle.th_syntax.specs.declared.instr.Instr.{Instr}
use Rattle.th_syntax.specs.declared.instr.Instr.TheVariants.{Nop}
use Rattle.th_syntax.specs.Flow.{instr_in, is_reached, reached_offsets, those_at}
use Rattle.th_syntax.specs.Kinds.{KindsAt, NoKinds, OfKinds, DepthsDiffer}
use Rattle.th_syntax.specs.KindTable.{entry_kinds, is_conflict, is_short_of_locals, HasKinds, KindsBefore, shown, AreKinds}
use Rattle.th_syntax.proofs.LeastKinds.{comes_along, comes_only_along}
use Rattle.th_syntax.proofs.Visiting.{found_from_path, path_from_found}
use Rattle.th_kinds.specs.Walk.{line, FlowsWell, kept_at, here, fallen_behind, falls_in, state_at, walked_table}
use Rattle.th_kinds.specs.Listed.{kinds_before, listed}
use Rattle.th_kinds.proofs.Places.{stands_at}
use Rattle.th_kinds.proofs.Walking.{table_at}

drop_beyond : {A : Type 0} (n : ℕ) (xs : List A) → length xs ≤ n → drop n xs ≡ []
drop_beyond zero [] e = refl
drop_beyond zero (x ∷ xs) e = absurd (omega arith)
drop_beyond (suc n) [] e = refl
drop_beyond (suc n) (x ∷ xs) e = drop_beyond n xs (omega arith)

kept_dropped : (n : ℕ) (kept : List (Option KindsAt)) → kept_at (drop n kept) 0 ≡ kept_at kept n
kept_dropped zero kept = refl
kept_dropped (suc n) [] = refl
kept_dropped (suc n) (x ∷ kept) = kept_dropped n kept

drop_next : {A : Type 0} (n : ℕ) (xs : List A) → drop 1 (drop n xs) ≡ drop (suc n) xs
drop_next zero xs = refl
drop_next (suc n) [] = refl
drop_next (suc n) (x ∷ xs) = drop_next n xs

-- one step of a walk
pub listed_step : (instrs : List (ℕ × Instr)) (kept : List (Option KindsAt)) (fallen : KindsAt) (p : ℕ) → p < length instrs
    → listed (drop p instrs) (drop p kept) fallen
    ≡ kinds_before (line instrs p).0 (here fallen (kept_at kept p)) ++ listed (drop (suc p) instrs) (drop (suc p) kept) (fallen_behind (line instrs p).1 (here fallen (kept_at kept p)))
unfolding listed
listed_step instrs kept fallen p inside =
    ap (λ (xs : List (ℕ × Instr)). listed xs (drop p kept) fallen) (drop_more instrs p (0, Nop) inside)
    ∙ ap (λ (o : Option KindsAt). kinds_before (line instrs p).0 (here fallen o) ++ listed (drop (p + 1) instrs) (drop 1 (drop p kept)) (fallen_behind (line instrs p).1 (here fallen o))) (kept_dropped p kept)
    ∙ ap (λ (ks : List (Option KindsAt)). kinds_before (line instrs p).0 (here fallen (kept_at kept p)) ++ listed (drop (p + 1) instrs) ks (fallen_behind (line instrs p).1 (here fallen (kept_at kept p)))) (drop_next p kept)
    ∙ ap (λ (n : ℕ). kinds_before (line instrs p).0 (here fallen (kept_at kept p)) ++ listed (drop n instrs) (drop (suc p) kept) (fallen_behind (line instrs p).1 (here fallen (kept_at kept p)))) (add-one p)

pub listed_end : (instrs : List (ℕ × Instr)) (kept : List (Option KindsAt)) (fallen : KindsAt) (p : ℕ) → length instrs ≤ p → listed (drop p instrs) kept fallen ≡ []
unfolding listed
listed_end instrs kept fallen p beyond = ap (λ (xs : List (ℕ × Instr)). listed xs kept fallen) (drop_beyond p instrs beyond)

-- ---- one instruction in the list

-- an instruction of a list with those that are reached
abbrev pub row_at : (ℕ → KindsAt) → ℕ × Instr → ℕ × KindsAt
row_at t i = (i.0, t i.0)

or_right_false : (a b : Bool) → (a || b) ≡ false → b ≡ false
or_right_false true b e = absurd cc
or_right_false false b e = e

module _ (m : Member) (code : Code) (t : ℕ → KindsAt) (has_kinds : HasKinds m code t) where
  no_conflict : (offset : ℕ) (i : Instr) → instr_in code.instrs offset ≡ Some i → is_conflict m code i (t offset) ≡ false
  no_conflict offset i stands =
      or_right_false (offset == 0 && is_short_of_locals m code) (is_conflict m code i (t offset))
      (ap (λ o. (offset == 0 && is_short_of_locals m code) || option_map_or (λ j. is_conflict m code j (t offset)) o false) (sym stands) ∙ has_kinds.fitting offset)

  row_by : (i : ℕ × Instr) (s : KindsAt) (b : Bool) (known : List KindsBefore) (more : List (ℕ × Instr)) → t i.0 ≡ s → is_reached code.instrs i.0 ≡ b → instr_in code.instrs i.0 ≡ Some i.1
      → map shown known ≡ map (row_at t) more → map shown (kinds_before i.0 s ++ known) ≡ map (row_at t) (cond b (i ∷ more) more)
  row_by i (OfKinds locals stack) true known more is at stands rest =
      let head : (let x : ℕ × KindsAt = (i.0, OfKinds locals stack) in x) ≡ row_at t i = ap (λ (s : KindsAt). let x : ℕ × KindsAt = (i.0, s) in x) (sym is) in cc
  row_by i (OfKinds locals stack) false known more is at stands rest =
      absurd (false≢true (sym at ∙ found_from_path code.instrs i.0 (comes_only_along m code t has_kinds.least i.0 (λ none. let e : OfKinds locals stack ≡ NoKinds = sym is ∙ none in cc))))
  row_by i NoKinds true known more is at stands rest = absurd (comes_along m code t has_kinds.least.closed i.0 (path_from_found code.instrs i.0 at) is)
  row_by i NoKinds false known more is at stands rest = rest
  row_by i DepthsDiffer b known more is at stands rest =
      absurd (false≢true (sym (no_conflict i.0 i.1 stands) ∙ ap (is_conflict m code i.1) is))

-- ---- the whole list

module _ (m : Member) (code : Code) (well : FlowsWell code.instrs) (kept : List (Option KindsAt)) (has_kinds : HasKinds m code (walked_table (entry_kinds m code) code.instrs kept)) where
  rows_from : (n p : ℕ) → p + n ≡ length code.instrs
      → map shown (listed (drop p code.instrs) (drop p kept) (falls_in (entry_kinds m code) code.instrs kept p))
      ≡ map (row_at (walked_table (entry_kinds m code) code.instrs kept)) (those_at (reached_offsets code.instrs) (drop p code.instrs))
  unfolding falls_in
  rows_from zero p e =
      let beyond : length code.instrs ≤ p = omega arith in
      ap (map shown) (listed_end code.instrs (drop p kept) (falls_in (entry_kinds m code) code.instrs kept p) p beyond)
      ∙ sym (ap (λ (xs : List (ℕ × Instr)). map (row_at (walked_table (entry_kinds m code) code.instrs kept)) (those_at (reached_offsets code.instrs) xs)) (drop_beyond p code.instrs beyond))
  rows_from (suc n) p e =
      let inside : p < length code.instrs = omega arith in
      ap (map shown) (listed_step code.instrs kept (falls_in (entry_kinds m code) code.instrs kept p) p inside)
      ∙ row_by m code (walked_table (entry_kinds m code) code.instrs kept) has_kinds (line code.instrs p) (state_at (entry_kinds m code) code.instrs kept p) (is_reached code.instrs (line code.instrs p).0)
      (listed (drop (suc p) code.instrs) (drop (suc p) kept) (falls_in (entry_kinds m code) code.instrs kept (suc p)))
      (those_at (reached_offsets code.instrs) (drop (suc p) code.instrs))
      (table_at m code well kept p inside) refl (stands_at code.instrs p well.ascending inside) (rows_from n (suc p) (omega arith))
      ∙ ap (λ (k : ℕ). map (row_at (walked_table (entry_kinds m code) code.instrs kept)) (those_at (reached_offsets code.instrs) (line code.instrs p ∷ drop k code.instrs))) (sym (add-one p))
      ∙ sym (ap (λ (xs : List (ℕ × Instr)). map (row_at (walked_table (entry_kinds m code) code.instrs kept)) (those_at (reached_offsets code.instrs) xs)) (drop_more code.instrs p (0, Nop) inside))

  pub kinds_are_listed : AreKinds m code (listed code.instrs kept (entry_kinds m code))
  unfolding falls_in
  kinds_are_listed = record {
    table = walked_table (entry_kinds m code) code.instrs kept;
    has = has_kinds;
    listed = rows_from (length code.instrs) 0 (omega arith);
  }

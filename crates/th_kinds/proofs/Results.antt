-- What is kept gives a method's kinds, or its first conflict.
use Rattle.std.proofs.Common.{◌≡◌, ◌-◌, ℕ, ◌<◌, ◌≤◌, ltb, true, false, List, [], ◌++◌, length, map, Option, sym, ap, subst, ◌∙◌}
use Rattle.std.specs.Prelude.{replicate}
use Rattle.std.proofs.lemmas.Bool.{lt-ltb, le-ltb}
use Rattle.th_syntax.specs.declared.class_file.Member.{Member}
use Rattle.th_syntax.specs.declared.class_file.Code.{Code}
use Rattle.th_syntax.specs.declared.instr.Instr.{Instr}
use Rattle.th_syntax.specs.declared.kind.SlotKind.TheVariants as kind
use Rattle.th_syntax.specs.declared.kind.SlotKind.{SlotKind}
use Rattle.th_syntax.specs.Kinds.{KindsAt, OfKinds}
use Rattle.th_syntax.specs.KindTable.{argument_slots, entry_kinds, is_short_of_locals, AreKinds, HasFirstConflict, IsLeastTable}
use Rattle.th_kinds.specs.Walk.{line, FlowsWell, state_at, walked_table}
use Rattle.th_kinds.specs.Kept.{IsSettled}
use Rattle.th_kinds.specs.Listed.{listed}
use Rattle.th_kinds.specs.Places.{AreFitting, IsConflictAt}
use Rattle.th_kinds.proofs.Placing.{as_many, offset_there}
use Rattle.th_kinds.proofs.Settled.{settled_least}
use Rattle.th_kinds.proofs.Judged.{fitting_kinds, place_conflict, short_conflict}
use Rattle.th_kinds.proofs.ListedKinds.{kinds_are_listed}

pub entry_is : (m : Member) (code : Code) (slots : List SlotKind) (entry : KindsAt) → slots ≡ argument_slots m → entry ≡ OfKinds (slots ++ replicate (code.max_locals - length slots) kind.Unusable) [] → entry ≡ entry_kinds m code
entry_is m code slots entry same is = is ∙ ap (λ (ks : List SlotKind). OfKinds (ks ++ replicate (code.max_locals - length ks) kind.Unusable) []) same

pub is_short : (m : Member) (code : Code) (n : ℕ) → n ≡ length (argument_slots m) → code.max_locals < n → is_short_of_locals m code ≡ true
is_short m code n same less = ap (ltb code.max_locals) (sym same) ∙ lt-ltb code.max_locals n less

pub is_long : (m : Member) (code : Code) (n : ℕ) → n ≡ length (argument_slots m) → n ≤ code.max_locals → is_short_of_locals m code ≡ false
is_long m code n same fits = ap (ltb code.max_locals) (sym same) ∙ le-ltb code.max_locals n fits

module _ (m : Member) (code : Code) (well : FlowsWell code.instrs) (entry : KindsAt) (entry_same : entry ≡ entry_kinds m code) (instrs : List (ℕ × Instr)) (instrs_same : instrs ≡ code.instrs)
    (offsets : List ℕ) (offsets_are : offsets ≡ map (λ (i : ℕ × Instr). i.0) instrs) (kept : List (Option KindsAt)) (settled : IsSettled entry instrs offsets kept) where
  least : IsLeastTable m code (walked_table (entry_kinds m code) code.instrs kept)
  least =
      let placed : offsets ≡ map (λ (i : ℕ × Instr). i.0) code.instrs = offsets_are ∙ ap (map (λ (i : ℕ × Instr). i.0)) instrs_same in
      settled_least m code well offsets (as_many code.instrs offsets placed) (λ k inside. offset_there code.instrs offsets k placed inside) kept
      (subst (λ (xs : List (ℕ × Instr)). IsSettled (entry_kinds m code) xs offsets kept) instrs_same (subst (λ (s : KindsAt). IsSettled s instrs offsets kept) entry_same settled))

  pub kinds_found : is_short_of_locals m code ≡ false → AreFitting m code instrs (state_at entry instrs kept) (length instrs) → AreKinds m code (listed instrs kept entry)
  kinds_found long fit =
      let fit' = subst (λ (xs : List (ℕ × Instr)). AreFitting m code xs (state_at (entry_kinds m code) xs kept) (length xs)) instrs_same
      (subst (λ (s : KindsAt). AreFitting m code instrs (state_at s instrs kept) (length instrs)) entry_same fit) in
      subst (λ (s : KindsAt). AreKinds m code (listed instrs kept s)) (sym entry_same) (subst (λ (xs : List (ℕ × Instr)). AreKinds m code (listed xs kept (entry_kinds m code))) (sym instrs_same)
      (kinds_are_listed m code well kept (fitting_kinds m code well kept least long fit')))

  pub conflict_found : (place offset : ℕ) → is_short_of_locals m code ≡ false → IsConflictAt m code instrs (state_at entry instrs kept) place → offset ≡ (line instrs place).0
      → HasFirstConflict m code (walked_table (entry_kinds m code) code.instrs kept) offset
  conflict_found place offset long found at =
      let found' = subst (λ (xs : List (ℕ × Instr)). IsConflictAt m code xs (state_at (entry_kinds m code) xs kept) place) instrs_same
      (subst (λ (s : KindsAt). IsConflictAt m code instrs (state_at s instrs kept) place) entry_same found) in
      place_conflict m code well kept place offset least long found' (at ∙ ap (λ (xs : List (ℕ × Instr)). (line xs place).0) instrs_same)

  pub short_found : is_short_of_locals m code ≡ true → HasFirstConflict m code (walked_table (entry_kinds m code) code.instrs kept) 0
  short_found short = short_conflict m code well kept least short

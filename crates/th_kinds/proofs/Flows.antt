-- Whether control stays within code is told by its offsets.
use Rattle.std.proofs.Common.{◌≡◌, ◌-◌, ◌+◌, ℕ, ◌<◌, List, length, map, get_or, All, Contains, inl, inr, sym, subst, ◌∙◌, arith}
use Rattle.std.proofs.lemmas.Bool.{cases_eq}
use Rattle.std.proofs.lemmas.List.{get_or_default}
use Rattle.th_syntax.specs.declared.instr.Instr.{Instr}
use Rattle.th_kinds.specs.Flowing.{FlowsWell, line, jumps}
use Rattle.th_kinds.specs.Kept.{Ascend}
use Rattle.th_kinds.proofs.Placing.{as_many, offset_there, offsets_ascend, all_there}

pub ascend_more : (offsets : List ℕ) (at : ℕ) → 0 < at → ((i j : ℕ) → i < j → j < at → get_or offsets i 0 < get_or offsets j 0) → get_or offsets (at - 1) 0 < get_or offsets at 0
    → (i j : ℕ) → i < j → j < at + 1 → get_or offsets i 0 < get_or offsets j 0
ascend_more offsets at some below step i j less inside = elim (cases_eq j at) [
  | inr apart ↦ below i j less (omega arith)
  | inl same ↦
      subst (λ (n : ℕ). get_or offsets i 0 < get_or offsets n 0) (sym same) (elim (cases_eq i (at - 1)) [
        | inl last ↦ subst (λ (n : ℕ). get_or offsets n 0 < get_or offsets at 0) (sym last) step
        | inr before ↦ let far : get_or offsets i 0 < get_or offsets (at - 1) 0 = below i (at - 1) (omega arith) (omega arith) in omega arith
      ])
]

module _ (instrs : List (ℕ × Instr)) (offsets : List ℕ) (are : offsets ≡ map (λ (i : ℕ × Instr). i.0) instrs) where
  pub flows_from : 0 < length offsets → get_or offsets 0 0 ≡ 0 → Ascend offsets → ((k : ℕ) → k < length instrs → All (λ target. Contains offsets target) (jumps (line instrs k).1)) → FlowsWell instrs
  flows_from some first ascending there =
      let long = as_many instrs offsets are in
      record {
        some = omega arith;
        first = sym (offset_there instrs offsets 0 are (omega arith)) ∙ first;
        ascending = λ j k below inside.
            let one = offset_there instrs offsets j are (omega arith) in
            let two = offset_there instrs offsets k are inside in
            let less = ascending j k below (omega arith) in omega arith;
        jumps_in = λ k to inside jump.
            let found = subst (λ (n : ℕ). Contains offsets n) jump.2 (there k inside jump.0 to jump.1) in
            let here : found.0 < length instrs = let below = found.1 in omega arith in
            (found.0, here, sym (offset_there instrs offsets found.0 are here) ∙ get_or_default offsets found.0 0 to found.1 ∙ found.2);
      }

  pub begins : FlowsWell instrs → (0 < length offsets) × (get_or offsets 0 0 ≡ 0)
  begins well =
      let long = as_many instrs offsets are in let some = well.some in
      (omega arith, offset_there instrs offsets 0 are well.some ∙ well.first)

  pub ascends : FlowsWell instrs → Ascend offsets
  ascends well = offsets_ascend instrs offsets well are

  pub lands : FlowsWell instrs → (k : ℕ) → k < length instrs → All (λ target. Contains offsets target) (jumps (line instrs k).1)
  lands well = all_there instrs offsets well are

-- Instructions by their places and by their offsets.
use Rattle.std.proofs.Common.{◌≡◌, ℕ, zero, suc, ◌<◌, ◌==◌, Bool, true, false, cond, List, [], ◌∷◌, length, drop, Option, Some, refl, ap, ◌∙◌, arith}
use Rattle.std.specs.Option.{option_map}
use Rattle.std.proofs.lemmas.Bool.{eq-eqb, eqb-true, ne_eqb}
use Rattle.th_syntax.specs.declared.instr.Instr.{Instr}
use Rattle.th_syntax.specs.Flow.{placed_at, instr_in, first_offset, offset_after}
use Rattle.th_kinds.specs.Walk.{line, place_of}

abbrev pub Ascends : List (ℕ × Instr) → Type 0
Ascends instrs = (j k : ℕ) → j < k → k < length instrs → (line instrs j).0 < (line instrs k).0

tail_ascends : (i : ℕ × Instr) (instrs : List (ℕ × Instr)) → Ascends (i ∷ instrs) → Ascends instrs
tail_ascends i instrs asc j k below inside = asc (suc j) (suc k) (omega arith) (omega arith)

apart_by : (i : ℕ × Instr) (instrs : List (ℕ × Instr)) (k : ℕ) → Ascends (i ∷ instrs) → k < length instrs → (i.0 == (line instrs k).0) ≡ false
apart_by i instrs k asc inside =
    ne_eqb i.0 (line instrs k).0 (λ same. let below : i.0 < (line instrs k).0 = asc 0 (suc k) (omega arith) (omega arith) in absurd (omega arith))

module _ where
  pub place_at : (instrs : List (ℕ × Instr)) (k : ℕ) → Ascends instrs → k < length instrs → place_of instrs (line instrs k).0 ≡ Some k
  place_at [] k asc inside = absurd (omega arith)
  place_at (i ∷ instrs) zero asc inside = ap (λ b. let o : Option ℕ = cond b (Some 0) (option_map suc (place_of instrs i.0)) in o) (eq-eqb i.0 i.0 refl)
  place_at (i ∷ instrs) (suc k) asc inside =
      ap (λ b. let o : Option ℕ = cond b (Some 0) (option_map suc (place_of instrs (line instrs k).0)) in o) (apart_by i instrs k asc (omega arith))
      ∙ ap (option_map suc) (place_at instrs k (tail_ascends i instrs asc) (omega arith))

  pub offset_behind : (instrs : List (ℕ × Instr)) (k : ℕ) → Ascends instrs → k < length instrs → offset_after instrs (line instrs k).0 ≡ first_offset (drop (suc k) instrs)
  offset_behind [] k asc inside = absurd (omega arith)
  offset_behind (i ∷ instrs) zero asc inside = ap (λ b. cond b (first_offset instrs) (offset_after instrs i.0)) (eq-eqb i.0 i.0 refl)
  offset_behind (i ∷ instrs) (suc k) asc inside =
      ap (λ b. cond b (first_offset instrs) (offset_after instrs (line instrs k).0)) (apart_by i instrs k asc (omega arith))
      ∙ offset_behind instrs k (tail_ascends i instrs asc) (omega arith)

  pub stands_at : (instrs : List (ℕ × Instr)) (k : ℕ) → Ascends instrs → k < length instrs → instr_in instrs (line instrs k).0 ≡ Some (line instrs k).1
  stands_at [] k asc inside = absurd (omega arith)
  stands_at (i ∷ instrs) zero asc inside =
      ap (λ b. option_map (λ (x : ℕ × Instr). x.1) (cond b (Some i) (placed_at instrs i.0))) (eq-eqb i.0 i.0 refl)
  stands_at (i ∷ instrs) (suc k) asc inside =
      ap (λ b. option_map (λ (x : ℕ × Instr). x.1) (cond b (Some i) (placed_at instrs (line instrs k).0))) (apart_by i instrs k asc (omega arith))
      ∙ stands_at instrs k (tail_ascends i instrs asc) (omega arith)

-- an instruction stands at a place
pub record Stands (instrs : List (ℕ × Instr)) (offset : ℕ) (i : Instr) : Type 0 where
  pub place : ℕ
  pub inside : place < length instrs
  pub found : place_of instrs offset ≡ Some place
  pub offset_is : (line instrs place).0 ≡ offset
  pub instr_is : (line instrs place).1 ≡ i

stands_by : (j : ℕ × Instr) (instrs : List (ℕ × Instr)) (offset : ℕ) (i : Instr) (b : Bool) → (j.0 == offset) ≡ b → option_map (λ (x : ℕ × Instr). x.1) (cond b (Some j) (placed_at instrs offset)) ≡ Some i
    → (instr_in instrs offset ≡ Some i → Stands instrs offset i) → Stands (j ∷ instrs) offset i
stands_by j instrs offset i true is e more = record {
  place = 0;
  inside = omega arith;
  found = ap (λ b. let o : Option ℕ = cond b (Some 0) (option_map suc (place_of instrs offset)) in o) is;
  offset_is = eqb-true j.0 offset is;
  instr_is = cc;
}
stands_by j instrs offset i false is e more = let s = more e in record {
  place = suc s.place;
  inside = let inside = s.inside in omega arith;
  found = ap (λ b. let o : Option ℕ = cond b (Some 0) (option_map suc (place_of instrs offset)) in o) is ∙ ap (option_map suc) s.found;
  offset_is = s.offset_is;
  instr_is = s.instr_is;
}

pub stands : (instrs : List (ℕ × Instr)) (offset : ℕ) (i : Instr) → instr_in instrs offset ≡ Some i → Stands instrs offset i
stands [] offset i e = absurd cc
stands (j ∷ instrs) offset i e = stands_by j instrs offset i (j.0 == offset) refl e (stands instrs offset i)

pub next_place : (instrs : List (ℕ × Instr)) (k to : ℕ) → first_offset (drop (suc k) instrs) ≡ Some to → (suc k < length instrs) × ((line instrs (suc k)).0 ≡ to)
next_place [] k to e = absurd cc
next_place (i ∷ []) zero to e = absurd cc
next_place (i ∷ j ∷ instrs) zero to e = (omega arith, cc)
next_place (i ∷ instrs) (suc k) to e = let more = next_place instrs k to e in (let inside = more.0 in omega arith, more.1)

pub next_offset : (instrs : List (ℕ × Instr)) (k : ℕ) → suc k < length instrs → first_offset (drop (suc k) instrs) ≡ Some (line instrs (suc k)).0
next_offset [] k inside = absurd (omega arith)
next_offset (i ∷ []) zero inside = absurd (omega arith)
next_offset (i ∷ j ∷ instrs) zero inside = refl
next_offset (i ∷ instrs) (suc k) inside = next_offset instrs k (omega arith)

-- A canonical query is within its limits.
use Rattle.std.proofs.Common.{◌≡◌, ℕ, ◌-◌, ◌≤◌, suc, Bool, true, false, cond, List, [], ◌∷◌, length, take, map, refl, sym, ap, subst, ◌∙◌, arith}
use Rattle.std.specs.Prelude.{sum, nat_le, ◌&&◌}
use Rattle.std.specs.List.{filter}
use Rattle.std.proofs.lemmas.List.{length-map, length-take}
use Rattle.std.proofs.lemmas.List.Sums.{sum_by-cons}
use Rattle.th_base.specs.declared.class.ClassInfo.{ClassInfo}
use Rattle.th_base.specs.declared.number.FieldId.{FieldId}
use Rattle.th_base.specs.declared.number.Reg.{Reg}
use Rattle.th_linear.specs.Gathered.{renamed_form}
use Rattle.th_ir.specs.declared.program.RegProgram.{RegProgram}
use Rattle.th_ir.specs.FactSets.{FactSets}
use Rattle.th_query.specs.declared.query.TheConstants.{MOST_REGISTERS, MOST_STATICS, MOST_LINKS, MOST_DIFFERENCES, MOST_FACTS}
use Rattle.th_query.specs.declared.query.Cell.{Cell}
use Rattle.th_query.specs.declared.query.Frame.{Frame}
use Rattle.th_query.specs.declared.query.Query.{Query}
use Rattle.th_query.specs.Symbols.{is_named}
use Rattle.th_query.specs.Unified.{renamed, renamed_cell, renamed_element}
use Rattle.th_query.specs.Settled.{pruned, settled, cut_frames, cut}
use Rattle.th_query.specs.Numbered.{sorted_in, sorted_by, sorted_frame, sorted_query, numbered_frame, numbered_pair}
use Rattle.th_query.specs.Canonical.{IsMadeCanonical}
use Rattle.th_query.specs.WellFormed.{IsWithinLimits}
use Rattle.th_query.proofs.Mentioning.{length_present}
use Rattle.th_query.proofs.Numbering.{new_names}

length_sorted_in : {X : Type 0} (key : X → ℕ) (x : X) (ys : List X) → length (sorted_in key x ys) ≡ suc (length ys)
length_sorted_in key x [] = refl
length_sorted_in key x (y ∷ ys) = elim (nat_le (key x) (key y)) as (λ b. length (cond b (x ∷ y ∷ ys) (y ∷ sorted_in key x ys)) ≡ suc (suc (length ys))) [ true ↦ refl | false ↦ ap suc (length_sorted_in key x ys) ]

length_sorted : {X : Type 0} (key : X → ℕ) (xs : List X) → length (sorted_by key xs) ≡ length xs
length_sorted key [] = refl
length_sorted key (x ∷ xs) = length_sorted_in key x (sorted_by key xs) ∙ ap suc (length_sorted key xs)

length_filtered : {X : Type 0} (p : X → Bool) (xs : List X) → length (filter p xs) ≤ length xs
length_filtered p [] = omega arith
length_filtered p (x ∷ xs) = let h = length_filtered p xs in elim (p x) as (λ b. length (cond b (x ∷ filter p xs) (filter p xs)) ≤ suc (length xs)) [ true ↦ omega (arith, h) | false ↦ omega (arith, h) ]

taken_at_most : {X : Type 0} (n : ℕ) (xs : List X) → length (take n xs) ≤ n
taken_at_most n xs = let e = length-take n xs in omega (arith, e)

abbrev pub register_count_of : Frame → ℕ
register_count_of f = length f.regs

abbrev pub registers_in : List Frame → ℕ
registers_in fs = sum (map register_count_of fs)

same_counts : (F : Frame → Frame) → ((f : Frame) → length (F f).regs ≡ length f.regs) → (fs : List Frame) → registers_in (map F fs) ≡ registers_in fs
same_counts F e [] = refl
same_counts F e (f ∷ fs) =
    let one = sum_by-cons (λ (x : ℕ). x) (length (F f).regs) (map register_count_of (map F fs)) in
    let two = sum_by-cons (λ (x : ℕ). x) (length f.regs) (map register_count_of fs) in
    let rest = same_counts F e fs in
    let here = e f in
    omega (arith, one, two, rest, here)

cut_counts : (n : ℕ) (fs : List Frame) → registers_in (cut_frames n fs) ≤ n
cut_counts n [] = omega arith
cut_counts n (f ∷ fs) =
    let one = sum_by-cons (λ (x : ℕ). x) (length (take n f.regs)) (map register_count_of (cut_frames (n - length f.regs) fs)) in
    let rest = cut_counts (n - length f.regs) fs in
    let here = length-take n f.regs in
    omega (arith, one, rest, here)

pub canonical_limits : (h : List ClassInfo) (p : RegProgram) (t : FactSets) (q r : Query) → IsMadeCanonical h p t q r → IsWithinLimits r
canonical_limits h p t q r c =
    let x = settled (pruned c.narrowed) in
    let before = sorted_query (pruned (cut x)) in
    let names = new_names before in
    subst IsWithinLimits (sym c.is) record {
      registers =
          let a = same_counts (numbered_frame names) (λ f. length-map f.regs (renamed names)) (map sorted_frame (cut x).frames) in
          let b = same_counts sorted_frame (λ f. length_sorted (λ (y : Reg × ℕ). y.0.0) f.regs) (cut x).frames in
          let d = cut_counts MOST_REGISTERS x.frames in
          omega (arith, a, b, d);
      statics =
          let a = length-map before.statics (renamed {K = FieldId} names) in
          let b = length_sorted (λ (y : FieldId × ℕ). y.0.0) (cut x).statics in
          let d = taken_at_most MOST_STATICS x.statics in
          omega (arith, a, b, d);
      links =
          let a = length_sorted (λ (y : Cell). y.base) (map (renamed_cell names) before.cells) in
          let b = length-map before.cells (renamed_cell names) in
          let d = length_sorted (λ (y : Cell). y.field.0) (cut x).cells in
          let e = length-take MOST_LINKS x.cells in
          let f = length-map before.elems (renamed_element names) in
          let g = length-take (MOST_LINKS - length x.cells) x.elems in
          omega (arith, a, b, d, e, f, g);
      diffs =
          let a = length-map before.diffs (numbered_pair names) in
          let b = length_filtered (λ (d : ℕ × ℕ). is_named (cut x) d.0 && is_named (cut x) d.1) (cut x).diffs in
          let d = taken_at_most MOST_DIFFERENCES x.diffs in
          omega (arith, a, b, d);
      facts =
          let a = length_present (map (renamed_form names) before.facts) in
          let b = length-map before.facts (renamed_form names) in
          let d = taken_at_most MOST_FACTS x.facts in
          omega (arith, a, b, d);
    }

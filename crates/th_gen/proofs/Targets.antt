-- Where an offset leads that was written in two's complement.
use Rattle.std.proofs.Common.{◌≡◌, ℕ, suc, ◌+◌, ◌-◌, ◌%◌, ◌<◌, ◌≤◌, ◌^◌, Bool, true, false, ltb, refl, ap, ◌∙◌, arith}
use Rattle.std.specs.Prelude.{ℤ, pos, negsuc, ◌+ℤ◌, min}
use Rattle.std.specs.Int.{w16, w32, cast_signed}
use Rattle.std.proofs.lemmas.Bool.{ltb-true, ltb-false, le-ltb}
use Rattle.std.proofs.lemmas.Int.{to_z_pos, ints}
use Rattle.th_syntax.specs.declared.instr.TheConstants.{OUTSIDE}
use Rattle.th_syntax.specs.CodeBytes.{offset_of, target}

pub target_is : (pc : ℕ) (by : ℤ) (to : ℕ) → (pos pc +ℤ by) ≡ pos to → to < 2 ^ 16 → target pc by ≡ to
target_is pc by to is lt = ap offset_of is ∙ least
  where
    least : min to OUTSIDE ≡ to
    least = omega arith

sum_up : (pc to : ℕ) → pc ≤ to → (pos pc +ℤ pos (to - pc)) ≡ pos to
sum_up pc to le = omega (arith, ints)

sum_down : (pc to k : ℕ) → pc ≡ to + suc k → (pos pc +ℤ negsuc k) ≡ pos to
sum_down pc to k is = omega (arith, ints)

negative_16 : (n : ℕ) → 2 ^ 15 ≤ n → cast_signed w16 n ≡ negsuc (2 ^ 16 - suc n)
negative_16 n le = rw (le-ltb n (2 ^ 15) le) refl

negative_32 : (n : ℕ) → 2 ^ 31 ≤ n → cast_signed w32 n ≡ negsuc (2 ^ 32 - suc n)
negative_32 n le = rw (le-ltb n (2 ^ 31) le) refl

pub near_sum : (pc to : ℕ) → to ≤ pc + 32767 → pc ≤ to + 32768 → pc < 2 ^ 16 → to < 2 ^ 16 → (pos pc +ℤ cast_signed w16 ((to + (2 ^ 16 - pc)) % 2 ^ 16)) ≡ pos to
near_sum pc to high low lp lt = go (ltb to pc) refl
  where
    go : (b : Bool) → ltb to pc ≡ b → (pos pc +ℤ cast_signed w16 ((to + (2 ^ 16 - pc)) % 2 ^ 16)) ≡ pos to
    go true is =
        let less : to < pc = ltb-true to pc is in
        let k : ℕ = (pc - to) - 1 in
        let n_is : (to + (2 ^ 16 - pc)) % 2 ^ 16 ≡ 2 ^ 16 - (pc - to) = omega arith in
        let back : 2 ^ 16 - suc (2 ^ 16 - (pc - to)) ≡ k = omega arith in
        ap (λ (n : ℕ). pos pc +ℤ cast_signed w16 n) n_is ∙ ap (λ (z : ℤ). pos pc +ℤ z) (negative_16 (2 ^ 16 - (pc - to)) (omega arith)) ∙ ap (λ (n : ℕ). pos pc +ℤ negsuc n) back ∙ sum_down pc to k (omega arith)
    go false is =
        let le : pc ≤ to = ltb-false to pc is in
        let n_is : (to + (2 ^ 16 - pc)) % 2 ^ 16 ≡ to - pc = omega arith in
        ap (λ (n : ℕ). pos pc +ℤ cast_signed w16 n) n_is ∙ ap (λ (z : ℤ). pos pc +ℤ z) (to_z_pos w16 (to - pc) (omega arith)) ∙ sum_up pc to le

pub far_sum : (pc to : ℕ) → pc < 2 ^ 16 → to < 2 ^ 16 → (pos pc +ℤ cast_signed w32 ((to + (2 ^ 32 - pc)) % 2 ^ 32)) ≡ pos to
far_sum pc to lp lt = go (ltb to pc) refl
  where
    go : (b : Bool) → ltb to pc ≡ b → (pos pc +ℤ cast_signed w32 ((to + (2 ^ 32 - pc)) % 2 ^ 32)) ≡ pos to
    go true is =
        let less : to < pc = ltb-true to pc is in
        let k : ℕ = (pc - to) - 1 in
        let n_is : (to + (2 ^ 32 - pc)) % 2 ^ 32 ≡ 2 ^ 32 - (pc - to) = omega arith in
        let back : 2 ^ 32 - suc (2 ^ 32 - (pc - to)) ≡ k = omega arith in
        ap (λ (n : ℕ). pos pc +ℤ cast_signed w32 n) n_is ∙ ap (λ (z : ℤ). pos pc +ℤ z) (negative_32 (2 ^ 32 - (pc - to)) (omega arith)) ∙ ap (λ (n : ℕ). pos pc +ℤ negsuc n) back ∙ sum_down pc to k (omega arith)
    go false is =
        let le : pc ≤ to = ltb-false to pc is in
        let n_is : (to + (2 ^ 32 - pc)) % 2 ^ 32 ≡ to - pc = omega arith in
        ap (λ (n : ℕ). pos pc +ℤ cast_signed w32 n) n_is ∙ ap (λ (z : ℤ). pos pc +ℤ z) (to_z_pos w32 (to - pc) (omega arith)) ∙ sum_up pc to le

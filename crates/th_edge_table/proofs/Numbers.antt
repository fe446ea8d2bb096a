-- A verdict is read back from its number, and a compare and exchange of numbers is a claim of words.
use Rattle.std.proofs.Common.{◌≡◌, ℕ, ◌+◌, ◌/◌, ◌%◌, ◌<◌, ◌≤◌, ◌≢◌, ◌==◌, Bool, true, false, cond, List, length, set, sym, refl, ap, ◌∙◌, subst, arith, ne_eqb, get_or-set_same, get_or-set_other}
use mathlib.Core.Logic.{dite}
use native.Mathlib.Decide.{ℕ_discrete}
use prog.Atomic.{either}
use Rattle.th_edge_table.specs.declared.word.Kind.{Kind}
use Rattle.th_edge_table.specs.declared.word.Kind.TheVariants.{Refuted, Witnessed, OutOfBudget}
use Rattle.th_edge_table.specs.declared.word.Verdict.{Verdict}
use Rattle.th_edge_table.specs.declared.word.Word.{Word}
use Rattle.th_edge_table.specs.declared.word.Word.TheVariants.{Free, Claimed, Decided}
use Rattle.th_edge_table.specs.Encoding.{kind_number_of, kind_of, number_of, verdict_of, word_of}
use Rattle.th_edge_table.specs.Core.{claim_word}
use Rattle.th_edge_table.specs.Running.{word_in}

kind_back : (k : Kind) → kind_of (kind_number_of k) ≡ k
kind_back Refuted = refl
kind_back Witnessed = refl
kind_back OutOfBudget = refl

kind_positive : (k : Kind) → 1 ≤ kind_number_of k
kind_positive Refuted = omega arith
kind_positive Witnessed = omega arith
kind_positive OutOfBudget = omega arith

pub word_back : (d : Verdict) → d.steps < 4294967296 → word_of (number_of d) ≡ Decided d
word_back d fits =
    let n : ℕ = number_of d in
    let p = kind_positive d.kind in
    let q : n / 4294967296 ≡ kind_number_of d.kind = omega arith in
    let r : n % 4294967296 ≡ d.steps = omega arith in
    let a : (n == 0) ≡ false = ne_eqb n 0 (λ e. absurd (omega arith)) in
    let b : (n == 1) ≡ false = ne_eqb n 1 (λ e. absurd (omega arith)) in
    let f : Bool → Bool → Word = λ x y. cond x Free (cond y Claimed (Decided (verdict_of n))) in
    let s : verdict_of n ≡ d = λ i. record { kind = (ap kind_of q ∙ kind_back d.kind) i; steps = r i } in
    (λ i. f (a i) (b i)) ∙ ap Decided s

not_free : (n : ℕ) → n ≢ 0 → claim_word (word_of n) ≡ word_of n
not_free n h =
    let P : Bool → Type 0 = λ x. claim_word (cond x Free (cond (n == 1) Claimed (Decided (verdict_of n)))) ≡ cond x Free (cond (n == 1) Claimed (Decided (verdict_of n))) in
    subst P (sym (ne_eqb n 0 h)) (other (n == 1))
  where
    other : (b : Bool) → claim_word (cond b Claimed (Decided (verdict_of n))) ≡ cond b Claimed (Decided (verdict_of n))
    other true = refl
    other false = refl

-- a compare and exchange from 0 to 1
pub exchanged : (n : ℕ) → word_of (either (n == 0) 1 n) ≡ claim_word (word_of n)
exchanged n = dite (ℕ_discrete n 0)
    (λ z. let P : ℕ → Type 0 = λ m. word_of (either (m == 0) 1 m) ≡ claim_word (word_of m) in subst P (sym z) refl)
    (λ z. ap (λ (b : Bool). word_of (either b 1 n)) (ne_eqb n 0 z) ∙ sym (not_free n z))

module _ (row : List ℕ) (n e x : ℕ) (wide : length row ≡ n + 1) (within : e < n) where
  -- the word of the edge whose number was written
  pub at_edge : word_in (set row (e + 1) x) e ≡ word_of x
  at_edge = ap word_of (get_or-set_same row (e + 1) x 0 (omega arith))

  -- the words of the other edges
  pub elsewhere : (f : ℕ) → f ≢ e → word_in (set row (e + 1) x) f ≡ word_in row f
  elsewhere f q = ap word_of (get_or-set_other row (e + 1) (f + 1) x 0 (λ s. q (omega arith)))

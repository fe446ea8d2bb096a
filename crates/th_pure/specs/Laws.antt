-- What the definitions of the steps mean: the statements of the laws.
use Rattle.std.specs.Prelude.{◌≡◌, ◌↔◌, ◌⊎◌, ◌≤◌, ◌+◌, ℕ, ℤ, pos, List, [], ◌∷◌, Some, None, All, IsTrue}
use Rattle.th_linear.specs.Forms.{Form, coef}
use Rattle.th_linear.specs.Laws.{IsFact}
use Rattle.th_pure.specs.declared.range.Range.{Range}
use Rattle.th_pure.specs.declared.facts.Outcome.TheVariants.{Remaining}
use Rattle.th_pure.specs.Substitution.{choice_of, solved}
use Rattle.th_pure.specs.Bounds.{variables}
use Rattle.th_pure.specs.Elimination.{IsUpper, IsLower, vanishing}
use Rattle.th_pure.specs.Refutation.{refuted}
use Rattle.th_pure.specs.Solutions.{HaveNoSolution}

-- where the refuter says yes, no integers in the ranges satisfy the facts
abbrev pub RefutedHaveNoSolution : Type 0
RefutedHaveNoSolution = (facts : List Form) (ranges : List Range) → All IsFact facts → IsTrue (refuted facts ranges)
    → HaveNoSolution facts ranges

-- after the rounds no equation has a coefficient 1 or -1
abbrev pub RoundsEnd : Type 0
RoundsEnd = (ranges : List Range) (fs gs : List Form) → solved ranges fs ≡ Remaining gs → choice_of gs ≡ None

-- v is one of the numbers
abbrev pub IsAmong : ℕ → List ℕ → Type 0
IsAmong v [] = ⊥
IsAmong v (w ∷ ws) = (v ≡ w) ⊎ IsAmong v ws

-- v stands in the terms
abbrev pub StandsIn : ℕ → List (ℕ × ℤ) → Type 0
StandsIn v [] = ⊥
StandsIn v (t ∷ ts) = (v ≡ t.0) ⊎ StandsIn v ts

-- v stands in one of the facts
abbrev pub StandsInFact : ℕ → List Form → Type 0
StandsInFact v [] = ⊥
StandsInFact v (f ∷ fs) = StandsIn v f.coefs ⊎ StandsInFact v fs

-- the numbers ascend from `low` on
abbrev pub AreAscending : ℕ → List ℕ → Type 0
AreAscending low [] = Unit {0}
AreAscending low (v ∷ vs) = (low ≤ v) × AreAscending (v + 1) vs

-- the variables of facts ascend, and are exactly those that stand in them
abbrev pub VariablesStand : Type 0
VariablesStand = (fs : List Form) → AreAscending 0 (variables fs) × ((v : ℕ) → IsAmong v (variables fs) ↔ StandsInFact v fs)

-- two facts combined no longer have the variable
abbrev pub VariableVanishes : Type 0
VariableVanishes = (v : ℕ) (a b r : Form) → IsFact a → IsFact b → IsUpper v a → IsLower v b → vanishing v a b ≡ Some r
    → coef v r.coefs ≡ pos 0

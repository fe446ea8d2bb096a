-- How the code stops early: the progress of an elimination, and the answer that it leads to.
use Rattle.std.specs.Prelude.{◌≡◌, ◌<◌, ℕ, List, length, Option}
use Rattle.th_linear.specs.Forms.{Form}
use Rattle.th_linear.specs.declared.fact.Rel.TheVariants.{Le}
use Rattle.th_linear.specs.declared.division.NormalForm.{NormalForm}
use Rattle.th_linear.specs.declared.division.NormalForm.TheVariants.{True, False, Fact}
use Rattle.th_pure.specs.declared.elimination.TheConstants.{FACT_LIMIT}
use Rattle.th_pure.specs.declared.facts.Outcome.{Outcome}
use Rattle.th_pure.specs.declared.facts.Outcome.TheVariants.{Refuted, Undecided, Remaining}
use Rattle.th_pure.specs.declared.products.Progress as progress
use Rattle.th_pure.specs.Outcomes.{and_then}
use Rattle.th_pure.specs.Division.{divided_all}
use Rattle.th_pure.specs.Substitution.{all_made}
use Rattle.th_pure.specs.Elimination.{AreInequalities, put_after, eliminated_all}

-- both outcomes give the same answer, whichever variables are eliminated from then on
abbrev pub AnswerAlike : Outcome → Outcome → Type 0
AnswerAlike o p = (vs : List ℕ) → and_then o (λ gs. eliminated_all vs gs) ≡ and_then p (λ gs. eliminated_all vs gs)

-- the answer that the progress so far leads to, with combinations and then variables to come
abbrev pub answer_after : progress.Progress → List (Option Form) → List ℕ → Outcome
answer_after progress.TheVariants.TooLarge os vs = Undecided
answer_after progress.TheVariants.FoundFalse os vs = and_then (all_made os) (λ _. Refuted)
answer_after (progress.TheVariants.Open kept) os vs =
    and_then (and_then (all_made os) divided_all) (λ new. eliminated_all vs (put_after kept new))

-- further facts are kept
abbrev pub HasRoom : progress.Progress → Type 0
HasRoom progress.TheVariants.TooLarge = ⊥
HasRoom progress.TheVariants.FoundFalse = ⊥
HasRoom (progress.TheVariants.Open kept) = length kept < FACT_LIMIT

-- the facts that are left are inequalities
abbrev pub AreLeft : Outcome → Type 0
AreLeft Refuted = Unit {0}
AreLeft Undecided = Unit {0}
AreLeft (Remaining fs) = AreInequalities fs

-- the facts so far are inequalities
abbrev pub AreOpen : progress.Progress → Type 0
AreOpen progress.TheVariants.TooLarge = Unit {0}
AreOpen progress.TheVariants.FoundFalse = Unit {0}
AreOpen (progress.TheVariants.Open kept) = AreInequalities kept

-- what is left of a fact is an inequality
abbrev pub LeavesInequality : NormalForm → Type 0
LeavesInequality True = Unit {0}
LeavesInequality False = Unit {0}
LeavesInequality (Fact r) = r.rel ≡ Le

-- Outcomes of steps, put one after another.
use Rattle.std.proofs.Common.{◌≡◌, List, [], ◌∷◌, ◌++◌, refl, ap, sym, ◌∙◌, append_assoc}
use Rattle.std.proofs.Common.{ℕ, ◌+◌, ◌<◌, length, drop, get_or}
use Rattle.std.proofs.lemmas.List.{drop_more}
use Rattle.th_linear.specs.Forms.{Form}
use Rattle.th_pure.specs.declared.facts.Outcome.{Outcome}
use Rattle.th_pure.specs.declared.facts.Outcome.TheVariants.{Refuted, Undecided, Remaining}
use Rattle.th_pure.specs.Outcomes.{and_then, facts_before}

pub before_none : (o : Outcome) → o ≡ facts_before [] o
before_none Refuted = refl
before_none Undecided = refl
before_none (Remaining fs) = refl

pub before_both : (fs gs : List Form) (o : Outcome) → facts_before fs (facts_before gs o) ≡ facts_before (fs ++ gs) o
before_both fs gs Refuted = refl
before_both fs gs Undecided = refl
before_both fs gs (Remaining hs) = ap Remaining (sym (append_assoc fs gs hs))

-- an outcome without facts stays
pub ended : (o : Outcome) (step : List Form → Outcome) → ((fs : List Form) → o ≡ Remaining fs → ⊥) → and_then o step ≡ o
ended Refuted step h = refl
ended Undecided step h = refl
ended (Remaining fs) step h = absurd (h fs refl)

-- what is left of a list from a place on
pub drop_read : {X : Type 0} (xs : List X) (i : ℕ) (x : X) → i < length xs → x ≡ get_or xs i x → drop i xs ≡ x ∷ drop (i + 1) xs
drop_read xs i x lt e = drop_more xs i x lt ∙ ap (λ y. y ∷ drop (i + 1) xs) (sym e)

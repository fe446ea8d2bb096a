-- A path read back step by step.
use Rattle.std.proofs.Common.{◌≡◌, ℕ, ◌+◌, ◌<◌, List, [], ◌∷◌, ◌++◌, reverse, length, Option, Some, None, get_or, refl, sym, ap, subst, arith, ◌∙◌, append_assoc}
use Rattle.std.specs.Option.{option_map_or}
use Rattle.std.proofs.lemmas.List.{reverse-append}
use Rattle.std.proofs.lemmas.Option.{get_or_from_slice_get}
use Rattle.th_base.specs.declared.number.EdgeId.{EdgeId}
use Rattle.th_paths.specs.declared.search.Step.{Step}
use Rattle.th_paths.specs.Search.{ArePaths, path_at, path_by, IsBelow}
use Rattle.th_paths.proofs.Places.{get_within}

-- what is read past the end of a list of steps
abbrev pub no_step : Step
no_step = record { edge = record { 0 = 0 }; before = None }

-- the path of a place, if there is one
abbrev pub path_before : List (List EdgeId) → Option ℕ → List EdgeId
path_before paths None = []
path_before paths (Some i) = path_at paths i

path_by_is : (paths : List (List EdgeId)) (before : Option ℕ) (e : EdgeId) → path_by paths before e ≡ path_before paths before ++ e ∷ []
path_by_is paths None e = refl
path_by_is paths (Some i) e = refl

-- the step read at a place
step_is : (steps : List Step) (paths : List (List EdgeId)) (place : ℕ) (d : Step) → ArePaths steps paths → place < length steps
    → path_at paths place ≡ path_before paths (get_or steps place d).before ++ (get_or steps place d).edge ∷ []
step_is steps paths place d p less =
    let at = get_within steps place less in
    let same = get_or_from_slice_get steps place at.0 d at.1 in
    subst (λ s. path_at paths place ≡ path_before paths s.before ++ s.edge ∷ []) (sym same) (p.by place at.0 at.1 ∙ path_by_is paths at.0.before at.0.edge)

pub traced_more : (steps : List Step) (paths : List (List EdgeId)) (at place : ℕ) (d : Step) (read after : List EdgeId) → ArePaths steps paths → place < length steps
    → path_at paths at ≡ path_at paths place ++ reverse read → after ≡ read ++ (get_or steps place d).edge ∷ []
    → path_at paths at ≡ path_before paths (get_or steps place d).before ++ reverse after
traced_more steps paths at place d read after p less was is =
    let step : Step = get_or steps place d in
    let turned : reverse after ≡ step.edge ∷ reverse read = ap reverse is ∙ reverse-append read (step.edge ∷ []) in
    was ∙ ap (λ l. l ++ reverse read) (step_is steps paths place d p less) ∙ append_assoc (path_before paths step.before) (step.edge ∷ []) (reverse read)
    ∙ ap (λ l. path_before paths step.before ++ l) (sym turned)

-- the step before is an earlier one
pub before_below : (steps : List Step) (paths : List (List EdgeId)) (place : ℕ) (d : Step) → ArePaths steps paths → place < length steps → IsBelow (get_or steps place d).before place
before_below steps paths place d p less =
    let at = get_within steps place less in
    subst (λ s. IsBelow s.before place) (sym (get_or_from_slice_get steps place at.0 d at.1)) (p.earlier place at.0 at.1)

pub below_within : (before : Option ℕ) (place n : ℕ) → place < n → IsBelow before place → IsBelow before n
below_within None place n less below = tt
below_within (Some i) place n less below = omega arith

pub below_smaller : (before : Option ℕ) (place : ℕ) → IsBelow before place → option_map_or (λ i. i + 1) before 0 < place + 1
below_smaller None place below = omega arith
below_smaller (Some i) place below = omega arith

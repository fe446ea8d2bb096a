-- What contracts see of a solver.
use Rattle.std.specs.Prelude.{◌≡◌, ◌⊎◌, ◌<◌, ◌≤◌, ℕ, ◌+◌, true, false, List, [], ◌∷◌, ◌++◌, replicate}
use Rattle.th_base.specs.IdSet.{has}
use Rattle.th_incl.specs.Least.{set_at}
use Rattle.th_incl.specs.declared.constraints.Inclusion.{Inclusion}
use Rattle.th_incl.specs.declared.constraints.Constraints.{Constraints}

-- the constraints in the order of adding, the sets as the last run left them, and those that grew
-- since they were last asked for
pub record SolverView : Type 0 where
  pub constraints : Constraints
  pub sets : List (List ℕ)
  pub grown : List ℕ

-- no constraints yet, and empty sets
abbrev pub opening : ℕ → List (List ℕ) → SolverView
opening sets filters = record {
  constraints = record { sets = sets; base = []; copies = []; filters = filters };
  sets = replicate sets [];
  grown = [];
}

-- more sets, which are empty
abbrev pub with_sets : SolverView → ℕ → SolverView
with_sets v more = record v {
  constraints = record v.constraints { sets = v.constraints.sets + more };
  sets = v.sets ++ replicate more [];
}

-- a set that isn't among those that grew is as it was, and each that was among them still is
pub record Grows (sets : List (List ℕ)) (grown : List ℕ) (sets' : List (List ℕ)) (grown' : List ℕ) : Type 0 where
  pub stays : (i : ℕ) → has grown i ≡ true → has grown' i ≡ true
  pub others : (i : ℕ) → has grown' i ≡ false → set_at sets' i ≡ set_at sets i

-- where a set came to be among those that grew, there are more pairs than before
pub record TellsGrowth (grown : List ℕ) (pairs : ℕ) (grown' : List ℕ) (pairs' : ℕ) : Type 0 where
  pub more : pairs ≤ pairs'
  pub told : (grown' ≡ grown) ⊎ (pairs < pairs')

-- one base pair more
abbrev pub with_base : SolverView → ℕ → ℕ → SolverView
with_base v i x = record v { constraints = record v.constraints { base = v.constraints.base ++ (i, x) ∷ [] } }

-- one inclusion more
abbrev pub with_copy : SolverView → Inclusion → SolverView
with_copy v j = record v { constraints = record v.constraints { copies = v.constraints.copies ++ j ∷ [] } }

-- several base pairs more, and several inclusions
abbrev pub with_bases : SolverView → List (ℕ × ℕ) → SolverView
with_bases v pairs = record v { constraints = record v.constraints { base = v.constraints.base ++ pairs } }

abbrev pub with_copies : SolverView → List Inclusion → SolverView
with_copies v copies = record v { constraints = record v.constraints { copies = v.constraints.copies ++ copies } }

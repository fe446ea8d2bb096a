-- A small system of inclusions, and its solution.
use Rattle.std.specs.Prelude.{ℕ, List, [], ◌∷◌}
use Rattle.th_incl.specs.declared.constraints.Constraints.{Constraints}

-- 5 and 6 are in set 0; what the filter {5} passes goes from 0 to 1, and what {5, 6} passes between 1
-- and 2, to and fro
abbrev pub small_system : Constraints
small_system = record {
  sets = 3;
  base = (0, 5) ∷ (0, 6) ∷ [];
  copies = record { from = 0; to = 1; filter = 0 } ∷ record { from = 1; to = 2; filter = 1 } ∷ record { from = 2; to = 1; filter = 1 } ∷ [];
  filters = (5 ∷ []) ∷ (5 ∷ 6 ∷ []) ∷ [];
}

abbrev pub small_solution : List (List ℕ)
small_solution = (5 ∷ 6 ∷ []) ∷ (5 ∷ []) ∷ (5 ∷ []) ∷ []

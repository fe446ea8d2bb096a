-- Private to the visit: the offsets that a visit of a method's code has come to.
use Rattle.std.specs.Prelude.{ℕ, ◌≡◌, ◌<◌, ◌+◌, ◌||◌, true, Bool, List, [], ◌++◌, length, nat_eq, slice_get, slice_index, Some, option_to_list}
use Rattle.std.specs.List.{list_any}
use Rattle.std.specs.Option.{option_map, option_map_or}
use Rattle.th_syntax.specs.declared.instr.Instr.{Instr}
use Rattle.th_syntax.specs.Flow.{IsReached, placed_at, successors_of, leads_to}

abbrev pub knows : List ℕ → ℕ → Bool
knows xs x = list_any (nat_eq x) xs

-- numbers are added behind those that are there, where they are new
pub record Adds (old new more : List ℕ) : Type 0 where
  pub rest : List ℕ
  pub front : new ≡ old ++ rest
  pub members : (x : ℕ) → knows new x ≡ (knows old x || knows more x)

-- where the instruction at a place leads
abbrev pub leads_from : List (ℕ × Instr) → ℕ → List ℕ
leads_from instrs place =
    option_map_or (λ i. leads_to (option_to_list (option_map (λ j. j.0) (slice_get instrs (place + 1)))) i.1) (slice_get instrs place) []

-- what is found is reached, and so is what the first ones of it lead to found
pub record IsVisit (instrs : List (ℕ × Instr)) (at : ℕ) (found : List ℕ) : Type 0 where
  pub begun : knows found 0 ≡ true
  pub sound : (x : ℕ) → knows found x ≡ true → IsReached instrs x
  pub closed : (k : ℕ) → k < at → k < length found → (i : ℕ × Instr) → placed_at instrs (slice_index found k) ≡ Some i
      → (x : ℕ) → knows (successors_of instrs i) x ≡ true → knows found x ≡ true

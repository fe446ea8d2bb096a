-- What is said of the sets of one part, and how they make up a summary.
use Rattle.std.specs.Prelude.{ℕ, ◌+◌, ◌≡◌, ◌<◌, Bool, true, false, List, [], ◌∷◌, length, map, Some, Contains}
use Rattle.th_base.specs.IdSet.{has}
use Rattle.th_incl.specs.declared.constraints.Constraints.{Constraints}
use Rattle.th_incl.specs.declared.constraints.Inclusion.{Inclusion}
use Rattle.th_incl.specs.Least.{IsLeast, set_at}
use Rattle.th_ir.specs.declared.facts.Mods.{Mods}
use Rattle.th_ir.specs.declared.program.Node.{Node}
use Rattle.th_ir.specs.declared.program.RegProgram.{RegProgram}
use Rattle.th_ir.specs.Program.{node_at}
use Rattle.th_mod.specs.Systems.{numbers_below}

-- each node is of a method of the program
abbrev pub NodesHaveMethods : RegProgram → Type 0
NodesHaveMethods p = (n : ℕ) (node : Node) → node_at p n ≡ Some node → node.method.0 < length p.methods

abbrev pub system_of : ℕ → List (ℕ × ℕ) → List Inclusion → List ℕ → Constraints
system_of sets base copies passing = record { sets = sets; base = base; copies = copies; filters = passing ∷ [] }

-- the least sets of base pairs and inclusions, through a filter that every number of a base pair passes
pub record AreTold (sets : ℕ) (base : List (ℕ × ℕ)) (copies : List Inclusion) (told : List (List ℕ)) : Type 0 where
  pub passing : List ℕ
  pub passes : (i x : ℕ) → Contains base (i, x) → has passing x ≡ true
  pub least : IsLeast (system_of sets base copies passing) told

abbrev pub is_filled : List ℕ → Bool
is_filled [] = false
is_filled (x ∷ xs) = true

-- one summary, of the sets at a place
abbrev pub mods_at : List (List ℕ) → List (List ℕ) → List (List ℕ) → List (List ℕ) → ℕ → Mods
mods_at fields statics elements sites i = record {
  fields = set_at fields i;
  statics = set_at statics i;
  elements = is_filled (set_at elements i);
  sites = set_at sites i;
}

-- the summaries of the sets from a place on, so many
abbrev pub gathered : ℕ → ℕ → List (List ℕ) → List (List ℕ) → List (List ℕ) → List (List ℕ) → List Mods
gathered first count fields statics elements sites = map (λ m. mods_at fields statics elements sites (first + m)) (numbers_below count)

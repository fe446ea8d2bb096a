use Rattle.std.proofs.Common.{◌≡◌, List, ℕ, take}
use Rattle.std.specs.Str.{bytes_eq}
use Rattle.indexmap.specs.IndexMap.{get_by}
use Rattle.th_linker.specs.Named.{first_named}
use Rattle.th_linker.proofs.named.names_of.Given as goal

-- the classes so far stand in the table
abbrev pub invariant-loop-number : goal.invariant-loop-number
invariant-loop-number l = (name : List ℕ) → get_by (λ k. bytes_eq name k.now) l.names ≡ first_named (take l.number l.classes) name

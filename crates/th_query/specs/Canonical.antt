-- The canonical form of a query: six steps, one after the other.
use Rattle.std.specs.Prelude.{◌≡◌, List}
use Rattle.th_base.specs.declared.class.ClassInfo.{ClassInfo}
use Rattle.th_ir.specs.declared.plan.Plan.{Plan}
use Rattle.th_ir.specs.declared.program.RegProgram.{RegProgram}
use Rattle.th_ir.specs.FactSets.{FactSets, sets_of}
use Rattle.th_query.specs.declared.query.Query.{Query}
use Rattle.th_query.specs.Unified.{IsUnified}
use Rattle.th_query.specs.Narrowed.{IsNarrowed}
use Rattle.th_query.specs.Settled.{pruned, settled, limited}
use Rattle.th_query.specs.Numbered.{numbered}

-- r is what the steps make of q
pub record IsMadeCanonical (h : List ClassInfo) (p : RegProgram) (t : FactSets) (q r : Query) : Type 0 where
  pub unified : Query
  pub narrowed : Query
  pub first : IsUnified q unified
  pub second : IsNarrowed h p t unified narrowed
  pub is : r ≡ numbered (limited (settled (pruned narrowed)))

-- the canonical form of q, by a plan
abbrev pub IsCanonicalOf : Plan → Query → Query → Type 0
IsCanonicalOf plan q r = IsMadeCanonical plan.hierarchy plan.program (sets_of plan.facts) q r

-- a query is canonical where the steps give it back
abbrev pub IsCanonical : Plan → Query → Type 0
IsCanonical plan q = IsCanonicalOf plan q q

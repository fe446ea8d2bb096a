-- The query with which the search for an edge starts at a producer.
use Rattle.std.specs.Prelude.{ℕ, ◌≡◌, ◌==◌, false, List, [], ◌∷◌, map, Option, None, Some, if◌then◌else◌}
use Rattle.std.specs.Option.{option_and_then}
use Rattle.th_base.specs.declared.number.FieldId.{FieldId}
use Rattle.th_base.specs.declared.number.Reg.{Reg}
use Rattle.th_ir.specs.declared.graph.Edge.{Edge}
use Rattle.th_ir.specs.declared.graph.Edge.TheVariants.{Static, Field, Element}
use Rattle.th_ir.specs.declared.graph.Producer.{Producer}
use Rattle.th_ir.specs.declared.graph.Producer.TheVariants.{Node as StoreAt, Constant}
use Rattle.th_ir.specs.declared.program.RegProgram.{RegProgram}
use Rattle.th_ir.specs.declared.stmt.Stmt.{Stmt}
use Rattle.th_ir.specs.declared.stmt.Stmt.TheVariants.{PutStatic, PutField, PutElem}
use Rattle.th_ir.specs.declared.plan.Plan.{Plan}
use Rattle.th_ir.specs.Program.{node_at}
use Rattle.th_query.specs.declared.query.Sym.{Sym}
use Rattle.th_query.specs.declared.query.Sym.TheVariants.{Ref}
use Rattle.th_query.specs.declared.query.Query.{Query}
use Rattle.th_query.specs.Canonical.{IsCanonicalOf}

-- the nodes of a query's frames; none where it is idle
abbrev pub place_of : Query → List ℕ
place_of q = map (λ f. f.node.0) q.frames

-- an object of this site
abbrev pub object_of : ℕ → Sym
object_of site = Ref false (site ∷ [])

-- registers at a node, with their symbols
abbrev pub query_at : ℕ → List (Reg × ℕ) → List Sym → Query
query_at n regs syms = record {
  frames = record { node = record { 0 = n }; regs = regs } ∷ [];
  statics = [];
  cells = [];
  elems = [];
  syms = syms;
  diffs = [];
  facts = [];
}

-- the base holds an object of the first site, the source one of the last; one register in both places
-- an object of the sites in common
abbrev pub stores : ℕ → Reg → Reg → ℕ → ℕ → Query
stores n base src first last =
    if base.0 == src.0
    then query_at n ((base, 0) ∷ []) ((if first == last then object_of first else Ref false []) ∷ [])
    else query_at n ((base, 0) ∷ (src, 1) ∷ []) (object_of first ∷ object_of last ∷ [])

-- the query at a store, for an edge that the store gives
abbrev pub start_at : ℕ → Stmt → Edge → Option Query
start_at n (PutStatic f src) (Static g x) = Some (query_at n ((src, 0) ∷ []) (object_of x.0 ∷ []))
start_at n (PutField base f src) (Field x g y) = Some (stores n base src x.0 y.0)
start_at n (PutElem array src) (Element x y) = Some (stores n array src x.0 y.0)
start_at n _ _ = None

-- an idle query: the static field holds the String constant of the site
abbrev pub start_idle : FieldId → Edge → Option Query
start_idle f (Static g x) = Some record {
  frames = [];
  statics = (f, 0) ∷ [];
  cells = [];
  elems = [];
  syms = object_of x.0 ∷ [];
  diffs = [];
  facts = [];
}
start_idle f (Field x g y) = None
start_idle f (Element x y) = None

abbrev pub start_of : RegProgram → Edge → Producer → Option Query
start_of p e (StoreAt n) = option_and_then (λ node. start_at n.0 node.stmt e) (node_at p n.0)
start_of p e (Constant f) = start_idle f e

-- the start query of a producer of an edge is the canonical form of this one
pub record IsStart (plan : Plan) (e : Edge) (x : Producer) (q : Query) : Type 0 where
  pub raw : Query
  pub starts : start_of plan.program e x ≡ Some raw
  pub canonical : IsCanonicalOf plan raw q

-- Well-formed queries over a plan.
use Rattle.std.specs.Prelude.{ℕ, ◌+◌, ◌<◌, ◌≤◌, ◌≡◌, ◌==◌, ◌||◌, ⊤, Bool, true, List, [], ◌∷◌, length, Some, sum, map, if◌then◌else◌}
use Rattle.th_base.specs.declared.class.ClassInfo.{ClassInfo}
use Rattle.th_base.specs.declared.number.FieldId.{FieldId}
use Rattle.th_base.specs.declared.number.Reg.{Reg}
use Rattle.th_base.specs.IdSet.{has, IsAscending}
use Rattle.th_linear.specs.Forms.{Form}
use Rattle.th_linear.specs.Laws.{IsFact}
use Rattle.th_ir.specs.declared.plan.Plan.{Plan}
use Rattle.th_ir.specs.declared.program.RegProgram.{RegProgram}
use Rattle.th_ir.specs.declared.program.Node.{Node}
use Rattle.th_ir.specs.Program.{Among, node_at, is_ref}
use Rattle.th_ir.specs.Fields.{length_field, is_ref_field, is_static_field, is_instance_field}
use Rattle.th_ir.specs.FactSets.{FactSets, sets_of}
use Rattle.th_ir.specs.Good.{Waits}
use Rattle.th_ir.specs.WellFormed.{Uses}
use Rattle.th_query.specs.declared.query.TheConstants.{MOST_FRAMES, MOST_REGISTERS, MOST_STATICS, MOST_LINKS, MOST_DIFFERENCES, MOST_FACTS}
use Rattle.th_query.specs.declared.query.Frame.{Frame}
use Rattle.th_query.specs.declared.query.Cell.{Cell}
use Rattle.th_query.specs.declared.query.Element.{Element}
use Rattle.th_query.specs.declared.query.Sym.{Sym}
use Rattle.th_query.specs.declared.query.Sym.TheVariants.{Ref, Int, Carry}
use Rattle.th_query.specs.declared.query.Query.{Query}
use Rattle.th_query.specs.Symbols.{symbol_at, is_ref_symbol, is_int_symbol, is_number_symbol}

-- ---- kinds

abbrev pub IsRef : Query → ℕ → Type 0
IsRef q s = is_ref_symbol (symbol_at q s) ≡ true

abbrev pub IsNumber : Query → ℕ → Type 0
IsNumber q s = is_number_symbol (symbol_at q s) ≡ true

-- the symbol is what a place of references, or of ints, needs
abbrev pub Fits : Query → Bool → ℕ → Type 0
Fits q ref s = (if ref then is_ref_symbol (symbol_at q s) else is_int_symbol (symbol_at q s)) ≡ true

-- ---- frames

-- a frame stands at a node, and each register is one of the node's method, with a symbol of its kind
pub record IsFrameOf (p : RegProgram) (q : Query) (f : Frame) : Type 0 where
  pub node : Node
  pub stands : node_at p f.node.0 ≡ Some node
  pub own : (x : Reg × ℕ) → Among f.regs x → Uses p node.method.0 x.0.0
  pub kinds : (x : Reg × ℕ) → Among f.regs x → Fits q (is_ref p x.0.0) x.1

-- the outer frame stands at a Call that may call, or an Init that may enter, the method of the inner one
pub record WaitsFor (h : List ClassInfo) (p : RegProgram) (t : FactSets) (outer inner : Frame) : Type 0 where
  pub node : Node
  pub stands : node_at p outer.node.0 ≡ Some node
  pub callee : Node
  pub within : node_at p inner.node.0 ≡ Some callee
  pub waits : Waits h p t outer.node.0 node.stmt callee.method.0

abbrev pub AreNested : List ClassInfo → RegProgram → FactSets → List Frame → Type 0
AreNested h p t [] = ⊤
AreNested h p t (f ∷ []) = ⊤
AreNested h p t (f ∷ g ∷ fs) = WaitsFor h p t g f × AreNested h p t (g ∷ fs)

-- ---- facts

pub record IsStaticOf (h : List ClassInfo) (q : Query) (x : FieldId × ℕ) : Type 0 where
  pub static : is_static_field h x.0.0 ≡ true
  pub kind : Fits q (is_ref_field h x.0.0) x.1

-- the field belongs to instances, or is LENGTH, which holds an int
pub record IsCellOf (h : List ClassInfo) (q : Query) (c : Cell) : Type 0 where
  pub field : (is_instance_field h c.field.0 || c.field.0 == length_field) ≡ true
  pub base : IsRef q c.base
  pub kind : Fits q (is_ref_field h c.field.0) c.value

-- a linear fact is one of numbers alone; its variables ascend, no coefficient is 0, and magnitudes are
-- below 2^62
pub record IsFactOf (q : Query) (f : Form) : Type 0 where
  pub form : IsFact f
  pub numbers : (x : ℕ) → Among (map (λ t. t.0) f.coefs) x → IsNumber q x

-- from-sets ascend and have sites of the program
abbrev pub IsSymbolOf : RegProgram → Sym → Type 0
IsSymbolOf p (Ref null sites) = IsAscending sites × ((a : ℕ) → has sites a ≡ true → a < length p.sites)
IsSymbolOf p Int = ⊤
IsSymbolOf p Carry = ⊤

-- ---- the whole

-- a query over a program, well formed but for its limits on facts
pub record IsQueryOf (h : List ClassInfo) (p : RegProgram) (t : FactSets) (q : Query) : Type 0 where
  pub few : length q.frames ≤ MOST_FRAMES
  pub frames : (f : Frame) → Among q.frames f → IsFrameOf p q f
  pub nested : AreNested h p t q.frames
  pub statics : (x : FieldId × ℕ) → Among q.statics x → IsStaticOf h q x
  pub cells : (c : Cell) → Among q.cells c → IsCellOf h q c
  pub arrays : (e : Element) → Among q.elems e → IsRef q e.array
  pub elements : (e : Element) → Among q.elems e → IsRef q e.value
  pub diffs : (d : ℕ × ℕ) → Among q.diffs d → IsRef q d.0 × IsRef q d.1
  pub facts : (f : Form) → Among q.facts f → IsFactOf q f
  pub symbols : (s : ℕ) (x : Sym) → symbol_at q s ≡ Some x → IsSymbolOf p x

-- the limits on facts
pub record IsWithinLimits (q : Query) : Type 0 where
  pub registers : sum (map (λ f. length f.regs) q.frames) ≤ MOST_REGISTERS
  pub statics : length q.statics ≤ MOST_STATICS
  pub links : length q.cells + length q.elems ≤ MOST_LINKS
  pub diffs : length q.diffs ≤ MOST_DIFFERENCES
  pub facts : length q.facts ≤ MOST_FACTS

-- a well-formed query of a plan
pub record IsWellFormedQuery (plan : Plan) (q : Query) : Type 0 where
  pub formed : IsQueryOf plan.hierarchy plan.program (sets_of plan.facts) q
  pub limits : IsWithinLimits q

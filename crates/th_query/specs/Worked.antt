-- Small queries, with what the definitions make of them, worked out by hand.
use Rattle.std.specs.Prelude.{ℕ, true, false, ℤ, pos, negsuc, List, [], ◌∷◌}
use Rattle.th_base.specs.declared.number.FieldId.{FieldId}
use Rattle.th_base.specs.declared.number.Reg.{Reg}
use Rattle.th_linear.specs.Forms.{Form}
use Rattle.th_linear.specs.declared.fact.Rel.{Rel}
use Rattle.th_linear.specs.declared.fact.Rel.TheVariants.{Eq, Le, Ne}
use Rattle.th_ir.specs.declared.program.RegProgram.{RegProgram}
use Rattle.th_query.specs.declared.query.Cell.{Cell}
use Rattle.th_query.specs.declared.query.Element.{Element}
use Rattle.th_query.specs.declared.query.Frame.{Frame}
use Rattle.th_query.specs.declared.query.Sym.{Sym}
use Rattle.th_query.specs.declared.query.Sym.TheVariants.{Ref, Int}
use Rattle.th_query.specs.declared.query.Query.{Query}

-- ---- parts

abbrev pub reg : ℕ → ℕ → Reg × ℕ
reg r s = (record { 0 = r }, s)

abbrev pub static : ℕ → ℕ → FieldId × ℕ
static f s = (record { 0 = f }, s)

abbrev pub cell : ℕ → ℕ → ℕ → Cell
cell base f value = record { base = base; field = record { 0 = f }; value = value }

abbrev pub element : ℕ → ℕ → Element
element array value = record { array = array; value = value }

abbrev pub frame : ℕ → List (Reg × ℕ) → Frame
frame n regs = record { node = record { 0 = n }; regs = regs }

abbrev pub fact : List (ℕ × ℤ) → ℤ → Rel → Form
fact terms constant rel = record { coefs = terms; constant = constant; rel = rel }

-- an object of one of the sites, or null
abbrev pub some : List ℕ → Sym
some sites = Ref true sites

-- an object of one of the sites
abbrev pub sure : List ℕ → Sym
sure sites = Ref false sites

abbrev pub idle : List Sym → Query
idle syms = record { frames = []; statics = []; cells = []; elems = []; syms = syms; diffs = []; facts = [] }

-- ---- step 1

-- a register and a field of one object twice: symbols 1 and 2 are one, and so are 0 and 3
abbrev pub doubled : Query
doubled = record {
  frames = frame 7 (reg 1 2 ∷ reg 1 1 ∷ reg 2 3 ∷ []) ∷ [];
  statics = static 4 3 ∷ static 4 0 ∷ [];
  cells = cell 1 5 0 ∷ cell 2 5 3 ∷ cell 2 6 3 ∷ [];
  elems = element 2 3 ∷ element 1 0 ∷ [];
  syms = some (1 ∷ 2 ∷ 3 ∷ []) ∷ some (4 ∷ 5 ∷ []) ∷ sure (5 ∷ 6 ∷ []) ∷ some (2 ∷ 3 ∷ 4 ∷ []) ∷ Int ∷ [];
  diffs = (3, 2) ∷ [];
  facts = fact ((4, pos 1) ∷ []) (pos 0) Le ∷ [];
}

abbrev pub doubled_names : List ℕ
doubled_names = 0 ∷ 1 ∷ 1 ∷ 0 ∷ 4 ∷ []

abbrev pub doubled_unified : Query
doubled_unified = record {
  frames = frame 7 (reg 1 1 ∷ reg 2 0 ∷ []) ∷ [];
  statics = static 4 0 ∷ [];
  cells = cell 1 5 0 ∷ cell 1 6 0 ∷ [];
  elems = element 1 0 ∷ element 1 0 ∷ [];
  syms = some (2 ∷ 3 ∷ []) ∷ sure (5 ∷ []) ∷ sure (5 ∷ 6 ∷ []) ∷ some (2 ∷ 3 ∷ 4 ∷ []) ∷ Int ∷ [];
  diffs = (0, 1) ∷ [];
  facts = fact ((4, pos 1) ∷ []) (pos 0) Le ∷ [];
}

-- ---- steps 3 and 4

-- 2 s - 4 = 0 twice, 0 = 0, 1 <= 0, and the same difference in both orders; nothing names symbol 3
abbrev pub unsettled : Query
unsettled = record {
  frames = [];
  statics = static 0 0 ∷ static 1 1 ∷ [];
  cells = [];
  elems = [];
  syms = some [] ∷ some [] ∷ Int ∷ some [] ∷ [];
  diffs = (1, 0) ∷ (0, 3) ∷ (0, 1) ∷ [];
  facts = fact ((2, pos 2) ∷ []) (negsuc 3) Eq ∷ fact [] (pos 0) Eq ∷ fact [] (pos 1) Le ∷ fact ((2, pos 1) ∷ []) (negsuc 1) Eq ∷ [];
}

abbrev pub unsettled_pruned : List (ℕ × ℕ)
unsettled_pruned = (1, 0) ∷ (0, 1) ∷ []

abbrev pub unsettled_diffs : List (ℕ × ℕ)
unsettled_diffs = (1, 0) ∷ []

abbrev pub unsettled_facts : List Form
unsettled_facts = fact ((2, pos 1) ∷ []) (negsuc 1) Eq ∷ fact [] (pos 1) Eq ∷ []

-- ---- step 5

abbrev pub two_frames : List Frame
two_frames = frame 1 (reg 5 0 ∷ reg 4 1 ∷ []) ∷ frame 2 (reg 3 2 ∷ reg 2 3 ∷ []) ∷ []

abbrev pub three_registers : List Frame
three_registers = frame 1 (reg 5 0 ∷ reg 4 1 ∷ []) ∷ frame 2 (reg 3 2 ∷ []) ∷ []

-- ---- step 6

-- symbol 6 is a reference that nothing names; symbol 7 stands in a linear fact alone
abbrev pub unnumbered : Query
unnumbered = record {
  frames = frame 9 (reg 2 3 ∷ reg 1 5 ∷ []) ∷ [];
  statics = static 8 3 ∷ static 1 4 ∷ [];
  cells = cell 4 9 3 ∷ cell 5 7 1 ∷ cell 5 6 0 ∷ [];
  elems = element 0 2 ∷ [];
  syms = some (0 ∷ []) ∷ some (1 ∷ []) ∷ some (2 ∷ []) ∷ some (3 ∷ []) ∷ some (4 ∷ []) ∷ some (5 ∷ []) ∷ some (6 ∷ []) ∷ Int ∷ [];
  diffs = (3, 5) ∷ (5, 4) ∷ [];
  facts = fact ((7, pos 3) ∷ []) (pos 2) Ne ∷ [];
}

abbrev pub unnumbered_numbered : Query
unnumbered_numbered = record {
  frames = frame 9 (reg 1 0 ∷ reg 2 1 ∷ []) ∷ [];
  statics = static 1 2 ∷ static 8 1 ∷ [];
  cells = cell 0 6 3 ∷ cell 0 7 4 ∷ cell 2 9 1 ∷ [];
  elems = element 3 5 ∷ [];
  syms = some (5 ∷ []) ∷ some (3 ∷ []) ∷ some (4 ∷ []) ∷ some (0 ∷ []) ∷ some (1 ∷ []) ∷ some (2 ∷ []) ∷ Int ∷ [];
  diffs = (0, 1) ∷ (0, 2) ∷ [];
  facts = fact ((6, pos 3) ∷ []) (pos 2) Ne ∷ [];
}

-- ---- contradictions

abbrev pub with_difference : Sym → Sym → ℕ × ℕ → Query
with_difference x y d = record (idle (x ∷ y ∷ [])) { statics = static 0 0 ∷ static 1 1 ∷ []; diffs = d ∷ [] }

-- a number that is at least 5 and at most the given one
abbrev pub between : Sym → ℤ → Query
between x most =
    record (idle (x ∷ [])) { facts = fact ((0, negsuc 0) ∷ []) (pos 5) Le ∷ fact ((0, pos 1) ∷ []) most Le ∷ [] }

-- ---- subsumption

-- a static field holds an object of one of the sites
abbrev pub holding : List ℕ → Query
holding sites = record (idle (sure sites ∷ [])) { statics = static 3 0 ∷ [] }

-- two objects have a value in field 5; with a difference or without
abbrev pub two_holders : List Sym → List (ℕ × ℕ) → Query
two_holders syms diffs = record (idle syms) { cells = cell 0 5 1 ∷ cell 2 5 1 ∷ []; diffs = diffs }

-- s - t <= 0 of two static fields
abbrev pub ordered : ℕ → ℕ → Query
ordered s t = record (idle (Int ∷ Int ∷ [])) { statics = static 3 0 ∷ static 4 1 ∷ []; facts = fact ((s, pos 1) ∷ (t, negsuc 0) ∷ []) (pos 0) Le ∷ [] }

-- at a node, with nothing said
abbrev pub at_node : ℕ → Query
at_node n = record (idle []) { frames = frame n [] ∷ [] }

-- ---- the initial state

-- static field 3 holds 7, static field 4 the String constant of site 2
abbrev pub constants : RegProgram
constants = record {
  methods = [];
  nodes = [];
  sites = [];
  harness = [];
  refs = [];
  ints = (record { 0 = 3 }, pos 7) ∷ [];
  strings = (record { 0 = 4 }, record { 0 = 2 }) ∷ [];
}

-- a static field holds an int that is the given one
abbrev pub int_is : ℕ → ℤ → Query
int_is f z = record (idle (Int ∷ [])) { statics = static f 0 ∷ []; facts = fact ((0, pos 1) ∷ []) z Eq ∷ [] }

abbrev pub object_is : ℕ → Sym → Query
object_is f x = record (idle (x ∷ [])) { statics = static f 0 ∷ [] }

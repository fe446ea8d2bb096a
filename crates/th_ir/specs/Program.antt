-- What is looked up in a program in register form: its methods, nodes, sites and registers, each by
-- its number.
use Rattle.std.specs.Prelude.{ℕ, ◌+◌, ◌≡◌, ◌==◌, nat_lt, ⊤, Bool, true, false, List, [], ◌∷◌, ◌++◌, map, flat_map, Option, None, Some, slice_get, option_to_list, if◌then◌else◌}
use Rattle.std.specs.List.{list_any}
use Rattle.th_base.specs.declared.number.NodeId.{NodeId}
use Rattle.th_base.specs.declared.number.Reg.{Reg}
use Rattle.th_base.specs.IdSet.{has}
use Rattle.th_ir.specs.declared.program.RegProgram.{RegProgram}
use Rattle.th_ir.specs.declared.program.Method.{Method}
use Rattle.th_ir.specs.declared.program.Node.{Node}
use Rattle.th_ir.specs.declared.program.Site.{Site}
use Rattle.th_ir.specs.declared.stmt.Condition.{Condition}
use Rattle.th_ir.specs.declared.stmt.Condition.TheVariants.{Ints, SameRef, OtherRef, IsNull, NotNull, Key, NoKey}
use Rattle.th_ir.specs.declared.stmt.Stmt.{Stmt}
use Rattle.th_ir.specs.declared.stmt.Stmt.TheVariants.{Nop, Const, Null, Str, Copy, Arith, Neg, AddConst, Narrow, AnyInt, Assume, GetStatic, PutStatic, GetField, PutField, GetElem, PutElem, Length, New, NewArray, Cast, InstanceOf, Call, Init, Return, Pick, NonNull, Halt}

-- x stands somewhere in the list
abbrev pub Among : {X : Type 0} → List X → X → Type 0
Among xs x = (k : ℕ) × (slice_get xs k ≡ Some x)

-- no number stands twice
abbrev pub AreDistinct : List ℕ → Type 0
AreDistinct [] = ⊤
AreDistinct (x ∷ xs) = (has xs x ≡ false) × AreDistinct xs

-- ---- methods, nodes, sites

abbrev pub method_at : RegProgram → ℕ → Option Method
method_at p m = slice_get p.methods m

abbrev pub node_at : RegProgram → ℕ → Option Node
node_at p n = slice_get p.nodes n

abbrev pub site_at : RegProgram → ℕ → Option Site
site_at p s = slice_get p.sites s

-- the method is one of the harness
abbrev pub is_harness : RegProgram → ℕ → Bool
is_harness p m = list_any (λ x. x.0 == m) p.harness

-- ---- registers

-- the register holds references; others hold ints
abbrev pub is_ref : RegProgram → ℕ → Bool
is_ref p r = has p.refs r

-- the registers that a statement sets
abbrev pub registers_set : Stmt → List Reg
registers_set Nop = []
registers_set (Const dst n) = dst ∷ []
registers_set (Null dst) = dst ∷ []
registers_set (Str dst site) = dst ∷ []
registers_set (Copy pairs) = map (λ m. m.0) pairs
registers_set (Arith dst op a b) = dst ∷ []
registers_set (Neg dst a) = dst ∷ []
registers_set (AddConst dst a n) = dst ∷ []
registers_set (Narrow dst op a) = dst ∷ []
registers_set (AnyInt dst) = dst ∷ []
registers_set (Assume condition) = []
registers_set (GetStatic dst f) = dst ∷ []
registers_set (PutStatic f src) = []
registers_set (GetField dst base f) = dst ∷ []
registers_set (PutField base f src) = []
registers_set (GetElem dst array kind) = dst ∷ []
registers_set (PutElem array src) = []
registers_set (Length dst array) = dst ∷ []
registers_set (New dst site) = dst ∷ []
registers_set (NewArray dst site count) = dst ∷ []
registers_set (Cast dst src class) = dst ∷ []
registers_set (InstanceOf dst src class) = dst ∷ []
registers_set (Call dst kind m args) = option_to_list dst
registers_set (Init c) = []
registers_set (Return src) = []
registers_set (Pick dst c) = dst ∷ []
registers_set (NonNull src) = []
registers_set Halt = []

-- the registers that a condition asks
abbrev pub registers_asked : Condition → List Reg
registers_asked (Ints relation a b) = a ∷ option_to_list b
registers_asked (SameRef a b) = a ∷ b ∷ []
registers_asked (OtherRef a b) = a ∷ b ∷ []
registers_asked (IsNull a) = a ∷ []
registers_asked (NotNull a) = a ∷ []
registers_asked (Key a n) = a ∷ []
registers_asked (NoKey a ns) = a ∷ []

-- the registers that a statement reads
abbrev pub registers_read : Stmt → List Reg
registers_read Nop = []
registers_read (Const dst n) = []
registers_read (Null dst) = []
registers_read (Str dst site) = []
registers_read (Copy pairs) = map (λ m. m.1) pairs
registers_read (Arith dst op a b) = a ∷ b ∷ []
registers_read (Neg dst a) = a ∷ []
registers_read (AddConst dst a n) = a ∷ []
registers_read (Narrow dst op a) = a ∷ []
registers_read (AnyInt dst) = []
registers_read (Assume condition) = registers_asked condition
registers_read (GetStatic dst f) = []
registers_read (PutStatic f src) = src ∷ []
registers_read (GetField dst base f) = base ∷ []
registers_read (PutField base f src) = base ∷ src ∷ []
registers_read (GetElem dst array kind) = array ∷ []
registers_read (PutElem array src) = array ∷ src ∷ []
registers_read (Length dst array) = array ∷ []
registers_read (New dst site) = []
registers_read (NewArray dst site count) = count ∷ []
registers_read (Cast dst src class) = src ∷ []
registers_read (InstanceOf dst src class) = src ∷ []
registers_read (Call dst kind m args) = args
registers_read (Init c) = []
registers_read (Return src) = option_to_list src
registers_read (Pick dst c) = []
registers_read (NonNull src) = src ∷ []
registers_read Halt = []

-- the registers of a node's statement
abbrev pub registers_of : Node → List Reg
registers_of node = registers_set node.stmt ++ registers_read node.stmt

abbrev pub greater_of : ℕ → ℕ → ℕ
greater_of a b = if nat_lt a b then b else a

-- one more than the greatest of these numbers; 0 where there is none
abbrev pub least_above : List ℕ → ℕ
least_above [] = 0
least_above (x ∷ xs) = greater_of (x + 1) (least_above xs)

-- how many registers the program has: one more than the greatest that holds references, is a
-- parameter or stands in a statement
abbrev pub register_count : RegProgram → ℕ
register_count p = least_above (p.refs ++ map (λ r. r.0) (flat_map (λ m. m.params) p.methods ++ flat_map registers_of p.nodes))

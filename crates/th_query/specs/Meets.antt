-- When a state of the register machine meets a query.
use Rattle.std.specs.Prelude.{ℕ, ◌==◌, ◌≡◌, ◌≢◌, ⊤, true, ℤ, pos, negsuc, ◌≤ℤ◌, List, [], ◌∷◌, Option, Some, slice_get, if◌then◌else◌}
use Rattle.std.specs.Option.{option_map}
use Rattle.th_base.specs.declared.number.Reg.{Reg}
use Rattle.th_base.specs.declared.number.FieldId.{FieldId}
use Rattle.th_base.specs.IdSet.{has}
use Rattle.th_linear.specs.Forms.{Form, Holds}
use Rattle.th_ir.specs.Program.{Among}
use Rattle.th_ir.specs.Fields.{length_field}
use Rattle.th_ir.specs.Machine.{RegValue, IntValue, NullValue, Address, Contents, RegObject, RegFrame, RegState, PointsTo, field_value, element_value, length_of}
use Rattle.th_query.specs.declared.query.Frame.{Frame}
use Rattle.th_query.specs.declared.query.Link.{Link}
use Rattle.th_query.specs.declared.query.Slot.{Slot}
use Rattle.th_query.specs.declared.query.Slot.TheVariants.{Field, Elements}
use Rattle.th_query.specs.declared.query.Sym.{Sym}
use Rattle.th_query.specs.declared.query.Sym.TheVariants.{Ref, Int, Carry}
use Rattle.th_query.specs.declared.query.Query.{Query}
use Rattle.th_query.specs.Symbols.{links, is_named, is_number_symbol, symbol_at}

-- ---- values and symbols

-- an int is of 32 bits, a carry -1, 0 or 1
abbrev pub IsIntNumber : ℤ → Type 0
IsIntNumber z = (negsuc 2147483647 ≤ℤ z) × (z ≤ℤ pos 2147483647)

abbrev pub IsCarryNumber : ℤ → Type 0
IsCarryNumber z = (negsuc 0 ≤ℤ z) × (z ≤ℤ pos 1)

-- an address is that of an object from one of the sites
abbrev pub IsFrom : List RegObject → List ℕ → ℕ → Type 0
IsFrom heap sites a = (o : RegObject) × (slice_get heap a ≡ Some o) × (has sites o.site ≡ true)

-- the symbol may stand for the value
abbrev pub Allows : List RegObject → Sym → RegValue → Type 0
Allows heap (Ref null sites) (IntValue z) = ⊥
Allows heap (Ref null sites) NullValue = null ≡ true
Allows heap (Ref null sites) (Address a) = IsFrom heap sites a
Allows heap Int (IntValue z) = IsIntNumber z
Allows heap Int NullValue = ⊥
Allows heap Int (Address a) = ⊥
Allows heap Carry (IntValue z) = IsCarryNumber z
Allows heap Carry NullValue = ⊥
Allows heap Carry (Address a) = ⊥

-- the number of a value; 0 where it is none
abbrev pub number_of : RegValue → ℤ
number_of (IntValue z) = z
number_of NullValue = pos 0
number_of (Address a) = pos 0

-- ---- what an object holds

-- the length of an array is the value of its field LENGTH
abbrev pub field_read : ℕ → Contents → Option RegValue
field_read f contents = if f == length_field then option_map (λ n. IntValue (pos n)) (length_of contents) else field_value f contents

-- an object holds the value in the slot: in a field, or as some element
abbrev pub HoldsIn : Slot → Contents → RegValue → Type 0
HoldsIn (Field f) contents w = field_read f.0 contents ≡ Some w
HoldsIn Elements contents w = (k : ℕ) × (element_value k contents ≡ Some w)

-- the base is an object that holds the value in the slot
abbrev pub HoldsAt : List RegObject → Slot → RegValue → RegValue → Type 0
HoldsAt heap slot base w = (o : PointsTo heap base) × HoldsIn slot o.object.contents w

-- ---- the whole

-- the innermost frames stand at the query's nodes, and their registers have the values of their symbols
abbrev pub MeetFrames : (ℕ → RegValue) → List RegFrame → List Frame → Type 0
MeetFrames v fs [] = ⊤
MeetFrames v [] (g ∷ gs) = ⊥
MeetFrames v (f ∷ fs) (g ∷ gs) =
    (f.node ≡ g.node.0) × ((x : Reg × ℕ) → Among g.regs x → f.regs x.0.0 ≡ v x.1) × MeetFrames v fs gs

-- the values v of the symbols make all of the query true of the state. Numbers all have values; a
-- reference that nothing names is ignored, with its differences
pub record Meets (s : RegState) (q : Query) (v : ℕ → RegValue) : Type 0 where
  -- a query without frames is met by states without frames alone
  pub idle : q.frames ≡ [] → s.frames ≡ []
  pub frames : MeetFrames v s.frames q.frames
  pub statics : (x : FieldId × ℕ) → Among q.statics x → s.statics x.0.0 ≡ v x.1
  pub links : (k : Link) → Among (links q) k → HoldsAt s.heap k.slot (v k.base) (v k.value)
  pub named : (n : ℕ) (x : Sym) → is_named q n ≡ true → symbol_at q n ≡ Some x → Allows s.heap x (v n)
  pub numbers : (n : ℕ) (x : Sym) → is_number_symbol (Some x) ≡ true → symbol_at q n ≡ Some x → Allows s.heap x (v n)
  pub diffs : (d : ℕ × ℕ) → Among q.diffs d → is_named q d.0 ≡ true → is_named q d.1 ≡ true → v d.0 ≢ v d.1
  pub facts : (f : Form) → Among q.facts f → Holds f (λ n. number_of (v n))

-- the state meets the query: with some values
abbrev pub MeetsQuery : RegState → Query → Type 0
MeetsQuery s q = (v : ℕ → RegValue) × Meets s q v

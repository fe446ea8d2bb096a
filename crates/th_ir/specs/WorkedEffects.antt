-- Single statements and conditions, on a small state: what they do, and nothing else.
use Rattle.std.specs.Prelude.{ℕ, pos, negsuc, ◌≡◌, ◌==◌, Bool, List, [], ◌∷◌, if◌then◌else◌}
use Rattle.th_base.specs.declared.operation.Relation.{Relation}
use Rattle.th_ir.specs.declared.stmt.Stmt.{Stmt}
use Rattle.th_ir.specs.Machine.{RegValue, IntValue, NullValue, Address, RegObject, Array, RegState}
use Rattle.th_ir.specs.Effects.{Change, Effect, stand_in}
use Rattle.th_ir.specs.WorkedReceivers.{receivers_classes, receivers_program}

-- how a relation judges -1 and 2, 2 and 2, 2 and -1
abbrev pub judged : Relation → List Bool
judged r = stand_in r (negsuc 0) (pos 2) ∷ stand_in r (pos 2) (pos 2) ∷ stand_in r (pos 2) (negsuc 0) ∷ []

-- one object: an array of references, whose elements are null and its own address
abbrev pub effect_array : RegObject
effect_array = record { site = 2; contents = Array (NullValue ∷ Address 0 ∷ []) }

abbrev pub effect_state : RegState
effect_state = record { heap = effect_array ∷ []; statics = λ f. NullValue; frames = []; launched = [] }

-- registers 1 and 2 hold 7 and -3, register 3 null, all others the array's address
abbrev pub effect_regs : ℕ → RegValue
effect_regs r = if r == 1 then IntValue (pos 7) else if r == 2 then IntValue (negsuc 2) else if r == 3 then NullValue else Address 0

-- the statement may make the change
abbrev pub MayMake : Stmt → Change → Type 0
MayMake stmt c = Effect receivers_classes receivers_program effect_state effect_regs stmt c

-- the statement makes the change, and no other
abbrev pub MakesOnly : Stmt → Change → Type 0
MakesOnly stmt c = MayMake stmt c × ((other : Change) → MayMake stmt other → other ≡ c)

-- the statement makes no change
abbrev pub MakesNone : Stmt → Type 0
MakesNone stmt = (c : Change) → MayMake stmt c → ⊥

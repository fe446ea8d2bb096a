-- Where the instructions of a method stand: each behind the one before, from offset 0 on.
use Rattle.std.specs.Prelude.{ℕ, ◌+◌, ◌*◌, ◌-◌, ◌%◌, ◌&&◌, nat_le, Bool, true, List, [], ◌∷◌, length, map, slice_index}
use Rattle.th_syntax.specs.declared.instr.Instr.{Instr}
use Rattle.th_syntax.specs.declared.instr.Instr.TheVariants.{IfZero, IfInts, IfSame, IfOther, IfNull, IfNotNull, Goto, TableSwitch, LookupSwitch}
use Rattle.th_gen.specs.declared.item.PoolItem.{PoolItem}
use Rattle.th_gen.specs.declared.spelling.Spelling.{Spelling}
use Rattle.th_gen.specs.declared.spelling.Spelling.TheVariants.{Bare, Byte, Short, Wide, Increment, WideIncrement, Branch, Interface, Switch}
use Rattle.th_gen.specs.Spellings.{spelling_of}

-- ---- sizes

-- how many bytes lead from behind the opcode at `pc` to the next multiple of four
abbrev pub padding_size : ℕ → ℕ
padding_size pc = 3 - pc % 4

-- how many bytes a switch at `pc` takes
abbrev pub switch_size : ℕ → Instr → ℕ
switch_size pc (TableSwitch low targets other) = padding_size pc + 13 + 4 * length targets
switch_size pc (LookupSwitch pairs other) = padding_size pc + 9 + 8 * length pairs
switch_size pc other = 1

-- how many bytes an instruction of this spelling takes, at `pc`
abbrev pub size_by : ℕ → Instr → Spelling → ℕ
size_by pc i (Bare code) = 1
size_by pc i (Byte code operand) = 2
size_by pc i (Short code operand) = 3
size_by pc i (Wide code index) = 4
size_by pc i (Increment index by) = 3
size_by pc i (WideIncrement index by) = 6
size_by pc i (Branch code target) = 3
size_by pc i (Interface index) = 5
size_by pc i (Switch code) = switch_size pc i

unfoldable pub size_of : List PoolItem → ℕ → Instr → ℕ
size_of pool pc i = size_by pc i (spelling_of pool i)

-- ---- offsets

-- the offsets of instructions, the first of which stands at `pc`
abbrev pub starts_from : List PoolItem → ℕ → List Instr → List ℕ
starts_from pool pc [] = []
starts_from pool pc (i ∷ instrs) = pc ∷ starts_from pool (pc + size_of pool pc i) instrs

-- the offset behind instructions, the first of which stands at `pc`
abbrev pub code_end : List PoolItem → ℕ → List Instr → ℕ
code_end pool pc [] = pc
code_end pool pc (i ∷ instrs) = code_end pool (pc + size_of pool pc i) instrs

-- the offsets of a method's instructions, and the length of its code
unfoldable pub starts_of : List PoolItem → List Instr → List ℕ
starts_of pool instrs = starts_from pool 0 instrs

unfoldable pub code_length : List PoolItem → List Instr → ℕ
code_length pool instrs = code_end pool 0 instrs

-- ---- branches

-- the offset of the instruction at a place
abbrev pub start_at : List ℕ → ℕ → ℕ
start_at starts place = slice_index starts place

-- the instruction with offsets in place of places
abbrev pub retargeted : List ℕ → Instr → Instr
retargeted starts (IfZero relation place) = IfZero relation (start_at starts place)
retargeted starts (IfInts relation place) = IfInts relation (start_at starts place)
retargeted starts (IfSame place) = IfSame (start_at starts place)
retargeted starts (IfOther place) = IfOther (start_at starts place)
retargeted starts (IfNull place) = IfNull (start_at starts place)
retargeted starts (IfNotNull place) = IfNotNull (start_at starts place)
retargeted starts (Goto place) = Goto (start_at starts place)
retargeted starts (TableSwitch low places other) = TableSwitch low (map (start_at starts) places) (start_at starts other)
retargeted starts (LookupSwitch pairs other) = LookupSwitch (map (λ pair. (pair.0, start_at starts pair.1)) pairs) (start_at starts other)
retargeted starts other = other

-- instructions, each at its offset
abbrev pub placed_from : List ℕ → List ℕ → List Instr → List (ℕ × Instr)
placed_from starts [] instrs = []
placed_from starts (pc ∷ pcs) [] = []
placed_from starts (pc ∷ pcs) (i ∷ instrs) = (pc, retargeted starts i) ∷ placed_from starts pcs instrs

unfoldable pub placed_by : List ℕ → List Instr → List (ℕ × Instr)
placed_by starts instrs = placed_from starts starts instrs

-- ---- offsets of two bytes

-- an offset of two bytes leads from one offset in the code to another
abbrev pub is_near : ℕ → ℕ → Bool
is_near pc to = nat_le to (pc + 32767) && nat_le pc (to + 32768)

-- a branch by an offset of two bytes, at `pc`, has room for it
abbrev pub reaches : List ℕ → ℕ → Instr → Bool
reaches starts pc (IfZero relation place) = is_near pc (start_at starts place)
reaches starts pc (IfInts relation place) = is_near pc (start_at starts place)
reaches starts pc (IfSame place) = is_near pc (start_at starts place)
reaches starts pc (IfOther place) = is_near pc (start_at starts place)
reaches starts pc (IfNull place) = is_near pc (start_at starts place)
reaches starts pc (IfNotNull place) = is_near pc (start_at starts place)
reaches starts pc (Goto place) = is_near pc (start_at starts place)
reaches starts pc other = true

-- each branch of instructions at these offsets
abbrev pub all_reach : List ℕ → List ℕ → List Instr → Bool
all_reach starts [] instrs = true
all_reach starts (pc ∷ pcs) [] = true
all_reach starts (pc ∷ pcs) (i ∷ instrs) = reaches starts pc i && all_reach starts pcs instrs

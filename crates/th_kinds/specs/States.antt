-- What contracts see of what is known before an instruction, and how much may still be lost of it.
use Rattle.std.specs.Prelude.{ℕ, zero, suc, ◌+◌, ◌^◌, List, [], ◌∷◌, reverse}
use Rattle.th_syntax.specs.declared.kind.SlotKind.{SlotKind}
use Rattle.th_syntax.specs.declared.kind.SlotKind.TheVariants as kind
use Rattle.th_syntax.specs.Kinds.{KindsAt, NoKinds, OfKinds, DepthsDiffer, merged}
use Rattle.th_kinds.specs.declared.state.State.{State}
use Rattle.th_kinds.specs.declared.state.State.TheVariants as state

abbrev pub seen_state : State → KindsAt
seen_state state.NoKinds = NoKinds
seen_state (state.OfKinds frame) = OfKinds frame.locals.items (reverse frame.stack.items)
seen_state state.DepthsDiffer = DepthsDiffer

-- ---- slots that are merged from the front on

-- the first so many slots merged with those that are brought
abbrev pub merged_front : ℕ → List SlotKind → List SlotKind → List SlotKind
merged_front zero brought known = known
merged_front (suc n) brought [] = []
merged_front (suc n) [] (k ∷ known) = k ∷ known
merged_front (suc n) (b ∷ brought) (k ∷ known) = merged b k ∷ merged_front n brought known

-- ---- how much may be lost

-- a slot may become unusable, and go
abbrev pub slot_room : SlotKind → ℕ
slot_room kind.Unusable = 1
slot_room other = 2

abbrev pub slots_room : List SlotKind → ℕ
slots_room [] = 0
slots_room (k ∷ slots) = slot_room k + slots_room slots

abbrev pub state_room : State → ℕ
state_room state.NoKinds = 2 ^ 67
state_room (state.OfKinds frame) = 1 + slots_room frame.locals.items + slots_room frame.stack.items
state_room state.DepthsDiffer = 0

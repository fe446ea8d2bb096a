-- Kinds of slots, and how those that several paths bring to one instruction are merged (Java
-- specification 4.10.2.2). An operand stack is a list, the top first.
use Rattle.std.specs.Prelude.{◌==◌, Bool, true, false, List, [], ◌∷◌, length, if◌then◌else◌}
pub use Rattle.th_syntax.specs.declared.kind.SlotKind.{SlotKind}
use Rattle.th_syntax.specs.declared.kind.SlotKind.TheVariants as kind

-- ---- kinds

abbrev pub is_same_kind : SlotKind → SlotKind → Bool
is_same_kind kind.Int kind.Int = true
is_same_kind kind.Ref kind.Ref = true
is_same_kind kind.Long kind.Long = true
is_same_kind kind.SecondHalf kind.SecondHalf = true
is_same_kind kind.Unusable kind.Unusable = true
is_same_kind a b = false

abbrev pub are_same_kinds : List SlotKind → List SlotKind → Bool
are_same_kinds [] [] = true
are_same_kinds [] (b ∷ bs) = false
are_same_kinds (a ∷ ks) [] = false
are_same_kinds (a ∷ ks) (b ∷ bs) = if is_same_kind a b then are_same_kinds ks bs else false

-- the kind of a slot to which two paths bring these: two different kinds make it unusable
abbrev pub merged : SlotKind → SlotKind → SlotKind
merged a b = if is_same_kind a b then a else kind.Unusable

abbrev pub merged_slots : List SlotKind → List SlotKind → List SlotKind
merged_slots [] bs = []
merged_slots (a ∷ ks) [] = []
merged_slots (a ∷ ks) (b ∷ bs) = merged a b ∷ merged_slots ks bs

-- ---- what is known before an instruction

pub data KindsAt : Type 0 where
  -- no path brings anything
  NoKinds : KindsAt
  -- the kinds of the locals and of the operand stack
  OfKinds : (locals stack : List SlotKind) → KindsAt
  -- paths bring operand stacks of different depths, or one that has lacked operands
  DepthsDiffer : KindsAt

-- what two paths bring together: where their depths differ, no kinds are known
abbrev pub merged_at : KindsAt → KindsAt → KindsAt
merged_at NoKinds t = t
merged_at DepthsDiffer t = DepthsDiffer
merged_at (OfKinds locals stack) NoKinds = OfKinds locals stack
merged_at (OfKinds locals stack) DepthsDiffer = DepthsDiffer
merged_at (OfKinds locals stack) (OfKinds others below) =
    if length stack == length below then OfKinds (merged_slots locals others) (merged_slots stack below) else DepthsDiffer

-- What contracts see of a row.
use Rattle.th_pool.specs.declared.shape.Slot.{Slot}
use Rattle.th_pool.specs.declared.shape.Slot.TheVariants as slot
use Rattle.th_syntax.specs.declared.kind.SlotKind.TheVariants as kind
use Rattle.th_syntax.specs.declared.kind.SlotKind.{SlotKind}
use Rattle.th_kinds.specs.declared.row.Row.{Row}
use Rattle.th_kinds.specs.declared.row.Row.TheVariants as row
use Rattle.th_syntax.specs.KindRows.{KindRow, Works, Loads, Stores, Increments, move_row}

abbrev pub seen_row : Row → KindRow
seen_row (row.Works takes gives) = Works takes gives
seen_row (row.Loads value local) = Loads value local
seen_row (row.Stores value local) = Stores value local
seen_row (row.Increments local) = Increments local
seen_row (row.Moves op) = move_row op

-- the kind of a value that a descriptor asks for
abbrev pub seen_slot : Slot → SlotKind
seen_slot slot.Int = kind.Int
seen_slot slot.Long = kind.Long
seen_slot slot.Ref = kind.Ref

-- What contracts see of the instructions of a method as they are gone through.
use Rattle.std.specs.Prelude.{◌≡◌, ℕ, ◌<◌, List, [], ◌∷◌, length, map, All, Contains}
use Rattle.th_syntax.specs.KindRows.{KindRow, row_of}
use Rattle.th_kinds.specs.declared.listing.Listing.{Listing}
use Rattle.th_kinds.specs.declared.row.Row.{Row}
use Rattle.th_kinds.specs.Rows.{seen_row}
use Rattle.th_kinds.specs.Walk.{line, jumps}
use Rattle.th_kinds.specs.Kept.{Ascend}

abbrev pub seen_rows : List Row → List KindRow
seen_rows [] = []
seen_rows (row ∷ rows) = seen_row row ∷ seen_rows rows

-- the offsets and the rows are those of the instructions; offsets ascend, and each jump lands on one
pub record IsReady (code : Listing) : Type 0 where
  pub offsets : code.offsets.items ≡ map (λ i. i.0) code.instrs.now
  pub rows : seen_rows code.rows.items ≡ map (λ i. row_of i.1) code.instrs.now
  pub ascending : Ascend code.offsets.items
  pub there : (k : ℕ) → k < length code.instrs.now → All (λ target. Contains code.offsets.items target) (jumps (line code.instrs.now k).1)

-- What contracts see of a table and of a seat.
use Rattle.std.specs.Prelude.{ℕ}
use Rattle.atomic_table.specs.Seated.{TableId}
use Rattle.th_edge_table.specs.declared.word.Claim.{Claim}
use Rattle.th_edge_table.specs.declared.word.Claim.TheVariants.{Got, Taken}
use Rattle.th_edge_table.specs.declared.word.Word.{Word}
use Rattle.th_edge_table.specs.declared.word.Word.TheVariants.{Free}
use Rattle.th_edge_table.specs.declared.state.CoreSeat.{CoreSeat}

-- a table: which one it is, and how many edges it has
pub record Board : Type 0 where
  pub id : TableId
  pub edges : ℕ

-- a seat: which table it is of, and what it knows and has done
pub record Place : Type 0 where
  pub table : TableId
  pub view : CoreSeat

abbrev pub at : TableId → CoreSeat → Place
at t v = record { table = t; view = v }

-- the word that a claim found
abbrev pub found_by : Claim → Word
found_by Got = Free
found_by (Taken w) = w

-- Where a walk through kinds stands.
use Rattle.std.specs.Prelude.{◌≡◌, List, [], ◌∷◌, reverse, Option, None, Some}
use Rattle.th_syntax.specs.KindTable.{KindsBefore}
use Rattle.th_kinds.specs.declared.table.KindsRow.{KindsRow}

-- the kinds of a row
abbrev pub row_kinds : KindsRow → KindsBefore
row_kinds row = record { offset = row.offset; locals = row.locals.now; stack = reverse row.stack.now }

-- the row is the first of the kinds that are still to come; there is none where none come
abbrev pub IsHere : List KindsBefore → Option KindsRow → Type 0
IsHere ahead None = ahead ≡ []
IsHere ahead (Some row) = (rest : List KindsBefore) × (ahead ≡ row_kinds row ∷ rest)

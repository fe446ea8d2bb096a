-- What the content of attributes holds.
use Rattle.std.specs.Prelude.{ℕ, ◌==◌, List, length, Option, Some, None, if◌then◌else◌}
use Rattle.th_syntax.specs.Forms.{number_of}

-- the index that two bytes are, and no other number of bytes
abbrev pub index_in : List ℕ → Option ℕ
index_in bytes = if length bytes == 2 then Some (number_of bytes) else None

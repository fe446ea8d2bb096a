-- Where instructions start, and the first one that leads to where none does.
use Rattle.std.specs.Prelude.{ℕ, List, [], ◌∷◌, Bool, false, Option, Some, None, unwrap_or, slice_get, if◌then◌else◌}
use Rattle.std.specs.List.{list_all}
use Rattle.th_syntax.specs.declared.instr.Instr.{Instr}
use Rattle.th_syntax.specs.Flow.{leads_to}
use Rattle.th_syntax.specs.Decoding.{offset_behind}

-- whether this offset is marked
abbrev pub is_marked : List Bool → ℕ → Bool
is_marked starts offset = unwrap_or (slice_get starts offset) false

-- the offset of the first instruction that leads to an offset which fails the test
abbrev pub first_stray_of : (ℕ → Bool) → List (ℕ × Instr) → Option ℕ
first_stray_of test [] = None
first_stray_of test (one ∷ more) = if list_all test (leads_to (offset_behind more ∷ []) one.1) then first_stray_of test more else Some one.0

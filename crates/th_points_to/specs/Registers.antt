-- The least number above numbers.
use Rattle.std.specs.Prelude.{ℕ, ◌≡◌, List}
use Rattle.th_ir.specs.Program.{least_above, greater_of}

-- the greater of a count and of the least number above all these
abbrev pub IsAbove : ℕ → List ℕ → ℕ → Type 0
IsAbove count numbers most = most ≡ greater_of count (least_above numbers)

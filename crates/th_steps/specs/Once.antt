-- Lists without repeats.
use Rattle.std.specs.Prelude.{ℕ, ⊤, ◌≡◌, false, List, [], ◌∷◌}
use Rattle.th_base.specs.IdSet.{has}

-- no number stands twice
abbrev pub IsOnce : List ℕ → Type 0
IsOnce [] = ⊤
IsOnce (x ∷ xs) = (has xs x ≡ false) × IsOnce xs
